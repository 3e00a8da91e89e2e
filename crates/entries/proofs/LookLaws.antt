-- Looking at the front of a row: what is told of the front is told of so many entries of the row.
use mathlib.Core.Path.{◌≡◌, ◌∙◌, sym, ap}
use mathlib.Core.Bool.{Bool, true, false≢true}
use mathlib.Core.List.{List}
use Prim.Native.Nat.{ℕ, ◌≤◌, ◌<◌}
use native.Mathlib.Omega.{arith}
use lib.Dec.{eqb}
use lib.ListN.{length, get_or, take}
use lib.Pointwise.{pointwise, bytes_decides}
use lib.Seq.{ext_get_or, get_or-take, length-take-le}
use Rattle.entries.specs.Entries.{AllZero, Same}

pub front_zero : {t : ℕ} {r : Bool} (xs : List ℕ) → t ≤ length xs → AllZero (length (take t xs)) (take t xs) r → AllZero t xs r
front_zero {t} xs h z =
    record {
      yes = λ e i k. sym (get_or-take t xs i 0 k) ∙ z.yes e i (omega (arith, length-take-le t xs h));
      no = λ e f. z.no e (λ i k. let l : i < t = omega (arith, length-take-le t xs h) in get_or-take t xs i 0 l ∙ f i l);
    }

pub fronts_same : {t : ℕ} {r : Bool} (xs ys : List ℕ) → t ≤ length xs → t ≤ length ys → r ≡ pointwise eqb (take t xs) (take t ys) → Same t xs ys r
fronts_same {t} {r} xs ys h k q =
    record {
      yes = λ e i l. sym (get_or-take t xs i 0 l) ∙ ap (λ (zs : List ℕ). get_or zs i 0) (told.0 (sym q ∙ e)) ∙ get_or-take t ys i 0 l;
      no = λ e f. false≢true (sym e ∙ q ∙ told.1 (ext_get_or 0 (take t xs) (take t ys) (long ∙ sym (length-take-le t ys k)) (alike f)));
    }
  where
    told : (pointwise eqb (take t xs) (take t ys) ≡ true → take t xs ≡ take t ys) × (take t xs ≡ take t ys → pointwise eqb (take t xs) (take t ys) ≡ true)
    told = bytes_decides (take t xs) (take t ys)

    long : length (take t xs) ≡ t
    long = length-take-le t xs h

    alike : ((i : ℕ) → i < t → get_or xs i 0 ≡ get_or ys i 0) → (i : ℕ) → i < length (take t xs) → get_or (take t xs) i 0 ≡ get_or (take t ys) i 0
    alike f i l = let b : i < t = omega (arith, long) in get_or-take t xs i 0 b ∙ f i b ∙ sym (get_or-take t ys i 0 b)
