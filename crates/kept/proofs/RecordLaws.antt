-- Check 7: looking at the sums, and what a record that passes holds.
use mathlib.Core.Path.{◌≡◌, ◌∙◌, refl, sym, ap, ap₂}
use mathlib.Core.Bool.{Bool, true, false, ◌||◌, true≢false}
use mathlib.Core.List.{List, [], ◌∷◌}
use Prim.Native.Nat.{ℕ, zero, suc, ◌^◌, ◌≤◌, ◌<◌}
use native.Mathlib.Decide.{dec_le, dec_lt}
use native.Mathlib.Omega.{arith}
use borrow.Author.Tests.{le-leb, lt-leb}
use lib.Dec.{leb}
use lib.ListN.{get_or, take, length-take, get_or-eq_default}
use lib.Pow.{pow_pos}
use lib.Seq.{get_or-take}
use Rattle.std.specs.List.{list_any}
use Rattle.bits.specs.Bits.{has_bad_bit}
use Rattle.bits.proofs.BitLaws.{not_bad, bits_of_not_bad}
use Rattle.codes.specs.declared.Code.{Code}
use Rattle.kept.specs.declared.Kept.{Kept}
use Rattle.kept.specs.Record.{some_at_least, bad_record}
use Rattle.kept.specs.Work.{Sound}

-- two records with the same parts
pub kept_same : {stored other : Kept} → stored.m ≡ other.m → stored.t ≡ other.t → stored.bits ≡ other.bits → stored.sums ≡ other.sums → stored ≡ other
kept_same {stored} {other} a b c d =
    ap₂ (λ (x y : ℕ). of x y stored.bits stored.sums) a b ∙ ap₂ (λ (x y : List ℕ). of other.m other.t x y) c d
  where
    of : ℕ → ℕ → List ℕ → List ℕ → Kept
    of m t bits sums = record { m = m; t = t; bits = bits; sums = sums }

none_at_least : (bound : ℕ) → some_at_least bound [] ≡ false
unfolding some_at_least
none_at_least bound = refl

first_high : {bound x : ℕ} (xs : List ℕ) → bound ≤ x → some_at_least bound (x ∷ xs) ≡ true
unfolding some_at_least
first_high {bound} {x} xs h = ap (λ (b : Bool). b || some_at_least bound xs) (le-leb bound x h)

first_low : {bound x : ℕ} (xs : List ℕ) → x < bound → some_at_least bound (x ∷ xs) ≡ some_at_least bound xs
unfolding some_at_least
first_low {bound} {x} xs h = ap (λ (b : Bool). b || some_at_least bound xs) (lt-leb bound x h)

-- one of them is: std's word for it
pub any_at_least : (bound : ℕ) (xs : List ℕ) → list_any (λ x. leb bound x) xs ≡ some_at_least bound xs
unfolding some_at_least
any_at_least bound [] = refl
any_at_least bound (x ∷ xs) = ap (λ (b : Bool). leb bound x || b) (any_at_least bound xs)

all_below : {bound : ℕ} (xs : List ℕ) → 0 < bound → some_at_least bound xs ≡ false → (i : ℕ) → get_or xs i 0 < bound
all_below [] z e i = z
all_below {bound} (x ∷ xs) z e i = pick (dec_le bound x) (all_below xs z) i
  where
    pick : Dec (bound ≤ x) → (some_at_least bound xs ≡ false → (i : ℕ) → get_or xs i 0 < bound) → (i : ℕ) → get_or (x ∷ xs) i 0 < bound
    pick (yes h) rest i = absurd (true≢false (sym (first_high xs h) ∙ e))
    pick (no h) rest zero = omega arith
    pick (no h) rest (suc i) = rest (sym (first_low xs (omega arith)) ∙ e) i

none_high : {bound : ℕ} (xs : List ℕ) → ((i : ℕ) → get_or xs i 0 < bound) → some_at_least bound xs ≡ false
none_high {bound} [] h = none_at_least bound
none_high (x ∷ xs) h = first_low xs (h 0) ∙ none_high xs (λ i. h (suc i))

pub sound : (c : Code) (stored : Kept) → bad_record c stored ≡ false → Sound c stored
sound c stored e =
    let (b, s) = neither (has_bad_bit (take c.n stored.bits)) (some_at_least (2 ^ c.m) (take c.t stored.sums)) e in
    record {
      bits = bits_of_not_bad (take c.n stored.bits) b;
      sums = λ i h. rw (← get_or-take c.t stored.sums i 0 h) (all_below (take c.t stored.sums) (pow_pos c.m) s i);
    }
  where
    neither : (a b : Bool) → a || b ≡ false → (a ≡ false) × (b ≡ false)
    neither true b e = absurd (true≢false e)
    neither false b e = (refl, e)

pub sound_passes : (c : Code) (stored : Kept) → Sound c stored → bad_record c stored ≡ false
sound_passes c stored s = rw (not_bad s.bits) (none_high (take c.t stored.sums) (λ i. pick i (dec_lt i c.t)))
  where
    pick : (i : ℕ) → Dec (i < c.t) → get_or (take c.t stored.sums) i 0 < 2 ^ c.m
    pick i (yes h) = rw (get_or-take c.t stored.sums i 0 h) (s.sums i h)
    pick i (no n) =
        rw (get_or-eq_default (take c.t stored.sums) 0 {n = i} (omega (arith, length-take c.t stored.sums))) (pow_pos c.m)
