-- Lists given by their entries.
use mathlib.Core.Path.{◌≡◌, ◌∙◌, refl, sym, ap, subst}
use mathlib.Core.Bool.{Bool, true, false, not, cond}
use mathlib.Core.List.{List}
use Prim.Native.Nat.{ℕ, zero, suc, ◌≤◌, ◌<◌}
use native.Mathlib.Nat.{le_antisymm}
use native.Mathlib.Decide.{dec_lt}
use native.Mathlib.Omega.{arith}
use borrow.Author.Tests.{ltb-false}
use lib.ListN.{length, get_or, get_or-eq_default}
use lib.Seq.{ext_get_or}
use Rattle.std.proofs.Common.{Some, None}
use Rattle.std.specs.Prelude.{ltb, position}
use Rattle.std.specs.List.{position_or_len}
use Rattle.std.specs.Option.{unwrap_or}
use Rattle.std.proofs.lemmas.List.Sums.{prefix_len-le-length}
use Rattle.bits.specs.Bits.{AreBits, list_of}

pub length_list : (n : ℕ) (f : ℕ → ℕ) → length (list_of n f) ≡ n
unfolding list_of
length_list zero f = refl
length_list (suc n) f = ap suc (length_list n (λ i. f (suc i)))

pub list_at : (n : ℕ) (f : ℕ → ℕ) (i : ℕ) → i < n → get_or (list_of n f) i 0 ≡ f i
unfolding list_of
list_at zero f i h = absurd (omega arith)
list_at (suc n) f zero h = refl
list_at (suc n) f (suc i) h = list_at n (λ j. f (suc j)) i (omega arith)

-- a list of n entries that are those of f
pub list_is : (n : ℕ) (f : ℕ → ℕ) (xs : List ℕ) → length xs ≡ n → ((i : ℕ) → i < n → get_or xs i 0 ≡ f i) → xs ≡ list_of n f
list_is n f xs l e =
    ext_get_or 0 xs (list_of n f) (l ∙ sym (length_list n f)) (λ i h. let k : i < n = subst (λ (m : ℕ). i < m) l h in e i k ∙ sym (list_at n f i k))

pub bits_list : (n : ℕ) {f : ℕ → ℕ} → ((i : ℕ) → f i ≤ 1) → AreBits (list_of n f)
bits_list n {f} small = record { at = λ i. pick i (dec_lt i n) }
  where
    pick : (i : ℕ) → Dec (i < n) → get_or (list_of n f) i 0 ≤ 1
    pick i (yes h) = rw (list_at n f i h) (small i)
    pick i (no h) = omega (arith, get_or-eq_default (list_of n f) 0 {n = i} (omega (arith, length_list n f)))

-- where a search for the first entry that passes gives the length if none does, it gives std's place
pub position_or_end : (p : ℕ → Bool) (xs : List ℕ) → unwrap_or (position p xs) (length xs) ≡ position_or_len p xs
position_or_end p xs = pick (ltb (position_or_len p xs) (length xs)) refl
  where
    pick : (b : Bool) → ltb (position_or_len p xs) (length xs) ≡ b → unwrap_or (cond b (Some (position_or_len p xs)) None) (length xs) ≡ position_or_len p xs
    pick true e = refl
    pick false e = le_antisymm (ltb-false (position_or_len p xs) (length xs) e) (prefix_len-le-length (λ x. not (p x)) xs)
