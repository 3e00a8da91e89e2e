-- Bits in lists. docs/SCOPE.md 4.1: "Bits are lent one to a byte, 0 or 1, except in frames and books."
use Rattle.std.specs.Prelude.{Bool, cond, List, [], ◌∷◌, ℕ, zero, suc, ◌+◌, ◌-◌, ◌≤◌, leb, ltb, length, get_or, set}
use Rattle.std.specs.Int.Bits.{bit_xor}

-- the list of n entries whose entry i is f i
unfoldable pub list_of : ℕ → (ℕ → ℕ) → List ℕ
list_of zero f = []
list_of (suc n) f = f 0 ∷ list_of n (λ i. f (suc i))

-- every place holds 0 or 1
pub record AreBits (xs : List ℕ) : Type 0 where
  pub at : (i : ℕ) → get_or xs i 0 ≤ 1

-- the first place that holds more than 1, or the length where there is none
unfoldable pub first_above : List ℕ → ℕ
first_above [] = 0
first_above (x ∷ xs) = cond (leb x 1) (suc (first_above xs)) 0

-- one of a lent slice's places holds more than 1
abbrev pub has_bad_bit : List ℕ → Bool
has_bad_bit xs = ltb (first_above xs) (length xs)

-- So many places from `start` on run past the end; these are plain numbers, so nothing wraps.
-- docs/SCOPE.md 4.1: "A stretch runs past the end if its start is past the end or if it is longer than what is left from its start on."
abbrev pub runs_past : ℕ → ℕ → ℕ → Bool
runs_past start long end = ltb end (start + long)

-- ys added into xs from its first place on: exclusive-or, place by place
unfoldable pub added : List ℕ → List ℕ → List ℕ
added [] ys = []
added (x ∷ xs) [] = x ∷ xs
added (x ∷ xs) (y ∷ ys) = bit_xor x y ∷ added xs ys

-- the bit at place p turned over
unfoldable pub flip : List ℕ → ℕ → List ℕ
flip xs p = set xs p (1 - get_or xs p 0)

-- the bits at all places of the list turned over, one after another
unfoldable pub flipped : List ℕ → List ℕ → List ℕ
flipped xs [] = xs
flipped xs (p ∷ ps) = flipped (flip xs p) ps
