-- The sums of a word, and what a code word is. docs/SCOPE.md 3.1: "S_j is the field sum of a^(i*j) over the places i that hold 1."
use Rattle.std.specs.Prelude.{◌≡◌, List, [], ◌∷◌, ℕ, suc, ◌*◌, ◌≤◌, length}
use Rattle.bits.specs.Bits.{AreBits}
use Rattle.field.specs.Sum.{◌⊕◌}
use Rattle.field.specs.Power.{a, n_of, power}

-- the field sum of a^(i*j) over the places i that hold 1, the first place counted as i
unfoldable pub sum_from : ℕ → ℕ → ℕ → List ℕ → ℕ
sum_from m j i [] = 0
sum_from m j i (b ∷ bs) = b * power m a (i * j) ⊕ sum_from m j (suc i) bs

-- S_j
unfoldable pub sum_of : ℕ → ℕ → List ℕ → ℕ
sum_of m j bits = sum_from m j 0 bits

-- the field sum of a^(p*j) over a list of places p
unfoldable pub sum_over : ℕ → ℕ → List ℕ → ℕ
sum_over m j [] = 0
sum_over m j (p ∷ ps) = power m a (p * j) ⊕ sum_over m j ps

-- docs/SCOPE.md 3.2: "The code of (m, t) is every list of n bits c with c(a^j) = 0 for j = 1 to 2t."
pub record CodeWord (m t : ℕ) (c : List ℕ) : Type 0 where
  pub long : length c ≡ n_of m
  pub bits : AreBits c
  pub sums : (j : ℕ) → 1 ≤ j → j ≤ 2 * t → sum_of m j c ≡ 0
