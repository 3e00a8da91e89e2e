-- Minimal polynomials, as lists of bits: place i holds the coefficient of x^i.
-- docs/SCOPE.md 3.3: "The minimal polynomial of a^i is the polynomial over bits of the least degree, other than 0, that has the root a^i."
use Rattle.std.specs.Prelude.{◌≡◌, List, ℕ, ◌+◌, ◌≤◌, length, get_or}
use Rattle.bits.specs.Bits.{AreBits}
use Rattle.codes.specs.Sums.{sum_of}

-- the minimal polynomial of a^i, d + 1 bits: of degree d, with the root a^i, and no polynomial of a smaller degree but 0 has that root
pub record Minimal (m i d : ℕ) (p : List ℕ) : Type 0 where
  pub long : length p ≡ d + 1
  pub bits : AreBits p
  pub top : get_or p d 0 ≡ 1
  pub root : sum_of m i p ≡ 0
  pub least : (q : List ℕ) → AreBits q → ((j : ℕ) → d ≤ j → get_or q j 0 ≡ 0) → sum_of m i q ≡ 0 → (j : ℕ) → get_or q j 0 ≡ 0
