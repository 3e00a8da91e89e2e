-- Generators. docs/SCOPE.md 3.3: "It is a list of n-k+1 bits, place i its coefficient of x^i, whose top bit is 1."
use Rattle.std.specs.Prelude.{◌≡◌, List, ℕ, ◌+◌, ◌*◌, ◌≤◌, length, get_or}
use Rattle.bits.specs.Bits.{AreBits}
use Rattle.codes.specs.Sums.{sum_of}

-- the generator of (m, t), d being n - k: d + 1 bits, the top one 1, whose sums S_1 to S_2t vanish
pub record Generator (m t d : ℕ) (g : List ℕ) : Type 0 where
  pub long : length g ≡ d + 1
  pub bits : AreBits g
  pub top : get_or g d 0 ≡ 1
  pub sums : (j : ℕ) → 1 ≤ j → j ≤ 2 * t → sum_of m j g ≡ 0
