-- What it is to find wrong places from sums. docs/SCOPE.md 4.10: "the set of at most t places below n whose sums are the stored ones".
use Rattle.std.specs.Prelude.{◌≡◌, ℕ, ◌+◌, ◌*◌, ◌≤◌, ◌<◌, length, get_or}
use mathlib.Core.List.{List, Memᴰ}
use Rattle.bits.specs.Differences.{Ascending}
use Rattle.field.specs.Power.{n_of}
use Rattle.codes.specs.Sums.{sum_over}

-- an ascending list of places below n, at most t long, whose sums for the odd j up to 2t - 1 are the given ones
pub record Located (m t : ℕ) (sums places : List ℕ) : Type 0 where
  pub ascending : Ascending places
  pub below : (p : ℕ) → Memᴰ p places → p < n_of m
  pub few : length places ≤ t
  pub same : (i : ℕ) → i < t → sum_over m (2 * i + 1) places ≡ get_or sums i 0
