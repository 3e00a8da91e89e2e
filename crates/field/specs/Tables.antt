-- What the two tables hold for the m in use; no promise rests on it.
use Rattle.std.specs.Prelude.{◌≡◌, List, ℕ, ◌*◌, ◌^◌, ◌≤◌, ◌<◌, length, get_or}
use Rattle.field.specs.Product.{IsField}
use Rattle.field.specs.Power.{a, n_of, power}

-- place i holds a^i, twice around, so that the sum of two logarithms is a place
pub record Powers (m : ℕ) (powers : List ℕ) : Type 0 where
  pub long : 2 * n_of m ≤ length powers
  pub holds : (i : ℕ) → i < 2 * n_of m → get_or powers i 0 ≡ power m a i

-- place a^i holds i
pub record Logs (m : ℕ) (logs : List ℕ) : Type 0 where
  pub long : 2 ^ m ≤ length logs
  pub holds : (i : ℕ) → i < n_of m → get_or logs (power m a i) 0 ≡ i

-- the two tables by which the product is worked out, for an m from 3 to 10
pub record Tables (m : ℕ) (powers logs : List ℕ) : Type 0 where
  pub listed : IsField m
  pub powers_hold : Powers m powers
  pub logs_hold : Logs m logs
