-- What it is to carry a message. docs/SCOPE.md 3.5: "parity in places 0 to n-k-1, message place i in place n-k+i".
use Rattle.std.specs.Prelude.{◌≡◌, List, ℕ, ◌+◌, ◌-◌, ◌<◌, get_or}
use Rattle.field.specs.Power.{n_of}
use Rattle.codes.specs.Sums.{CodeWord}

-- the code word of (m, t) that carries the k bits of the message in its top places
pub record Encoding (m t k : ℕ) (message word : List ℕ) : Type 0 where
  pub code_word : CodeWord m t word
  pub carries : (i : ℕ) → i < k → get_or word (n_of m - k + i) 0 ≡ get_or message i 0
