-- Rows of odd sums: entry i stands for S_(2i+1); no promise rests on it.
use Rattle.std.specs.Prelude.{◌≡◌, List, ℕ, ◌+◌, ◌*◌, ◌≤◌, ◌<◌, length, get_or, take}
use Rattle.field.specs.Sum.{◌⊕◌}
use Rattle.field.specs.Product.{IsField}
use Rattle.field.specs.Power.{power}
use Rattle.codes.specs.Sums.{sum_of, sum_over}

-- x^(2i+1) is added
abbrev pub plus_power : ℕ → ℕ → List ℕ → ℕ → ℕ
plus_power m x before i = get_or before i 0 ⊕ power m x (2 * i + 1)

-- S_(2i+1) of a word, and of a list of places
abbrev pub word_sum : ℕ → List ℕ → ℕ → ℕ
word_sum m word i = sum_of m (2 * i + 1) word

abbrev pub place_sum : ℕ → List ℕ → ℕ → ℕ
place_sum m places i = sum_over m (2 * i + 1) places

-- the first `count` entries are places of a word, and have its sums
pub record Ones (word : List ℕ) (count : ℕ) (places : List ℕ) : Type 0 where
  pub within : count ≤ length places
  pub below : (i : ℕ) → i < count → get_or places i 0 < length word
  pub same : {m : ℕ} → IsField m → (j : ℕ) → sum_over m j (take count places) ≡ sum_of m j word
