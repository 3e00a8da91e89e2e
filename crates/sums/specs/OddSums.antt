-- The row of odd sums: entry i is S_(2i+1). docs/SCOPE.md 3.1: "the odd ones S_1, S_3, .. S_(2t-1) are enough".
use Rattle.std.specs.Prelude.{◌≡◌, List, ℕ, ◌+◌, ◌*◌, ◌≤◌, ◌<◌, length, get_or}
use Rattle.codes.specs.Sums.{sum_of}

-- 255 entries: the first t are the odd sums of a word, the others 0
pub record OddSums (m t : ℕ) (word sums : List ℕ) : Type 0 where
  pub long : 255 ≡ length sums
  pub holds : (i : ℕ) → i < t → get_or sums i 0 ≡ sum_of m (2 * i + 1) word
  pub rest : (i : ℕ) → t ≤ i → get_or sums i 0 ≡ 0
