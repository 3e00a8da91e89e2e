-- What the search for wrong places answers; no promise rests on it.
use Rattle.std.specs.Prelude.{List, ℕ, Option, Some, None, take}
use Rattle.sums.specs.OddSums.{OddSums}
use Rattle.locate.specs.Located.{Located}
use Rattle.locate.specs.declared.places.Places.{Places}

-- the places that were found
abbrev pub listed : Places → List ℕ
listed found = take found.count found.room

-- what the search answers: these places are located, or there is nothing to locate
abbrev pub Tells : ℕ → ℕ → List ℕ → Option Places → Type 0
Tells m t sums (Some found) = Located m t sums (listed found)
Tells m t sums None = (ps : List ℕ) → Located m t sums ps → ⊥

pub record Searched (m t : ℕ) (sums : List ℕ) (answer : Option Places) : Type 0 where
  pub tells : Tells m t sums answer

-- the same for a word: the search answers for its own odd sums
pub record WordSearched (m t : ℕ) (word : List ℕ) (answer : Option Places) : Type 0 where
  pub sums : List ℕ
  pub of_word : OddSums m t word sums
  pub searched : Searched m t sums answer
