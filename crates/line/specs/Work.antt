-- What the steps of writing a line hand to each other; no promise rests on it.
use Rattle.std.specs.Prelude.{◌≡◌, List, ◌++◌, ℕ, ◌+◌, ◌≤◌, length}
use Rattle.std.proofs.lemmas.List.Edits.{sets}
use Rattle.line.specs.Line.{decimal}

-- the text is stored from index at on, and next is the index past it
pub record Put (before : List ℕ) (at : ℕ) (text after : List ℕ) (next : ℕ) : Type 0 where
  pub is : after ≡ sets before at text
  pub next_is : next ≡ at + length text

-- a number of 64 bits, which has at most 20 digits, and the text after it
pub record PutField (before : List ℕ) (at n : ℕ) (text after : List ℕ) (next : ℕ) : Type 0 where
  pub put : Put before at (decimal n ++ text) after next
  pub most : next ≤ at + 20 + length text
