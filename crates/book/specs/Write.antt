-- Writing a book. docs/SCOPE.md 4.15: "The buffer then holds the frames and the trailer." 5.2: its checks are 14, 9, 4.
use Rattle.std.specs.Prelude.{◌≡◌, not, List, [], ◌∷◌, ◌++◌, ℕ, ◌+◌, ◌*◌, ◌/◌, ◌%◌, eqb, ltb, length}
use Rattle.sheet.specs.declared.Refusal.TheVariants.{OutputLength, FrameLength, BookSize}
use Rattle.sheet.specs.Number.{Outcome}
use Rattle.sheet.specs.Verdict.{Check, ◌⇒◌, Promise, Always}
use Rattle.book.specs.Book.{trailer}

-- how many frames these bytes are
abbrev pub frame_count : List ℕ → ℕ
frame_count frames = length frames / 32

abbrev pub write_checks : List ℕ → List ℕ → List Check
write_checks frames lent =
    ltb 32000 (length frames) ⇒ BookSize
    ∷ not (eqb (length frames % 32) 0) ⇒ FrameLength
    ∷ not (eqb (length lent) (32 * frame_count frames + 16)) ⇒ OutputLength
    ∷ []

-- the frames and the trailer, and nothing else
pub record Written (frames book : List ℕ) : Type 0 where
  pub is : book ≡ frames ++ trailer (frame_count frames)

-- where it is refused, the buffer is as lent
abbrev pub WritesBook : List ℕ → List ℕ → Outcome → List ℕ → Type 0
WritesBook frames lent = Promise (write_checks frames lent) (Always (Written frames)) lent
