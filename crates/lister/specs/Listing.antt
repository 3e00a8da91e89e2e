-- The listing: what it lists of bytes that came in, one step of it where they come in pieces, and what it lists of a book.
-- docs/SCOPE.md 7.1: "It writes one line for each frame"; "A short last frame is refused 9. There is no header, and empty input writes nothing."
use Rattle.std.specs.Prelude.{◌≡◌, List, [], ◌∷◌, ◌++◌, ℕ, zero, suc, ◌+◌, ◌*◌, ◌/◌, ◌%◌, length, take, drop, Result, Ok, Err}
use Rattle.frame.specs.declared.reading.ReadFrame.{ReadFrame}
use Rattle.frame.specs.Read.{Reads}
use Rattle.sheet.specs.declared.Refusal.{Refusal}
use Rattle.sheet.specs.Verdict.{verdict}
use Rattle.book.specs.Book.{frame_start}
use Rattle.book.specs.Read.{count_of, book_checks}
use Rattle.line.specs.Line.{line_of, refusal_line, Writes}
use Rattle.lister.specs.declared.Progress.{Progress}

-- frame i of the bytes, from 0; the last one may be short
abbrev pub frame_at : List ℕ → ℕ → List ℕ
frame_at bytes i = take 32 (drop (32 * i) bytes)

-- how many frames there are: one for every 32 bytes, and one for what is left
abbrev pub frames_of : List ℕ → ℕ
frames_of bytes = (length bytes + 31) / 32

-- the line of the frame with this number says what reading the frame answers
pub record LineOf (number : ℕ) (frame line : List ℕ) : Type 0 where
  pub answer : Result ReadFrame Refusal
  pub reads : Reads frame answer
  pub is : line ≡ line_of number answer

-- the lines of the first frames in order, one after another, numbered upward from `first`
pub data Lines (bytes : List ℕ) (first : ℕ) : ℕ → List ℕ → Type 0 where
  no_line : Lines bytes first zero []
  one_more : {count : ℕ} {text line : List ℕ} → Lines bytes first count text → LineOf (first + count) (frame_at bytes count) line
      → Lines bytes first (suc count) (text ++ line)

-- the lines of so many frames stand at the front of the buffer, the rest is as lent, and their length comes back
pub record ListsFirst (first count : ℕ) (bytes lent left : List ℕ) (end : ℕ) : Type 0 where
  pub text : List ℕ
  pub lines : Lines bytes first count text
  pub written : Writes text lent left end

-- the same for all frames of the bytes
abbrev pub Lists : ℕ → List ℕ → List ℕ → List ℕ → ℕ → Type 0
Lists first bytes = ListsFirst first (frames_of bytes) bytes

-- One step: bytes come after those held. The frames that are whole then are listed, and what is left is held for the next step.
pub record Taken (listed : ℕ) (held came text : List ℕ) (listed' : ℕ) (held' : List ℕ) : Type 0 where
  pub lines : Lines (held ++ came) (listed + 1) (length (held ++ came) / 32) text
  pub listed_is : listed' ≡ listed + length (held ++ came) / 32
  pub held_is : held' ≡ drop (32 * (length (held ++ came) / 32)) (held ++ came)

-- Steps one after another from the start: the pieces that came, all that was written, the frames listed and the bytes held.
pub data Steps : List (List ℕ) → List ℕ → ℕ → List ℕ → Type 0 where
  start : Steps [] [] 0 []
  step : {pieces : List (List ℕ)} {text held piece lines held' : List ℕ} {listed listed' : ℕ} → Steps pieces text listed held
      → Taken listed held piece lines listed' held' → Steps (pieces ++ piece ∷ []) (text ++ lines) listed' held'

-- One step on the buffers: what is held stands at the front of the frames' buffer and what came after it; the lines stand at the front of theirs.
pub record TakesIn (at : Progress) (came : ℕ) (frames lines frames' lines' : List ℕ) (next : Progress) : Type 0 where
  pub text : List ℕ
  pub taken : Taken at.listed (take at.held frames) (take came (drop at.held frames)) text next.listed (take next.held frames')
  pub written : Writes text lines lines' next.end
  pub held : next.held ≡ (at.held + came) % 32

-- the frames of a book that has so many, as they stand one after another
abbrev pub frames_in : List ℕ → ℕ → List ℕ
frames_in book count = take (32 * count) (drop (frame_start book count 0) book)

-- docs/SCOPE.md 7.3: "It writes the lines that the listing writes of the frames, numbered from 1."; "A book that is refused gets the one line `refused` and
-- the number"
pub data ListsBook (book lent left : List ℕ) (end : ℕ) : Type 0 where
  lists : verdict (book_checks book) ≡ Ok tt → ListsFirst 1 (count_of book) (frames_in book (count_of book)) lent left end → ListsBook book lent left end
  refuses : (r : Refusal) → verdict (book_checks book) ≡ Err r → Writes (refusal_line r) lent left end → ListsBook book lent left end
