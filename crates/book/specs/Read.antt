-- Looking at a book and reading a frame of it. docs/SCOPE.md 4.13: "Gives the count of frames."; 4.14: "Gives the part of the book in which frame i stands, the
-- very 32 bytes and no copy." 5.2: their checks are 13, 14 and 13, 14, 15.
use Rattle.std.specs.Prelude.{◌≡◌, Bool, not, ◌&&◌, ◌||◌, List, [], ◌∷◌, ◌++◌, ℕ, ◌+◌, ◌-◌, ◌*◌, ◌^◌, eqb, leb, ltb, length, get_or, take, drop, Result, Ok}
use Rattle.std.specs.Prelude.{Err}
use Rattle.std.specs.Borrow.{Bor}
use Rattle.std.specs.Result.{result_unwrap_or}
use Rattle.sheet.specs.declared.Refusal.{Refusal}
use Rattle.sheet.specs.declared.Refusal.TheVariants.{NoTrailer, BookSize, NoSuchFrame}
use Rattle.sheet.specs.Number.{outcome_of}
use Rattle.sheet.specs.Verdict.{Check, ◌⇒◌, Promise, Always}
use Rattle.book.specs.declared.reading.Found.{Found}
use Rattle.book.specs.Book.{mark, frame_start}

-- the last 16 bytes
abbrev pub trailer_of : List ℕ → List ℕ
trailer_of book = drop (length book - 16) book

-- the first four bytes are the mark
abbrev pub mark_at : List ℕ → ℕ → Bool
mark_at bytes i = eqb (get_or bytes i 0) (get_or mark i 0)

unfoldable pub has_mark : List ℕ → Bool
has_mark bytes = mark_at bytes 0 && mark_at bytes 1 && mark_at bytes 2 && mark_at bytes 3

-- the 32-bit number in the four bytes from a place on, highest byte first
unfoldable pub number_at : List ℕ → ℕ → ℕ
number_at bytes at = 2 ^ 24 * get_or bytes at 0 + 2 ^ 16 * get_or bytes (at + 1) 0 + 2 ^ 8 * get_or bytes (at + 2) 0 + get_or bytes (at + 3) 0

abbrev pub count_of : List ℕ → ℕ
count_of book = number_at (trailer_of book) 4

abbrev pub distance_of : List ℕ → ℕ
distance_of book = number_at (trailer_of book) 8

abbrev pub last_of : List ℕ → ℕ
last_of book = number_at (trailer_of book) 12

-- docs/SCOPE.md 5.1: "a book is shorter than 16 bytes, or its mark or its last number is wrong"
unfoldable pub lacks_trailer : List ℕ → Bool
lacks_trailer book = ltb (length book) 16 || not (has_mark (trailer_of book)) || not (eqb (last_of book) 0)

-- docs/SCOPE.md 5.1: "a book's count is above 1,000, its distance is not 32 times the count, or it reaches before the start"; these are plain numbers, so
-- nothing wraps
unfoldable pub size_is_wrong : ℕ → ℕ → ℕ → Bool
size_is_wrong count distance end = ltb 1000 count || not (eqb distance (32 * count)) || ltb end distance

abbrev pub book_checks : List ℕ → List Check
book_checks book =
    lacks_trailer book ⇒ NoTrailer
    ∷ size_is_wrong (count_of book) (distance_of book) (length book - 16) ⇒ BookSize
    ∷ []

-- the check of a frame's number, after those
abbrev pub number_checks : ℕ → ℕ → List Check
number_checks count i = leb count i ⇒ NoSuchFrame ∷ []

abbrev pub find_checks : List ℕ → ℕ → List Check
find_checks book i = book_checks book ++ number_checks (count_of book) i

-- looking: a refusal gives no count, and 0 stands for it
pub record Counted (book : List ℕ) (count : ℕ) : Type 0 where
  pub is : count ≡ count_of book

abbrev pub Looks : List ℕ → Result ℕ Refusal → Type 0
Looks book answer = Promise (book_checks book) (Always (Counted book)) 0 (outcome_of answer) (result_unwrap_or answer 0)

-- a part of a book: where it starts and where it ends
pub record Span : Type 0 where
  pub from : ℕ
  pub to : ℕ

-- a refusal names no part, and the empty one at the front stands for it
abbrev pub empty_span : Span
empty_span = record { from = 0; to = 0 }

abbrev pub span_of : Result Found Refusal → Span
span_of (Ok found) = record { from = found.from; to = found.to }
span_of (Err r) = empty_span

-- frame i of so many: from where it starts to where the next one starts
pub record FrameSpan (book : List ℕ) (count i : ℕ) (span : Span) : Type 0 where
  pub starts : span.from ≡ frame_start book count i
  pub ends : span.to ≡ frame_start book count (i + 1)

abbrev pub Finds : List ℕ → ℕ → Result Found Refusal → Type 0
Finds book i answer = Promise (find_checks book i) (Always (FrameSpan book (count_of book) i)) empty_span (outcome_of answer) (span_of answer)

-- r is a part of s, the very bytes: what they hold, and where they lie, which is so many bytes on in the same block
pub record Part (s : Bor (List ℕ)) (from to : ℕ) (r : Bor (List ℕ)) : Type 0 where
  pub holds : r.now ≡ take (to - from) (drop from s.now)
  pub lies : r.ref_ptr ≡ (s.ref_ptr.0, from + s.ref_ptr.1)

-- reading: the part of the lent book that an answer of finding it names
pub record ReadsPart (book : Bor (List ℕ)) (i : ℕ) (r : Bor (List ℕ)) : Type 0 where
  pub found : Result Found Refusal
  pub finds : Finds book.now i found
  pub part : Part book (span_of found).from (span_of found).to r
