-- What the steps of the listing ask and hand to each other; no promise rests on it.
use Rattle.std.specs.Prelude.{◌≡◌, List, ℕ, ◌+◌, ◌*◌, ◌≤◌, ◌<◌, length, take, Ok}
use Rattle.sheet.specs.Verdict.{verdict}
use Rattle.book.specs.Read.{count_of, book_checks}
use Rattle.line.specs.Work.{Put}
use Rattle.lister.specs.declared.Progress.{Progress}
use Rattle.lister.specs.Listing.{LineOf, Lines, Steps}

-- a block of frames at most, room for their lines, and numbers that are far from wrapping
pub record Room (listed : ℕ) (frames lines : List ℕ) : Type 0 where
  pub few : listed ≤ 1000000
  pub block : length frames ≤ 16000
  pub long : 64000 ≤ length lines

-- between two reads: what was read so far was taken in step by step, and every byte of it is in a frame that is listed, or held
pub record Going (at : Progress) (left : ℕ) (frames : List ℕ) : Type 0 where
  pub pieces : List (List ℕ)
  pub text : List ℕ
  pub steps : Steps pieces text at.listed (take at.held frames)
  pub bytes : 32 * at.listed + at.held + left ≡ 32000000
  pub held : at.held < 32

-- the line of a frame is stored from index end on, and next is the index past it; a line has at most 128 bytes
pub record AddsLine (number : ℕ) (frame lent : List ℕ) (end : ℕ) (left : List ℕ) (next : ℕ) : Type 0 where
  pub line : List ℕ
  pub is_line : LineOf number frame line
  pub put : Put lent end line left next
  pub most : next ≤ end + 128

-- the lines of the first i frames after so many others are stored, the last of them with this number
pub record ListedTo (before : ℕ) (bytes lent left : List ℕ) (i number end : ℕ) : Type 0 where
  pub text : List ℕ
  pub lines : Lines bytes (before + 1) i text
  pub put : Put lent 0 text left end
  pub number_is : number ≡ before + i
  pub most : end ≤ 128 * i

-- the book passes its checks and has so many frames
pub record Counts (book : List ℕ) (count : ℕ) : Type 0 where
  pub passes : verdict (book_checks book) ≡ Ok tt
  pub is : count ≡ count_of book
