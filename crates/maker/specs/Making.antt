-- Making frames of typed lines: a line gives its frame or, where it says no reading, its name.
-- docs/SCOPE.md 8: "A text is split into lines at its newlines. What stands after the last newline is a line too, unless it is empty."
use Rattle.std.specs.Prelude.{◌≡◌, cond, List, [], ◌∷◌, ◌++◌, ℕ, ◌+◌, ◌≤◌, eqb, length, take}
use Rattle.layout.specs.declared.message.Reading.{Reading}
use Rattle.frame.specs.Make.{Made}
use Rattle.line.specs.Line.{decimal, Writes}
use Rattle.typed.specs.Says.{Says}
use Rattle.maker.specs.declared.Progress.{Progress}

-- `begun` is the line that has begun and not ended: a newline, byte 10, ends it, and any other byte is put at its end

-- the lines that end in these bytes, without their ends
unfoldable pub lines_of : List ℕ → List ℕ → List (List ℕ)
lines_of begun [] = []
lines_of begun (b ∷ bs) = cond (eqb b 10) (begun ∷ lines_of [] bs) (lines_of (begun ++ (b ∷ [])) bs)

-- what stands after the last end
unfoldable pub begun_of : List ℕ → List ℕ → List ℕ
begun_of begun [] = begun
begun_of begun (b ∷ bs) = cond (eqb b 10) (begun_of [] bs) (begun_of (begun ++ (b ∷ [])) bs)

-- at the end of the input, the line that has begun is a line too, unless it is empty
abbrev pub last_of : List ℕ → List (List ℕ)
last_of [] = []
last_of (b ∷ bs) = (b ∷ bs) ∷ []

abbrev pub all_lines : List ℕ → List (List ℕ)
all_lines text = lines_of [] text ++ last_of (begun_of [] text)

-- in ASCII: `line `, and `: not a house, a poll number and a counter` with the end of a line

abbrev pub line_text : List ℕ
line_text = 108 ∷ 105 ∷ 110 ∷ 101 ∷ 32 ∷ []

abbrev pub no_reading_text : List ℕ
no_reading_text =
    58 ∷ 32 ∷ 110 ∷ 111 ∷ 116 ∷ 32 ∷ 97 ∷ 32 ∷ 104 ∷ 111 ∷ 117 ∷ 115 ∷ 101 ∷ 44 ∷ 32 ∷ 97 ∷ 32 ∷ 112 ∷ 111 ∷ 108 ∷ 108 ∷ 32 ∷ 110 ∷ 117 ∷ 109 ∷ 98
    ∷ 101 ∷ 114 ∷ 32 ∷ 97 ∷ 110 ∷ 100 ∷ 32 ∷ 97 ∷ 32 ∷ 99 ∷ 111 ∷ 117 ∷ 110 ∷ 116 ∷ 101 ∷ 114 ∷ 10 ∷ []

unfoldable pub name_of : ℕ → List ℕ
name_of number = line_text ++ decimal number ++ no_reading_text

-- what one line gives: the frame of the reading that it says; or, exactly if it says none, its name
pub data Gives (number : ℕ) (line frames names : List ℕ) : Type 0 where
  a_frame : (reading : Reading) → Says reading line → Made reading frames → names ≡ [] → Gives number line frames names
  a_name : ((reading : Reading) → Says reading line → ⊥) → frames ≡ [] → names ≡ name_of number → Gives number line frames names

-- what lines give one after another, numbered upward
pub data GiveAll : ℕ → List (List ℕ) → List ℕ → List ℕ → Type 0 where
  none : {number : ℕ} → GiveAll number [] [] []
  more : {number : ℕ} {line frame name : List ℕ} {lines : List (List ℕ)} {frames names : List ℕ} → Gives number line frame name
      → GiveAll (number + 1) lines frames names
      → GiveAll number (line ∷ lines) (frame ++ frames) (name ++ names)

-- the buffer holds the line that has begun as far as its first 63 bytes, which answer for all of it
pub record Holds (line : List ℕ) (held : ℕ) (begun : List ℕ) : Type 0 where
  pub within : held ≤ 63
  pub front : take held line ≡ take 63 begun

-- what bytes give after so many lines and the line that has begun, and what is held then
pub record Takes (lines : ℕ) (begun bytes frames names : List ℕ) (after : Progress) (line : List ℕ) : Type 0 where
  pub gives : GiveAll (lines + 1) (lines_of begun bytes) frames names
  pub counts : after.lines ≡ lines + length (lines_of begun bytes)
  pub holds : Holds line after.held (begun_of begun bytes)

-- The promise for bytes, for every line that may have begun with what is held: what they give stands at the front of both buffers, and the rest is as lent.
pub record Fills (before : Progress) (line bytes lent-frames lent-names : List ℕ) (after : Progress) (left-line left-frames left-names : List ℕ) : Type 0 where
  pub frames : List ℕ
  pub names : List ℕ
  pub writes_frames : Writes frames lent-frames left-frames after.frames
  pub writes_names : Writes names lent-names left-names after.names
  pub takes : (begun : List ℕ) → Holds line before.held begun → Takes before.lines begun bytes frames names after left-line

-- The promise for the end of the input, where what has begun is a line unless it is empty.
pub record FillsLast (before : Progress) (line lent-frames lent-names : List ℕ) (after : Progress) (left-frames left-names : List ℕ) : Type 0 where
  pub frames : List ℕ
  pub names : List ℕ
  pub writes_frames : Writes frames lent-frames left-frames after.frames
  pub writes_names : Writes names lent-names left-names after.names
  pub gives : (begun : List ℕ) → Holds line before.held begun → GiveAll (before.lines + 1) (last_of begun) frames names
