-- One line of the listing. docs/SCOPE.md 7.1: "the frame number from 1; `read` or `refused`; after `read` the house, poll, counter and wrong places, all
-- decimal, with single spaces; after `refused` the number".
use Rattle.std.specs.Prelude.{◌≡◌, cond, List, [], ◌∷◌, ◌++◌, ℕ, zero, suc, ◌+◌, ◌/◌, ◌%◌, ltb, length, drop, Result, Ok, Err}
use Rattle.sheet.specs.declared.Refusal.{Refusal}
use Rattle.sheet.specs.Number.{number_of}
use Rattle.layout.specs.declared.message.Reading.{Reading}
use Rattle.frame.specs.declared.reading.ReadFrame.{ReadFrame}

-- the decimal digits of n in ASCII, highest first, with no zeros in front; the first number bounds how many there are
unfoldable pub digits_up_to : ℕ → ℕ → List ℕ
digits_up_to zero n = []
digits_up_to (suc more) n = cond (ltb n 10) ((48 + n) ∷ []) (digits_up_to more (n / 10) ++ ((48 + n % 10) ∷ []))

-- n has at most n + 1 digits
unfoldable pub decimal : ℕ → List ℕ
decimal n = digits_up_to (suc n) n

-- in ASCII: ` read `, `refused `, ` refused `, a space, the end of a line

abbrev pub read_text : List ℕ
read_text = 32 ∷ 114 ∷ 101 ∷ 97 ∷ 100 ∷ 32 ∷ []

abbrev pub refused_word : List ℕ
refused_word = 114 ∷ 101 ∷ 102 ∷ 117 ∷ 115 ∷ 101 ∷ 100 ∷ 32 ∷ []

abbrev pub refused_text : List ℕ
refused_text = 32 ∷ refused_word

abbrev pub space : List ℕ
space = 32 ∷ []

abbrev pub newline : List ℕ
newline = 10 ∷ []

unfoldable pub read_line : ℕ → Reading → ℕ → List ℕ
read_line f reading wrong =
    decimal f ++ read_text ++ decimal reading.house ++ space ++ decimal reading.poll ++ space ++ decimal
    reading.counter ++ space ++ decimal wrong ++ newline

unfoldable pub refused_line : ℕ → Refusal → List ℕ
refused_line f r = decimal f ++ refused_text ++ decimal (number_of r) ++ newline

-- docs/SCOPE.md 7.3: "the one line `refused` and the number"
unfoldable pub refusal_line : Refusal → List ℕ
refusal_line r = refused_word ++ decimal (number_of r) ++ newline

abbrev pub line_of : ℕ → Result ReadFrame Refusal → List ℕ
line_of f (Ok read) = read_line f read.reading read.wrong
line_of f (Err r) = refused_line f r

-- the line stands at the front of the buffer, the rest is as lent, and the line's length comes back
pub record Writes (line lent left : List ℕ) (count : ℕ) : Type 0 where
  pub is : left ≡ line ++ drop (length line) lent
  pub long : count ≡ length line
