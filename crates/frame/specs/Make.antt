-- Making a frame. docs/SCOPE.md 4.11: "A frame made is the exact encoding of its reading". 5.2: its check is 9.
use Rattle.std.specs.Prelude.{◌≡◌, not, List, [], ◌∷◌, ℕ, ◌<◌, eqb, length, get_or}
use Rattle.sheet.specs.declared.Refusal.TheVariants.{FrameLength}
use Rattle.sheet.specs.Number.{Outcome}
use Rattle.sheet.specs.Verdict.{Check, ◌⇒◌, Promise, Always}
use Rattle.codes.specs.Encoding.{Encoding}
use Rattle.layout.specs.declared.message.Reading.{Reading}
use Rattle.layout.specs.Frame.{sent_bit, word_of, message_of}

abbrev pub make_checks : List ℕ → List Check
make_checks lent = not (eqb (length lent) 32) ⇒ FrameLength ∷ []

-- 32 bytes whose word is the encoding of the reading's message
pub record Made (reading : Reading) (frame : List ℕ) : Type 0 where
  pub long : length frame ≡ 32
  pub bytes : (b : ℕ) → b < 32 → get_or frame b 0 < 256
  pub pad : sent_bit frame 255 ≡ 0
  pub encodes : Encoding 8 23 99 (message_of reading) (word_of frame)

-- where it is refused, the buffer is as lent
abbrev pub Makes : Reading → List ℕ → Outcome → List ℕ → Type 0
Makes reading lent = Promise (make_checks lent) (Always (Made reading)) lent
