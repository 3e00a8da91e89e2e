-- Reading a frame. docs/SCOPE.md 4.12: "A frame read gives the reading and the number of wrong places. The code word within 23 of the frame's word is taken,
-- and its lead bits must be right." 5.2: its checks are 9, 10, 6, 11.
use Rattle.std.specs.Prelude.{◌≡◌, not, List, [], ◌∷◌, ℕ, ◌≤◌, eqb, length, Result, Ok, Err}
use Rattle.sheet.specs.declared.Refusal.{Refusal}
use Rattle.sheet.specs.declared.Refusal.TheVariants.{NothingNear, FrameLength, PadBit, LeadBits}
use Rattle.sheet.specs.Number.{Outcome, outcome_of}
use Rattle.sheet.specs.Verdict.{Check, ◌⇒◌, Promise, Always}
use Rattle.bits.specs.Differences.{distance}
use Rattle.codes.specs.Sums.{CodeWord}
use Rattle.decode.specs.Decode.{Far}
use Rattle.layout.specs.declared.message.Reading.{Reading}
use Rattle.layout.specs.Frame.{sent_bit, word_of, lead_is_wrong, Carries}
use Rattle.frame.specs.declared.reading.ReadFrame.{ReadFrame}

-- the checks before 6
abbrev pub frame_checks : List ℕ → List Check
frame_checks frame =
    not (eqb (length frame) 32) ⇒ FrameLength
    ∷ not (eqb (sent_bit frame 255) 0) ⇒ PadBit
    ∷ []

-- the check after mending
abbrev pub lead_checks : List ℕ → List Check
lead_checks word = lead_is_wrong word ⇒ LeadBits ∷ []

-- what is given beside the outcome
pub record Given : Type 0 where
  pub reading : Reading
  pub wrong : ℕ

abbrev pub zeros : Given
zeros = record { reading = record { house = 0; poll = 0; counter = 0 }; wrong = 0 }

-- a refusal gives no reading, and zeros stand for it
abbrev pub given_by : Result ReadFrame Refusal → Given
given_by (Ok read) = record { reading = read.reading; wrong = read.wrong }
given_by (Err r) = zeros

-- the reading that a word carries, and the number of wrong places that it had
pub record ReadFrom (word : List ℕ) (wrong : ℕ) (given : Given) : Type 0 where
  pub reading : Carries given.reading word
  pub count : given.wrong ≡ wrong

-- what a mended word says, given the number of wrong places that it had
abbrev pub ReadsWord : List ℕ → ℕ → Outcome → Given → Type 0
ReadsWord word wrong = Promise (lead_checks word) (Always (ReadFrom word wrong)) zeros

-- past the checks: the answer is what a code word within 23 says; or 6, and no code word is within 23
pub data ReadsReceived (received : List ℕ) (answer : Outcome) (given : Given) : Type 0 where
  near : (word : List ℕ) → CodeWord 8 23 word → distance received word ≤ 23 → ReadsWord word (distance received word) answer given
      → ReadsReceived received answer given
  far : answer ≡ Err NothingNear → Far 8 23 23 received → given ≡ zeros → ReadsReceived received answer given

abbrev pub Reads : List ℕ → Result ReadFrame Refusal → Type 0
Reads frame answer = Promise (frame_checks frame) (ReadsReceived (word_of frame)) zeros (outcome_of answer) (given_by answer)
