-- What a caller is told of each refusal and of each outcome: the number, the buffer and the place; and the number that is struck.
-- docs/SCOPE.md 5.1: "Each refusal has one number and one condition."; "Every other refusal, and every accepted call, gives 0 and 0 there."
use Rattle.std.specs.Prelude.{ℕ, Result, Ok, Err}
use Rattle.sheet.specs.declared.Refusal.{Refusal}
use Rattle.sheet.specs.declared.Refusal.TheVariants.{FieldSize, NotListed, InputLength, OutputLength, BitAboveOne, NothingNear}
use Rattle.sheet.specs.declared.Refusal.TheVariants.{RecordContents, FrameLength, PadBit, LeadBits, StretchEnd, NoTrailer, BookSize, NoSuchFrame}
use Rattle.sheet.specs.declared.Told.{Told}

-- what the checks of an operation come to, and what an operation answers: it is done, or it is refused
abbrev pub Outcome : Type 0
Outcome = Result (Unit {0}) Refusal

-- the outcome of an answer that has a value where it is done
abbrev pub outcome_of : {A : Type 0} → Result A Refusal → Outcome
outcome_of (Ok value) = Ok tt
outcome_of (Err r) = Err r

-- a number with nothing beside it
abbrev pub plainly : ℕ → Told
plainly number = record { number = number; buffer = 0; place = 0 }

abbrev pub told_of : Refusal → Told
told_of FieldSize = plainly 1
told_of NotListed = plainly 2
told_of InputLength = plainly 3
told_of OutputLength = plainly 4
told_of (BitAboveOne buffer place) = record { number = 5; buffer = buffer; place = place }
told_of NothingNear = plainly 6
told_of RecordContents = plainly 7
told_of FrameLength = plainly 9
told_of PadBit = plainly 10
told_of LeadBits = plainly 11
told_of StretchEnd = plainly 12
told_of NoTrailer = plainly 13
told_of BookSize = plainly 14
told_of NoSuchFrame = plainly 15

abbrev pub outcome_told : Outcome → Told
outcome_told (Ok done) = plainly 0
outcome_told (Err r) = told_of r

-- the number alone
abbrev pub number_of : Refusal → ℕ
number_of r = (told_of r).number

abbrev pub outcome_number : Outcome → ℕ
outcome_number o = (outcome_told o).number

-- docs/SCOPE.md 5.1: "8 is struck: no refusal has this number, and none will get it again."
abbrev pub struck : ℕ
struck = 8
