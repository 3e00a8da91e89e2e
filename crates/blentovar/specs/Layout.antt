-- Answers and records as C lays them out: a definition for each struct gives its fields. docs/SCOPE.md 11: "Numbers come back as the sheet has them, 0 where
-- nothing is refused."; "Where the layout of C would leave some, a named field stands there. It is 0 in whatever comes back, and is not looked at in a record
-- that is handed in."
use Rattle.std.specs.Prelude.{ℕ, ◌-◌, Result}
use Rattle.std.specs.Result.{result_unwrap_or}
use Rattle.sheet.specs.declared.Refusal.{Refusal}
use Rattle.sheet.specs.declared.Told.{Told}
use Rattle.sheet.specs.Number.{outcome_told, outcome_number, outcome_of}
use Rattle.codec.specs.declared.describing.Described.{Described}
use Rattle.codec.specs.Sizes.{sizes_given}
use Rattle.kept.specs.declared.Kept.{Kept}
use Rattle.frame.specs.declared.reading.ReadFrame.{ReadFrame}
use Rattle.frame.specs.Read.{given_by}
use Rattle.book.specs.declared.reading.Found.{Found}
use Rattle.book.specs.Read.{span_of}
use Rattle.blentovar.specs.declared.SizesAnswer.{SizesAnswer}
use Rattle.blentovar.specs.declared.DecodeAnswer.{DecodeAnswer}
use Rattle.blentovar.specs.declared.Record.{Record}
use Rattle.blentovar.specs.declared.KeptAnswer.{KeptAnswer}
use Rattle.blentovar.specs.declared.DecodeKeptAnswer.{DecodeKeptAnswer}
use Rattle.blentovar.specs.declared.ReadAnswer.{ReadAnswer}
use Rattle.blentovar.specs.declared.LookAnswer.{LookAnswer}
use Rattle.blentovar.specs.declared.PartAnswer.{PartAnswer}

-- where it is refused, zeros stand for the numbers beside the sheet's, here and below
abbrev pub sizes_answer : Result Described Refusal → SizesAnswer
sizes_answer x =
    let given = sizes_given x in
    record { number = outcome_number (outcome_of x); zero_after_number = 0; n = given.n; k = given.k }

abbrev pub decode_answer : Result ℕ Refusal → DecodeAnswer
decode_answer x =
    let told = outcome_told (outcome_of x) in
    record { number = told.number; buffer = told.buffer; place = told.place; wrong = result_unwrap_or x 0 }

-- a record that comes back
abbrev pub laid_out : Kept → Record
laid_out k = record { m = k.m; t = k.t; bits = k.bits; zero_after_bits = 0; sums = k.sums; zero_after_sums = 0 }

-- a record that is handed in
abbrev pub kept_of : Record → Kept
kept_of r = record { m = r.m; t = r.t; bits = r.bits; sums = r.sums }

-- what is told, and a record
abbrev pub told_beside : Told → Kept → KeptAnswer
told_beside told k = record { number = told.number; buffer = told.buffer; place = told.place; «record» = laid_out k }

-- the first record is the one that comes back where there is no new one
abbrev pub kept_answer : Kept → Result Kept Refusal → KeptAnswer
kept_answer otherwise x = told_beside (outcome_told (outcome_of x)) (result_unwrap_or x otherwise)

abbrev pub decode_kept_answer : Result ℕ Refusal → DecodeKeptAnswer
decode_kept_answer x = record { number = outcome_number (outcome_of x); zero_after_number = 0; wrong = result_unwrap_or x 0 }

abbrev pub read_answer : Result ReadFrame Refusal → ReadAnswer
read_answer x =
    let given = given_by x in
    record {
      number = outcome_number (outcome_of x);
      house = given.reading.house;
      poll = given.reading.poll;
      counter = given.reading.counter;
      wrong = given.wrong;
    }

abbrev pub look_answer : Result ℕ Refusal → LookAnswer
look_answer x = record { number = outcome_number (outcome_of x); zero_after_number = 0; count = result_unwrap_or x 0 }

-- docs/SCOPE.md 11: "A part of a book comes back as its offset from the book's first byte and its length."
abbrev pub part_answer : Result Found Refusal → PartAnswer
part_answer x =
    let span = span_of x in
    record { number = outcome_number (outcome_of x); zero_after_number = 0; offset = span.from; length = span.to - span.from }
