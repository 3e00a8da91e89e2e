-- What the operations answer under their C names: an answer that the operation's own promise allows, laid out for C.
-- docs/SCOPE.md 11: "The library has every operation of section 4 under a C name."
use Rattle.std.specs.Prelude.{◌≡◌, List, ℕ}
use Rattle.sheet.specs.declared.Told.{Told}
use Rattle.sheet.specs.Number.{outcome_told, outcome_number}
use Rattle.codec.specs.Sizes.{GivesSizes}
use Rattle.codec.specs.Describe.{Describes}
use Rattle.codec.specs.Encode.{Encodes}
use Rattle.codec.specs.Edit.{Edits}
use Rattle.decode.specs.Decode.{Decodes}
use Rattle.kept.specs.Record.{zero_kept}
use Rattle.kept.specs.Open.{Opens}
use Rattle.splice.specs.Splice.{Splices}
use Rattle.decode_kept.specs.DecodeKept.{DecodesKept}
use Rattle.frame.specs.Make.{Makes}
use Rattle.frame.specs.Read.{Reads}
use Rattle.book.specs.Read.{Looks, Finds}
use Rattle.book.specs.Write.{WritesBook}
use Rattle.blentovar.specs.declared.SizesAnswer.{SizesAnswer}
use Rattle.blentovar.specs.declared.DecodeAnswer.{DecodeAnswer}
use Rattle.blentovar.specs.declared.Record.{Record}
use Rattle.blentovar.specs.declared.KeptAnswer.{KeptAnswer}
use Rattle.blentovar.specs.declared.DecodeKeptAnswer.{DecodeKeptAnswer}
use Rattle.blentovar.specs.declared.ReadAnswer.{ReadAnswer}
use Rattle.blentovar.specs.declared.LookAnswer.{LookAnswer}
use Rattle.blentovar.specs.declared.PartAnswer.{PartAnswer}
use Rattle.blentovar.specs.Layout.{sizes_answer, decode_answer, kept_of, kept_answer, decode_kept_answer, read_answer, look_answer, part_answer}

-- r is an answer that is promised, laid out
pub record LaidOut {A R : Type 0} (layout : A → R) (Promised : A → Type 0) (r : R) : Type 0 where
  pub answer : A
  pub promised : Promised answer
  pub is : r ≡ layout answer

abbrev pub SizesAs : ℕ → ℕ → SizesAnswer → Type 0
SizesAs m t = LaidOut sizes_answer (GivesSizes m t)

abbrev pub DescribesAs : ℕ → ℕ → List ℕ → SizesAnswer → List ℕ → Type 0
DescribesAs m t lent r left = LaidOut sizes_answer (λ answer. Describes m t lent answer left) r

abbrev pub EncodesAs : ℕ → ℕ → List ℕ → List ℕ → Told → List ℕ → Type 0
EncodesAs m t message lent r left = LaidOut outcome_told (λ answer. Encodes m t message lent answer left) r

abbrev pub DecodesAs : ℕ → ℕ → List ℕ → List ℕ → List ℕ → DecodeAnswer → List ℕ → List ℕ → Type 0
DecodesAs m t received lentWord lentList r word list = LaidOut decode_answer (λ answer. Decodes m t received lentWord lentList answer word list) r

abbrev pub EditsAs : ℕ → ℕ → List ℕ → ℕ → List ℕ → Told → List ℕ → Type 0
EditsAs m t lent start stretch r left = LaidOut outcome_told (λ answer. Edits m t lent start stretch answer left) r

abbrev pub OpensAs : ℕ → ℕ → List ℕ → KeptAnswer → Type 0
OpensAs m t word = LaidOut (kept_answer zero_kept) (Opens m t word)

abbrev pub SplicesAs : Record → ℕ → List ℕ → KeptAnswer → Type 0
SplicesAs stored start stretch = LaidOut (kept_answer (kept_of stored)) (Splices (kept_of stored) start stretch)

abbrev pub DecodesKeptAs : Record → List ℕ → List ℕ → DecodeKeptAnswer → List ℕ → List ℕ → Type 0
DecodesKeptAs stored lentWord lentList r word list =
    LaidOut decode_kept_answer (λ answer. DecodesKept (kept_of stored) lentWord lentList answer word list) r

abbrev pub MakesAs : ℕ → ℕ → ℕ → List ℕ → ℕ → List ℕ → Type 0
MakesAs house poll counter lent r left =
    LaidOut outcome_number (λ answer. Makes (record { house = house; poll = poll; counter = counter }) lent answer left) r

abbrev pub ReadsAs : List ℕ → ReadAnswer → Type 0
ReadsAs frame = LaidOut read_answer (Reads frame)

abbrev pub LooksAs : List ℕ → LookAnswer → Type 0
LooksAs book = LaidOut look_answer (Looks book)

abbrev pub ReadsBookAs : List ℕ → ℕ → PartAnswer → Type 0
ReadsBookAs book i = LaidOut part_answer (Finds book i)

abbrev pub WritesBookAs : List ℕ → List ℕ → ℕ → List ℕ → Type 0
WritesBookAs frames lent r left = LaidOut outcome_number (λ answer. WritesBook frames lent answer left) r
