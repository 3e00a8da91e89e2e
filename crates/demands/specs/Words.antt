-- The words of the three demands (docs/SCOPE.md 9), in which the theorems of proofs/Demands are said.
use Rattle.std.specs.Prelude.{◌≡◌, cond, ◌||◌, List, [], ◌∷◌, ◌++◌, ◌≢◌, ◌↔◌, ◌⊎◌, ℕ, ◌+◌, ◌-◌, ◌*◌, ◌/◌, ◌^◌, ◌≤◌, ◌<◌, eqb, length, get_or, take, drop}
use Rattle.std.specs.Prelude.{replicate, Option, Result, Ok, Err}
use Rattle.std.specs.Result.{result_unwrap_or}
use Rattle.std.specs.Borrow.{Bor}
use Rattle.std.proofs.Math.Seq.{paste}
use Rattle.sheet.specs.declared.Refusal.{Refusal}
use Rattle.sheet.specs.declared.Refusal.TheVariants.{NothingNear, FrameLength, PadBit, LeadBits, NoSuchFrame}
use Rattle.sheet.specs.Number.{Outcome, outcome_of}
use Rattle.sheet.specs.declared.Told.{Told}
use Rattle.sheet.specs.Number.{struck}
use Rattle.sheet.specs.Verdict.{verdict}
use Rattle.bits.specs.Bits.{AreBits, has_bad_bit, runs_past}
use Rattle.bits.specs.Differences.{differences, distance, Ascending}
use Rattle.bits.specs.Polynomial.{product_bits}
use Rattle.field.specs.Sum.{◌⊕◌}
use Rattle.field.specs.Product.{◌⊗⟨◌⟩◌}
use Rattle.field.specs.Power.{a, n_of, power, inverse}
use Rattle.codes.specs.Look.{k_of, code_of, code_verdict}
use Rattle.codes.specs.Sums.{CodeWord, sum_of}
use Rattle.generator.specs.Minimal.{Minimal}
use Rattle.codec.specs.declared.describing.Described.{Described}
use Rattle.codec.specs.Sizes.{GivesSizes, sizes_checks, sizes_given}
use Rattle.codec.specs.Describe.{Describes, describe_checks}
use Rattle.codec.specs.Encode.{Encodes, encode_checks}
use Rattle.codec.specs.Edit.{Edits, edit_checks}
use Rattle.decode.specs.Decode.{Decodes, Far, decode_checks}
use Rattle.kept.specs.declared.Kept.{Kept}
use Rattle.kept.specs.Record.{zero_kept}
use Rattle.kept.specs.Open.{Opens, open_checks}
use Rattle.splice.specs.Splice.{Splices, splice_checks}
use Rattle.decode_kept.specs.DecodeKept.{DecodesKept, NoSet, decode_kept_checks}
use Rattle.layout.specs.declared.message.Reading.{Reading}
use Rattle.layout.specs.Frame.{sent_bit, word_of}
use Rattle.frame.specs.declared.reading.ReadFrame.{ReadFrame}
use Rattle.frame.specs.Make.{Makes, make_checks}
use Rattle.frame.specs.Read.{Reads, frame_checks, lead_checks, given_by, zeros}
use Rattle.book.specs.declared.reading.Found.{Found}
use Rattle.book.specs.Book.{IsBook}
use Rattle.book.specs.Read.{Looks, book_checks, Finds, find_checks, empty_span, span_of, ReadsPart}
use Rattle.book.specs.Write.{WritesBook, write_checks, frame_count}
use Rattle.blentovar.specs.declared.SizesAnswer.{SizesAnswer}
use Rattle.blentovar.specs.declared.DecodeAnswer.{DecodeAnswer}
use Rattle.blentovar.specs.declared.Record.{Record}
use Rattle.blentovar.specs.declared.KeptAnswer.{KeptAnswer}
use Rattle.blentovar.specs.declared.DecodeKeptAnswer.{DecodeKeptAnswer}
use Rattle.blentovar.specs.declared.ReadAnswer.{ReadAnswer}
use Rattle.blentovar.specs.declared.LookAnswer.{LookAnswer}
use Rattle.blentovar.specs.declared.PartAnswer.{PartAnswer}
use Rattle.blentovar.specs.Layout.{laid_out, kept_of}
use Rattle.blentovar.specs.Answers.{SizesAs, DescribesAs, EncodesAs, DecodesAs, EditsAs, OpensAs, SplicesAs, DecodesKeptAs, MakesAs, ReadsAs}
use Rattle.blentovar.specs.Answers.{LooksAs, ReadsBookAs, WritesBookAs}
use Rattle.line.specs.Line.{refused_line}
use Rattle.lister.specs.Listing.{frame_at, Lines, Lists, ListsBook}
use Rattle.typed.specs.Says.{Answers}
use Rattle.maker.specs.declared.Progress.{Progress}
use Rattle.maker.specs.Making.{Fills, FillsLast}

-- 1. one outcome

-- two outcomes that are allowed are the same
abbrev pub One : {A : Type 0} → (A → Type 0) → Type 0
One {A} Allowed = (x y : A) → Allowed x → Allowed y → x ≡ y

-- a refusal is what the checks come to, or they pass and what follows them refuses
abbrev pub RefusedBy : Outcome → Refusal → Type 0 → Type 0
RefusedBy checked r Later = (checked ≡ Err r) ⊎ ((checked ≡ Ok tt) × Later)

-- a code word is within 23 of what came in, and its lead refuses
abbrev pub NearLead : List ℕ → Refusal → Type 0
NearLead received r = (word : List ℕ) × CodeWord 8 23 word × (distance received word ≤ 23) × (verdict (lead_checks word) ≡ Err r)

-- an outcome is the answer and what every buffer then holds
pub record OneOutcome : Type 0 where
  pub sizes : (m t : ℕ) → One (GivesSizes m t)
  pub describe : (m t : ℕ) (lent : List ℕ) → One (λ (o : Result Described Refusal × List ℕ). Describes m t lent o.0 o.1)
  pub encode : (m t : ℕ) (message lent : List ℕ) → One (λ (o : Outcome × List ℕ). Encodes m t message lent o.0 o.1)
  pub decode : (m t : ℕ) (received lentWord lentList : List ℕ)
      → One (λ (o : Result ℕ Refusal × List ℕ × List ℕ). Decodes m t received lentWord lentList o.0 o.1 o.2)
  pub edit : (m t : ℕ) (lent : List ℕ) (start : ℕ) (stretch : List ℕ) → One (λ (o : Outcome × List ℕ). Edits m t lent start stretch o.0 o.1)
  pub opening : (m t : ℕ) (word : List ℕ) → One (Opens m t word)
  pub splice : (stored : Kept) (start : ℕ) (stretch : List ℕ) → One (Splices stored start stretch)
  pub decode_kept : (stored : Kept) (lentWord lentList : List ℕ)
      → One (λ (o : Result ℕ Refusal × List ℕ × List ℕ). DecodesKept stored lentWord lentList o.0 o.1 o.2)
  pub make_frame : (reading : Reading) (lent : List ℕ) → One (λ (o : Outcome × List ℕ). Makes reading lent o.0 o.1)
  pub read_frame : (frame : List ℕ) → One (Reads frame)
  pub look_at_book : (book : List ℕ) → One (Looks book)
  pub find_frame : (book : List ℕ) (i : ℕ) → One (Finds book i)
  pub read_book : (book r s : Bor (List ℕ)) (i : ℕ) → ReadsPart book i r → ReadsPart book i s → (r.now ≡ s.now) × (r.ref_ptr ≡ s.ref_ptr)
  pub write_book : (frames lent : List ℕ) → One (λ (o : Outcome × List ℕ). WritesBook frames lent o.0 o.1)
  pub list_frames : (first : ℕ) (bytes lent : List ℕ) → One (λ (o : ℕ × List ℕ). Lists first bytes lent o.1 o.0)
  pub list_book : (book lent : List ℕ) → One (λ (o : ℕ × List ℕ). ListsBook book lent o.1 o.0)
  pub read_line : (line : List ℕ) → One (λ (o : Option Reading). Answers line o)

-- no call of the library answers the struck number
pub record NeverStruck : Type 0 where
  pub sizes : {m t : ℕ} {r : SizesAnswer} → SizesAs m t r → r.number ≢ struck
  pub describe : {m t : ℕ} {lent left : List ℕ} {r : SizesAnswer} → DescribesAs m t lent r left → r.number ≢ struck
  pub encode : {m t : ℕ} {message lent left : List ℕ} {r : Told} → EncodesAs m t message lent r left → r.number ≢ struck
  pub decode : {m t : ℕ} {received lentWord lentList word list : List ℕ} {r : DecodeAnswer} → DecodesAs m t received lentWord lentList r word list
      → r.number ≢ struck
  pub edit : {m t start : ℕ} {lent stretch left : List ℕ} {r : Told} → EditsAs m t lent start stretch r left → r.number ≢ struck
  pub opening : {m t : ℕ} {word : List ℕ} {r : KeptAnswer} → OpensAs m t word r → r.number ≢ struck
  pub splice : (stored : Record) {start : ℕ} {stretch : List ℕ} {r : KeptAnswer} → SplicesAs stored start stretch r → r.number ≢ struck
  pub decode_kept : (stored : Record) {lentWord lentList word list : List ℕ} {r : DecodeKeptAnswer} → DecodesKeptAs stored lentWord lentList r word list
      → r.number ≢ struck
  pub make_frame : {house poll counter r : ℕ} {lent left : List ℕ} → MakesAs house poll counter lent r left → r ≢ struck
  pub read_frame : (frame : List ℕ) {r : ReadAnswer} → ReadsAs frame r → r.number ≢ struck
  pub look_at_book : (book : List ℕ) {r : LookAnswer} → LooksAs book r → r.number ≢ struck
  pub read_book : (book : List ℕ) (i : ℕ) {r : PartAnswer} → ReadsBookAs book i r → r.number ≢ struck
  pub write_book : {frames lent left : List ℕ} {r : ℕ} → WritesBookAs frames lent r left → r ≢ struck

-- A place of one of the buffers, which stand in the order in which they are looked at. It lies in its buffer and holds more than 1; all that stands before
-- it there, and every buffer before, holds 0 or 1.
pub record FirstBad (buffers : List (List ℕ)) (buffer place : ℕ) : Type 0 where
  pub is_lent : buffer < length buffers
  pub within : place < length (get_or buffers buffer [])
  pub above : 1 < get_or (get_or buffers buffer []) place 0
  pub before : (i : ℕ) → i < place → get_or (get_or buffers buffer []) i 0 ≤ 1
  pub earlier : (b : ℕ) → b < buffer → AreBits (get_or buffers b [])

-- with 5 the first bad place of the buffers is told, with every other number 0 and 0
pub record Tells (buffers : List (List ℕ)) (number buffer place : ℕ) : Type 0 where
  pub which : number ≡ 5 → FirstBad buffers buffer place
  pub zeros : number ≢ 5 → (buffer ≡ 0) × (place ≡ 0)

-- every call of the library that can be refused 5, with the buffers whose bits it looks at
pub record TellsWhich : Type 0 where
  pub encode : {m t : ℕ} {message lent left : List ℕ} {r : Told} → EncodesAs m t message lent r left
      → Tells (message ∷ []) r.number r.buffer r.place
  pub decode : {m t : ℕ} {received lentWord lentList word list : List ℕ} {r : DecodeAnswer} → DecodesAs m t received lentWord lentList r word list
      → Tells (received ∷ []) r.number r.buffer r.place
  pub edit : {m t start : ℕ} {lent stretch left : List ℕ} {r : Told} → EditsAs m t lent start stretch r left
      → Tells (lent ∷ stretch ∷ []) r.number r.buffer r.place
  pub opening : {m t : ℕ} {word : List ℕ} {r : KeptAnswer} → OpensAs m t word r → Tells (word ∷ []) r.number r.buffer r.place
  pub splice : (stored : Record) {start : ℕ} {stretch : List ℕ} {r : KeptAnswer} → SplicesAs stored start stretch r
      → Tells (stretch ∷ []) r.number r.buffer r.place

-- every other call of the library is never refused 5
pub record NeverBadBit : Type 0 where
  pub sizes : {m t : ℕ} {r : SizesAnswer} → SizesAs m t r → r.number ≢ 5
  pub describe : {m t : ℕ} {lent left : List ℕ} {r : SizesAnswer} → DescribesAs m t lent r left → r.number ≢ 5
  pub decode_kept : (stored : Record) {lentWord lentList word list : List ℕ} {r : DecodeKeptAnswer} → DecodesKeptAs stored lentWord lentList r word list
      → r.number ≢ 5
  pub make_frame : {house poll counter r : ℕ} {lent left : List ℕ} → MakesAs house poll counter lent r left → r ≢ 5
  pub read_frame : (frame : List ℕ) {r : ReadAnswer} → ReadsAs frame r → r.number ≢ 5
  pub look_at_book : (book : List ℕ) {r : LookAnswer} → LooksAs book r → r.number ≢ 5
  pub read_book : (book : List ℕ) (i : ℕ) {r : PartAnswer} → ReadsBookAs book i r → r.number ≢ 5
  pub write_book : {frames lent left : List ℕ} {r : ℕ} → WritesBookAs frames lent r left → r ≢ 5

-- The outcome is what the checks come to. Where an operation searches once they have passed, a refusal is that of a check, or it is 6 and there is nothing
-- to find; of a frame, also what the lead of the code word near it comes to.
pub record OneCondition : Type 0 where
  pub sizes : {m t : ℕ} (x : Result Described Refusal) → GivesSizes m t x → outcome_of x ≡ code_verdict m t sizes_checks
  pub describe : {m t : ℕ} {lent left : List ℕ} (x : Result Described Refusal) → Describes m t lent x left
      → outcome_of x ≡ code_verdict m t (describe_checks lent)
  pub encode : {m t : ℕ} {message lent left : List ℕ} {x : Outcome} → Encodes m t message lent x left → x ≡ code_verdict m t (encode_checks message lent)
  pub decode : {m t : ℕ} {received lentWord lentList word list : List ℕ} (x : Result ℕ Refusal) → Decodes m t received lentWord lentList x word list
      → (r : Refusal) → (outcome_of x ≡ Err r)
      ↔ RefusedBy (code_verdict m t (decode_checks received lentWord lentList)) r ((r ≡ NothingNear) × Far m t t received)
  pub edit : {m t start : ℕ} {lent stretch left : List ℕ} {x : Outcome} → Edits m t lent start stretch x left
      → x ≡ code_verdict m t (edit_checks lent start stretch)
  pub opening : {m t : ℕ} {word : List ℕ} (x : Result Kept Refusal) → Opens m t word x → outcome_of x ≡ code_verdict m t (open_checks word)
  pub splice : {stored : Kept} {start : ℕ} {stretch : List ℕ} (x : Result Kept Refusal) → Splices stored start stretch x
      → outcome_of x ≡ code_verdict stored.m stored.t (splice_checks stored start stretch)
  pub decode_kept : {stored : Kept} {lentWord lentList word list : List ℕ} (x : Result ℕ Refusal) → DecodesKept stored lentWord lentList x word list
      → (r : Refusal) → (outcome_of x ≡ Err r)
      ↔ RefusedBy (code_verdict stored.m stored.t (decode_kept_checks stored lentWord lentList)) r
      ((r ≡ NothingNear) × NoSet (code_of stored.m stored.t) stored)
  pub make_frame : {reading : Reading} {lent left : List ℕ} {x : Outcome} → Makes reading lent x left → x ≡ verdict (make_checks lent)
  pub read_frame : (frame : List ℕ) (x : Result ReadFrame Refusal) → Reads frame x → (r : Refusal) → (outcome_of x ≡ Err r)
      ↔ RefusedBy (verdict (frame_checks frame)) r (((r ≡ NothingNear) × Far 8 23 23 (word_of frame)) ⊎ NearLead (word_of frame) r)
  pub look_at_book : (book : List ℕ) (x : Result ℕ Refusal) → Looks book x → outcome_of x ≡ verdict (book_checks book)
  pub read_book : (book : List ℕ) (i : ℕ) (x : Result Found Refusal) → Finds book i x → outcome_of x ≡ verdict (find_checks book i)
  pub write_book : {frames lent left : List ℕ} {x : Outcome} → WritesBook frames lent x left → x ≡ verdict (write_checks frames lent)

-- where it is refused, every number beside the outcome is 0 and every lent buffer is as it was; Open gives a record of zeros, Splice the record it got
pub record RefusedStays : Type 0 where
  pub sizes : {m t : ℕ} (x : Result Described Refusal) → GivesSizes m t x → outcome_of x ≢ Ok tt → ((sizes_given x).n ≡ 0) × ((sizes_given x).k ≡ 0)
  pub describe : {m t : ℕ} {lent left : List ℕ} (x : Result Described Refusal) → Describes m t lent x left → outcome_of x ≢ Ok tt
      → ((sizes_given x).n ≡ 0) × ((sizes_given x).k ≡ 0) × (left ≡ lent)
  pub encode : {m t : ℕ} {message lent left : List ℕ} {x : Outcome} → Encodes m t message lent x left → x ≢ Ok tt → left ≡ lent
  pub decode : {m t : ℕ} {received lentWord lentList word list : List ℕ} (x : Result ℕ Refusal) → Decodes m t received lentWord lentList x word list
      → outcome_of x ≢ Ok tt → (result_unwrap_or x 0 ≡ 0) × (word ≡ lentWord) × (list ≡ lentList)
  pub edit : {m t start : ℕ} {lent stretch left : List ℕ} {x : Outcome} → Edits m t lent start stretch x left → x ≢ Ok tt → left ≡ lent
  pub opening : {m t : ℕ} {word : List ℕ} (x : Result Kept Refusal) → Opens m t word x → outcome_of x ≢ Ok tt
      → result_unwrap_or x zero_kept ≡ zero_kept
  pub splice : {stored : Kept} {start : ℕ} {stretch : List ℕ} (x : Result Kept Refusal) → Splices stored start stretch x → outcome_of x ≢ Ok tt
      → result_unwrap_or x stored ≡ stored
  pub decode_kept : {stored : Kept} {lentWord lentList word list : List ℕ} (x : Result ℕ Refusal) → DecodesKept stored lentWord lentList x word list
      → outcome_of x ≢ Ok tt → (result_unwrap_or x 0 ≡ 0) × (word ≡ lentWord) × (list ≡ lentList)
  pub make_frame : {reading : Reading} {lent left : List ℕ} {x : Outcome} → Makes reading lent x left → x ≢ Ok tt → left ≡ lent
  pub read_frame : (frame : List ℕ) (x : Result ReadFrame Refusal) → Reads frame x → outcome_of x ≢ Ok tt → given_by x ≡ zeros
  pub look_at_book : (book : List ℕ) (x : Result ℕ Refusal) → Looks book x → outcome_of x ≢ Ok tt → result_unwrap_or x 0 ≡ 0
  pub read_book : (book : List ℕ) (i : ℕ) (x : Result Found Refusal) → Finds book i x → outcome_of x ≢ Ok tt → span_of x ≡ empty_span
  pub write_book : {frames lent left : List ℕ} {x : Outcome} → WritesBook frames lent x left → x ≢ Ok tt → left ≡ lent

-- The same under the C names, where a number stands for the outcome: with any but 0, every value is 0 and every lent buffer is as it was; Open gives a record
-- of zeros, Splice the record it got. Of buffer and place, which go with 5, TellsWhich speaks.
pub record RefusedAs : Type 0 where
  pub sizes : {m t : ℕ} {r : SizesAnswer} → SizesAs m t r → r.number ≢ 0 → (r.n ≡ 0) × (r.k ≡ 0)
  pub describe : {m t : ℕ} {lent left : List ℕ} {r : SizesAnswer} → DescribesAs m t lent r left → r.number ≢ 0
      → (r.n ≡ 0) × (r.k ≡ 0) × (left ≡ lent)
  pub encode : {m t : ℕ} {message lent left : List ℕ} {r : Told} → EncodesAs m t message lent r left → r.number ≢ 0 → left ≡ lent
  pub decode : {m t : ℕ} {received lentWord lentList word list : List ℕ} {r : DecodeAnswer} → DecodesAs m t received lentWord lentList r word list
      → r.number ≢ 0 → (r.wrong ≡ 0) × (word ≡ lentWord) × (list ≡ lentList)
  pub edit : {m t start : ℕ} {lent stretch left : List ℕ} {r : Told} → EditsAs m t lent start stretch r left → r.number ≢ 0 → left ≡ lent
  pub opening : {m t : ℕ} {word : List ℕ} {r : KeptAnswer} → OpensAs m t word r → r.number ≢ 0 → r.record ≡ laid_out zero_kept
  pub splice : (stored : Record) {start : ℕ} {stretch : List ℕ} {r : KeptAnswer} → SplicesAs stored start stretch r → r.number ≢ 0
      → r.record ≡ laid_out (kept_of stored)
  pub decode_kept : (stored : Record) {lentWord lentList word list : List ℕ} {r : DecodeKeptAnswer} → DecodesKeptAs stored lentWord lentList r word list
      → r.number ≢ 0 → (r.wrong ≡ 0) × (word ≡ lentWord) × (list ≡ lentList)
  pub make_frame : {house poll counter r : ℕ} {lent left : List ℕ} → MakesAs house poll counter lent r left → r ≢ 0 → left ≡ lent
  pub read_frame : (frame : List ℕ) {r : ReadAnswer} → ReadsAs frame r → r.number ≢ 0
      → (r.house ≡ 0) × (r.poll ≡ 0) × (r.counter ≡ 0) × (r.wrong ≡ 0)
  pub look_at_book : (book : List ℕ) {r : LookAnswer} → LooksAs book r → r.number ≢ 0 → r.count ≡ 0
  pub read_book : (book : List ℕ) (i : ℕ) {r : PartAnswer} → ReadsBookAs book i r → r.number ≢ 0 → (r.offset ≡ 0) × (r.length ≡ 0)
  pub write_book : {frames lent left : List ℕ} {r : ℕ} → WritesBookAs frames lent r left → r ≢ 0 → left ≡ lent

-- what an output buffer held before is not looked at: two calls that lend other contents of the same length give the same answer,
-- and where it is done they leave the same
pub record NeverLookedAt : Type 0 where
  pub describe : {m t : ℕ} {lent lent' left left' : List ℕ} (x y : Result Described Refusal) → length lent ≡ length lent'
      → Describes m t lent x left → Describes m t lent' y left' → (x ≡ y) × (outcome_of x ≡ Ok tt → left ≡ left')
  pub encode : {m t : ℕ} {message lent lent' left left' : List ℕ} {x y : Outcome} → length lent ≡ length lent'
      → Encodes m t message lent x left → Encodes m t message lent' y left' → (x ≡ y) × (x ≡ Ok tt → left ≡ left')
  pub decode : {m t : ℕ} {received lentWord lentList lentWord' lentList' word list word' list' : List ℕ} (x y : Result ℕ Refusal)
      → length lentWord ≡ length lentWord' → length lentList ≡ length lentList'
      → Decodes m t received lentWord lentList x word list → Decodes m t received lentWord' lentList' y word' list'
      → (x ≡ y) × (outcome_of x ≡ Ok tt → (word ≡ word') × (list ≡ list'))
  pub decode_kept : {stored : Kept} {lentWord lentList lentWord' lentList' word list word' list' : List ℕ} (x y : Result ℕ Refusal)
      → length lentWord ≡ length lentWord' → length lentList ≡ length lentList'
      → DecodesKept stored lentWord lentList x word list → DecodesKept stored lentWord' lentList' y word' list'
      → (x ≡ y) × (outcome_of x ≡ Ok tt → (word ≡ word') × (list ≡ list'))
  pub make_frame : {reading : Reading} {lent lent' left left' : List ℕ} {x y : Outcome} → length lent ≡ length lent'
      → Makes reading lent x left → Makes reading lent' y left' → (x ≡ y) × (x ≡ Ok tt → left ≡ left')
  pub write_book : {frames lent lent' left left' : List ℕ} {x y : Outcome} → length lent ≡ length lent'
      → WritesBook frames lent x left → WritesBook frames lent' y left' → (x ≡ y) × (x ≡ Ok tt → left ≡ left')

-- 2. the code

-- the pairs of numbers that have P are c in number: each has a number of its own below c, and each number below c is that of one
pub record Numbered (P : ℕ → ℕ → Type 0) (c : ℕ) : Type 0 where
  pub number : ℕ → ℕ → ℕ
  pub below : (m t : ℕ) → P m t → number m t < c
  pub own : (m t m' t' : ℕ) → P m t → P m' t' → number m t ≡ number m' t' → (m ≡ m') × (t ≡ t')
  pub each : (r : ℕ) → r < c → (m : ℕ) × (t : ℕ) × P m t × (number m t ≡ r)

-- The numbers below 2^m with this sum and this product are a field of 8 to 1,024 elements, and every element but 0 is a power of a.
-- A law that holds of all numbers is said of all.
pub record GaloisField (m : ℕ) : Type 0 where
  pub least : 8 ≤ 2 ^ m
  pub most : 2 ^ m ≤ 1024
  pub sum_within : (x y : ℕ) → x < 2 ^ m → y < 2 ^ m → x ⊕ y < 2 ^ m
  pub sum_assoc : (x y z : ℕ) → x ⊕ y ⊕ z ≡ x ⊕ (y ⊕ z)
  pub sum_comm : (x y : ℕ) → x ⊕ y ≡ y ⊕ x
  pub sum-zero : (x : ℕ) → x ⊕ 0 ≡ x
  pub sum_self : (x : ℕ) → x ⊕ x ≡ 0
  pub product_within : (x y : ℕ) → x ⊗⟨ m ⟩ y < 2 ^ m
  pub product_assoc : (x y z : ℕ) → x ⊗⟨ m ⟩ y ⊗⟨ m ⟩ z ≡ x ⊗⟨ m ⟩ (y ⊗⟨ m ⟩ z)
  pub product_comm : (x y : ℕ) → x ⊗⟨ m ⟩ y ≡ y ⊗⟨ m ⟩ x
  pub product-one : (x : ℕ) → x < 2 ^ m → x ⊗⟨ m ⟩ 1 ≡ x
  pub product_over : (x y z : ℕ) → x ⊗⟨ m ⟩ (y ⊕ z) ≡ x ⊗⟨ m ⟩ y ⊕ x ⊗⟨ m ⟩ z
  pub inverse_within : (x : ℕ) → inverse m x < 2 ^ m
  pub inverse_law : (x : ℕ) → x < 2 ^ m → x ≢ 0 → x ⊗⟨ m ⟩ inverse m x ≡ 1
  pub a_around : power m a (n_of m) ≡ 1
  pub a_before : (i : ℕ) → 0 < i → i < n_of m → power m a i ≢ 1
  pub a_reaches : (x : ℕ) → x < 2 ^ m → x ≢ 0 → (i : ℕ) × (i < n_of m) × (power m a i ≡ x)

-- h is a multiple of p, as polynomials over bits
pub record Divides (p h : List ℕ) : Type 0 where
  pub quotient : List ℕ
  pub bits : AreBits quotient
  pub whole : (i : ℕ) → get_or h i 0 ≡ get_or (product_bits quotient p) i 0

-- a multiple of each minimal polynomial of a, a^3, .. a^(2t-1)
pub record CommonMultiple (m t : ℕ) (h : List ℕ) : Type 0 where
  pub bits : AreBits h
  pub each : (i d : ℕ) (p : List ℕ) → i < t → Minimal m (2 * i + 1) d p → Divides p h

-- one that divides every other
pub record LeastCommonMultiple (m t : ℕ) (g : List ℕ) : Type 0 where
  pub common : CommonMultiple m t g
  pub least : (h : List ℕ) → CommonMultiple m t h → Divides g h

-- 2. sending and receiving

-- the word is the only code word within t of what came in; the list has the places where the two differ, upward, then zeros
pub record Received (m t : ℕ) (received : List ℕ) (wrong : ℕ) (word list : List ℕ) : Type 0 where
  pub code_word : CodeWord m t word
  pub within : distance received word ≤ t
  pub only : (other : List ℕ) → CodeWord m t other → distance received other ≤ t → other ≡ word
  pub count : wrong ≡ distance received word
  pub upward : Ascending (differences received word)
  pub lists : list ≡ differences received word ++ replicate (t - wrong) 0

-- The second check of a word's sums, for which 8 stood: S_1 to S_2t, worked out once more, are all 0. Whoever opens the word can see it: Open works out
-- the odd ones, and they are zeros.
pub record PassesAgain (m t : ℕ) (word : List ℕ) : Type 0 where
  pub sums : (j : ℕ) → 1 ≤ j → j ≤ 2 * t → sum_of m j word ≡ 0
  pub opens : (y : Result Kept Refusal) → Opens m t word y → (outcome_of y ≡ Ok tt) × ((result_unwrap_or y zero_kept).sums ≡ replicate 255 0)

-- 3. what is kept, and what is edited

-- one splice after another, accepted or refused, each with any answer that the promise allows: a start and a stretch for each
abbrev pub After : Kept → List (ℕ × List ℕ) → Kept → Type 0
After stored [] after = stored ≡ after
After stored (s ∷ splices) after = (x : Result Kept Refusal) × Splices stored s.0 s.1 x × After (result_unwrap_or x stored) splices after

-- the resulting bits of a word and one splice: one that runs past the end or holds more than bits leaves them, another is pasted in
abbrev pub spliced : List ℕ → ℕ × List ℕ → List ℕ
spliced word s = cond (runs_past s.0 (length s.1) (length word) || has_bad_bit s.1) word (paste word s.0 s.1 (length s.1))

-- and of all splices, one after another
abbrev pub resulting : List ℕ → List (ℕ × List ℕ) → List ℕ
resulting word [] = word
resulting word (s ∷ splices) = resulting (spliced word s) splices

-- a record is as it was but for the places from start to end and for the first t sums
pub record Elsewhere (stored : Kept) (start end : ℕ) (after : Kept) : Type 0 where
  pub m_is : after.m ≡ stored.m
  pub t_is : after.t ≡ stored.t
  pub bits_long : length after.bits ≡ length stored.bits
  pub sums_long : length after.sums ≡ length stored.sums
  pub places : (p : ℕ) → (p < start) ⊎ (end ≤ p) → get_or after.bits p 0 ≡ get_or stored.bits p 0
  pub sums : (i : ℕ) → stored.t ≤ i → get_or after.sums i 0 ≡ get_or stored.sums i 0

-- the message of a word with the stretch in it
abbrev pub edited_message : ℕ → ℕ → List ℕ → ℕ → List ℕ → List ℕ
edited_message m t word start stretch = paste (drop (n_of m - k_of m t) word) start stretch (length stretch)

-- a word is as it was but for the stretch and the parity
pub record OnlyStretch (m t : ℕ) (word : List ℕ) (start end : ℕ) (after : List ℕ) : Type 0 where
  pub long : length after ≡ length word
  pub places : (p : ℕ) → n_of m - k_of m t ≤ p → (p < n_of m - k_of m t + start) ⊎ (n_of m - k_of m t + end ≤ p) → get_or after p 0 ≡ get_or word p 0

-- the reading frame

-- the answer that gives this reading, with so many wrong places
abbrev pub read_as : Reading → ℕ → Result ReadFrame Refusal
read_as reading wrong = Ok (record { reading = reading; wrong = wrong })

-- A line stuck at a bit, 0 or 1, with up to 23 changed bits: 32 bytes whose word, their 255 sent bits, differs from 255 times that bit in at most 23 places.
pub record StuckAt (bit : ℕ) (frame : List ℕ) : Type 0 where
  pub long : length frame ≡ 32
  pub changed : distance (word_of frame) (replicate 255 bit) ≤ 23

-- 10 if the pad is 1, else 11
abbrev pub pad_or_lead : List ℕ → Refusal
pad_or_lead frame = cond (eqb (sent_bit frame 255) 1) PadBit LeadBits

-- the poll book

-- A book that was written of these frames, taken home with other bytes in front of it, or none. It is a book of as many frames. Each number below the count
-- gives its frame, the very 32 bytes where they lie in the lent book; every other number is 15, with the empty part at the front.
pub record CarriedHome (frames front book : List ℕ) : Type 0 where
  pub is_book : IsBook (front ++ book) (frame_count frames)
  pub counted : (x : Result ℕ Refusal) → Looks (front ++ book) x → (outcome_of x ≡ Ok tt) × (result_unwrap_or x 0 ≡ frame_count frames)
  pub found : (i : ℕ) (x : Result Found Refusal) → Finds (front ++ book) i x → i < frame_count frames
      → (outcome_of x ≡ Ok tt) × ((span_of x).from ≡ length front + 32 * i) × ((span_of x).to ≡ length front + 32 * i + 32)
  pub none : (i : ℕ) (x : Result Found Refusal) → Finds (front ++ book) i x → frame_count frames ≤ i
      → (outcome_of x ≡ Err NoSuchFrame) × (span_of x ≡ empty_span)
  pub frame : (lent r : Bor (List ℕ)) (i : ℕ) → lent.now ≡ front ++ book → ReadsPart lent i r → i < frame_count frames
      → (r.now ≡ frame_at frames i) × (r.ref_ptr ≡ (lent.ref_ptr.0, length front + 32 * i + lent.ref_ptr.1))
  pub empty : (lent r : Bor (List ℕ)) (i : ℕ) → lent.now ≡ front ++ book → ReadsPart lent i r → frame_count frames ≤ i
      → (r.now ≡ []) × (r.ref_ptr ≡ lent.ref_ptr)

-- the programs

-- the pieces in which an input comes, one after another
abbrev pub joined : List (List ℕ) → List ℕ
joined [] = []
joined (piece ∷ pieces) = piece ++ joined pieces

-- the lines of the frames that are whole, and then that of a frame too short to be read
pub record EndsShort (bytes : List ℕ) (first : ℕ) (text : List ℕ) : Type 0 where
  pub before : List ℕ
  pub lines : Lines bytes first (length bytes / 32) before
  pub is : text ≡ before ++ refused_line (first + length bytes / 32) FrameLength

-- Pieces given to the making one after another, each with any result that its promise allows. What is written are the fronts of the buffers.
pub data MakingSteps : Progress → List ℕ → List (List ℕ) → Progress → List ℕ → List ℕ → List ℕ → Type 0 where
  stands : {at : Progress} {line : List ℕ} → MakingSteps at line [] at line [] []
  goes_on : {at mid after : Progress} {line piece lent-frames lent-names line' left-frames left-names : List ℕ} {pieces : List (List ℕ)}
      {line'' frames names : List ℕ} → Fills at line piece lent-frames lent-names mid line' left-frames left-names
      → MakingSteps mid line' pieces after line'' frames names
      → MakingSteps at line (piece ∷ pieces) after line'' (take mid.frames left-frames ++ frames) (take mid.names left-names ++ names)

-- no line has ended and none has begun
pub record Begins (at : Progress) : Type 0 where
  pub lines : at.lines ≡ 0
  pub held : at.held ≡ 0

-- pieces from the beginning, and then the end of the input
pub data MakingRun (pieces : List (List ℕ)) : List ℕ → List ℕ → Type 0 where
  whole : {at mid after : Progress} {line line' frames names lent-frames lent-names left-frames left-names : List ℕ} → Begins at
      → MakingSteps at line pieces mid line' frames names → FillsLast mid line' lent-frames lent-names after left-frames left-names
      → MakingRun pieces (frames ++ take after.frames left-frames) (names ++ take after.names left-names)
