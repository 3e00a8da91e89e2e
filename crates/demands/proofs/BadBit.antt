-- Refusal 5 says which bit: in each operation it comes from the first bad place of the buffers whose bits it looks at. Every other answer has zeros there,
-- and an operation that looks at no bits is never refused 5.
use mathlib.Core.Path.{◌≡◌, ◌∙◌, refl, sym, ap, subst}
use mathlib.Core.Bool.{Bool, true, false, not}
use mathlib.Core.List.{List, [], ◌∷◌}
use mathlib.Core.Logic.{◌≢◌, ◌⊎◌, inl, inr}
use Prim.Native.Nat.{ℕ, zero, suc, ◌<◌}
use native.Mathlib.Omega.{arith}
use borrow.Author.Tests.{ltb-true}
use mir.Facts.{eqb_no}
use lib.Dec.{T, eqb}
use lib.ListN.{length, get_or}
use Rattle.std.specs.Prelude.{Result, Ok, Err}
use Rattle.sheet.specs.declared.Refusal.{Refusal}
use Rattle.sheet.specs.declared.Refusal.TheVariants.{NothingNear, BitAboveOne}
use Rattle.sheet.specs.declared.Told.{Told}
use Rattle.sheet.specs.Number.{Outcome, outcome_of}
use Rattle.sheet.specs.Number.{told_of, outcome_told, number_of, outcome_number}
use Rattle.sheet.specs.Verdict.{Check, ◌⇒◌, verdict}
use Rattle.sheet.proofs.NumberLaws.{outcome_plain}
use Rattle.sheet.proofs.VerdictLaws.{Each, refused_each, answer_is}
use Rattle.bits.specs.Bits.{AreBits, first_above, has_bad_bit}
use Rattle.bits.proofs.BitLaws.{first_above_here, first_above_before, bits_of_not_bad}
use Rattle.codes.specs.Look.{code_of, code_checks, code_verdict}
use Rattle.codec.specs.declared.describing.Described.{Described}
use Rattle.codec.specs.Sizes.{GivesSizes}
use Rattle.codec.specs.Describe.{Describes, describe_checks}
use Rattle.codec.specs.Encode.{Encodes, encode_checks}
use Rattle.codec.specs.Edit.{Edits, edit_checks}
use Rattle.decode.specs.Decode.{Decodes, Far, decode_checks}
use Rattle.kept.specs.declared.Kept.{Kept}
use Rattle.kept.specs.Open.{Opens, open_checks}
use Rattle.splice.specs.Splice.{Splices, splice_checks}
use Rattle.decode_kept.specs.DecodeKept.{DecodesKept, NoSet, decode_kept_checks}
use Rattle.layout.specs.declared.message.Reading.{Reading}
use Rattle.layout.specs.Frame.{word_of}
use Rattle.frame.specs.declared.reading.ReadFrame.{ReadFrame}
use Rattle.frame.specs.Make.{Makes, make_checks}
use Rattle.frame.specs.Read.{Reads, frame_checks, lead_checks}
use Rattle.book.specs.declared.reading.Found.{Found}
use Rattle.book.specs.Read.{Looks, book_checks, Finds, find_checks}
use Rattle.book.specs.Write.{WritesBook, write_checks}
use Rattle.blentovar.specs.declared.SizesAnswer.{SizesAnswer}
use Rattle.blentovar.specs.declared.DecodeAnswer.{DecodeAnswer}
use Rattle.blentovar.specs.declared.KeptAnswer.{KeptAnswer}
use Rattle.blentovar.specs.declared.DecodeKeptAnswer.{DecodeKeptAnswer}
use Rattle.blentovar.specs.declared.ReadAnswer.{ReadAnswer}
use Rattle.blentovar.specs.declared.LookAnswer.{LookAnswer}
use Rattle.blentovar.specs.declared.PartAnswer.{PartAnswer}
use Rattle.blentovar.specs.Answers.{LaidOut}
use Rattle.demands.specs.Words.{RefusedBy, NearLead, FirstBad, Tells, TellsWhich, NeverBadBit}
use Rattle.demands.proofs.Exactly.{decode_refused, decode_kept_refused, read_refused}

-- a refusal that is 5 tells the first bad place of the buffers
record Names (buffers : List (List ℕ)) (r : Refusal) : Type 0 where
  which : number_of r ≡ 5 → FirstBad buffers (told_of r).buffer (told_of r).place

abbrev TellsOf : List (List ℕ) → Told → Type 0
TellsOf buffers told = Tells buffers told.number told.buffer told.place

-- so does an outcome whose refusal does
tells : (buffers : List (List ℕ)) (x : Outcome) → ((r : Refusal) → x ≡ Err r → Names buffers r)
    → TellsOf buffers (outcome_told x)
tells buffers x names =
    record {
      which = five x names;
      zeros = λ n. let plain = outcome_plain x n in (ap (λ (t : Told). t.buffer) plain, ap (λ (t : Told). t.place) plain);
    }
  where
    five : (x : Outcome) → ((r : Refusal) → x ≡ Err r → Names buffers r) → outcome_number x ≡ 5
        → FirstBad buffers (outcome_told x).buffer (outcome_told x).place
    five (Ok u) f e = absurd (omega arith)
    five (Err r) f e = (f r refl).which e

-- a bad bit of the first buffer, and one of the second behind a first that holds bits
first : (xs : List ℕ) (later : List (List ℕ)) → has_bad_bit xs ≡ true → FirstBad (xs ∷ later) 0 (first_above xs)
first xs later e =
    let found = ltb-true (first_above xs) (length xs) e in
    record {
      is_lent = omega arith;
      within = found;
      above = first_above_here xs found;
      before = first_above_before xs;
      earlier = λ b l. absurd (omega arith);
    }

second : (xs ys : List ℕ) → AreBits xs → has_bad_bit ys ≡ true → FirstBad (xs ∷ ys ∷ []) 1 (first_above ys)
second xs ys bits e =
    let found = ltb-true (first_above ys) (length ys) e in
    record { is_lent = omega arith; within = found; above = first_above_here ys found; before = first_above_before ys; earlier = earlier }
  where
    earlier : (b : ℕ) → b < 1 → AreBits (get_or (xs ∷ ys ∷ []) b [])
    earlier zero l = bits
    earlier (suc b) l = absurd (omega arith)

-- a check of another number
other : {buffers : List (List ℕ)} {r : Refusal} {b : Bool} → T (not (eqb (number_of r) 5)) → b ≡ true → Names buffers r
other n e = record { which = λ f. absurd (eqb_no n f) }

-- a check of lent bits
bad : {buffers : List (List ℕ)} {buffer place : ℕ} → FirstBad buffers buffer place → Names buffers (BitAboveOne buffer place)
bad f = record { which = λ e. f }

-- behind the first two checks the operation's own decide
named : (buffers : List (List ℕ)) (m t : ℕ) (own : List Check) {r : Refusal} → Each (Names buffers) own → verdict (code_checks m t own) ≡ Err r
    → Names buffers r
named buffers m t own p e = refused_each (Names buffers) (code_checks m t own) (other tt, λ z. (other tt, λ z. p)) e

told_by : (buffers : List (List ℕ)) (m t : ℕ) (own : List Check) {x : Outcome} → Each (Names buffers) own → x ≡ verdict (code_checks m t own)
    → TellsOf buffers (outcome_told x)
told_by buffers m t own {x} p e = tells buffers x (λ r f. named buffers m t own p (sym e ∙ f))

encode_tells : {m t : ℕ} {message lent left : List ℕ} {x : Outcome} → Encodes m t message lent x left → TellsOf (message ∷ []) (outcome_told x)
encode_tells {m} {t} {message} {lent} p =
    told_by (message ∷ []) m t (encode_checks message lent (code_of m t)) (other tt, λ z. (other tt, λ z. (λ e. bad (first message [] e), λ z. tt)))
    (answer_is p.promise)

edit_tells : {m t start : ℕ} {lent stretch left : List ℕ} {x : Outcome} → Edits m t lent start stretch x left
    → TellsOf (lent ∷ stretch ∷ []) (outcome_told x)
edit_tells {m} {t} {start} {lent} {stretch} p =
    told_by (lent ∷ stretch ∷ []) m t (edit_checks lent start stretch (code_of m t))
    (other tt, λ z. (other tt, λ z. (λ e. bad (first lent (stretch ∷ []) e), in_stretch))) (answer_is p.promise)
  where
    in_stretch : has_bad_bit lent ≡ false → Each (Names (lent ∷ stretch ∷ [])) (has_bad_bit stretch ⇒ BitAboveOne 1 (first_above stretch) ∷ [])
    in_stretch good = (λ e. bad (second lent stretch (bits_of_not_bad lent good) e), λ z. tt)

open_tells : {m t : ℕ} {word : List ℕ} (x : Result Kept Refusal) → Opens m t word x → TellsOf (word ∷ []) (outcome_told (outcome_of x))
open_tells {m} {t} {word} x p =
    told_by (word ∷ []) m t (open_checks word (code_of m t)) (other tt, λ z. (λ e. bad (first word [] e), λ z. tt)) (answer_is p.promise)

splice_tells : {stored : Kept} {start : ℕ} {stretch : List ℕ} (x : Result Kept Refusal) → Splices stored start stretch x
    → TellsOf (stretch ∷ []) (outcome_told (outcome_of x))
splice_tells {stored} {start} {stretch} x p =
    told_by (stretch ∷ []) stored.m stored.t (splice_checks stored start stretch (code_of stored.m stored.t))
    (other tt, λ z. (other tt, λ z. (λ e. bad (first stretch [] e), λ z. tt))) (answer_is p.promise)

-- Decode's refusal is that of a check, or 6
decode_tells : {m t : ℕ} {received lentWord lentList word list : List ℕ} (x : Result ℕ Refusal) → Decodes m t received lentWord lentList x word list
    → TellsOf (received ∷ []) (outcome_told (outcome_of x))
decode_tells {m} {t} {received} {lentWord} {lentList} x p =
    tells (received ∷ []) (outcome_of x) (λ r e. pick r ((decode_refused x p r).0 e))
  where
    pick : (r : Refusal) → RefusedBy (code_verdict m t (decode_checks received lentWord lentList)) r ((r ≡ NothingNear) × Far m t t received)
        → Names (received ∷ []) r
    pick r (inl e) =
        named (received ∷ []) m t (decode_checks received lentWord lentList (code_of m t))
        (other tt, λ z. (other tt, λ z. (other tt, λ z. (λ e. bad (first received [] e), λ z. tt)))) e
    pick r (inr (z, (e, far))) = subst (Names (received ∷ [])) (sym e) (other tt refl)

-- and under its C name it tells the same
laid : {A R : Type 0} {layout : A → R} {P : A → Type 0} {r : R} (Q : R → Type 0) → ((x : A) → P x → Q (layout x)) → LaidOut layout P r → Q r
laid Q f p = subst Q (sym p.is) (f p.answer p.promised)

abbrev decoded : List (List ℕ) → DecodeAnswer → Type 0
decoded buffers r = Tells buffers r.number r.buffer r.place

abbrev kept : List (List ℕ) → KeptAnswer → Type 0
kept buffers r = Tells buffers r.number r.buffer r.place

pub tells_which : TellsWhich
tells_which =
    record {
      encode = λ p. laid (TellsOf _) (λ x q. encode_tells q) p;
      decode = λ p. laid (decoded _) (λ x q. decode_tells x q) p;
      edit = λ p. laid (TellsOf _) (λ x q. edit_tells q) p;
      opening = λ p. laid (kept _) (λ x q. open_tells x q) p;
      splice = λ stored p. laid (kept _) (λ x q. splice_tells x q) p;
    }

-- the other operations look at no buffer's bits, so 5 could name none

never : {number buffer place : ℕ} → Tells [] number buffer place → number ≢ 5
never t e = omega (arith, (t.which e).is_lent)

sizes_never : {m t : ℕ} (x : Result Described Refusal) → GivesSizes m t x → outcome_number (outcome_of x) ≢ 5
sizes_never {m} {t} x p = never (told_by [] m t [] tt (answer_is p.promise))

describe_never : {m t : ℕ} {lent left : List ℕ} (x : Result Described Refusal) → Describes m t lent x left → outcome_number (outcome_of x) ≢ 5
describe_never {m} {t} {lent} x p = never (told_by [] m t (describe_checks lent (code_of m t)) (other tt, λ z. tt) (answer_is p.promise))

decode_kept_never : {stored : Kept} {lentWord lentList word list : List ℕ} (x : Result ℕ Refusal) → DecodesKept stored lentWord lentList x word list
    → outcome_number (outcome_of x) ≢ 5
decode_kept_never {stored} {lentWord} {lentList} x p = never (tells [] (outcome_of x) (λ r e. pick r ((decode_kept_refused x p r).0 e)))
  where
    pick : (r : Refusal) → RefusedBy (code_verdict stored.m stored.t (decode_kept_checks stored lentWord lentList)) r
        ((r ≡ NothingNear) × NoSet (code_of stored.m stored.t) stored)
        → Names [] r
    pick r (inl e) =
        named [] stored.m stored.t (decode_kept_checks stored lentWord lentList (code_of stored.m stored.t))
        (other tt, λ z. (other tt, λ z. (other tt, λ z. tt))) e
    pick r (inr (z, (e, none))) = subst (Names []) (sym e) (other tt refl)

-- an operation whose checks have all other numbers
checks_never : {x : Outcome} (checks : List Check) → Each (Names []) checks → x ≡ verdict checks → outcome_number x ≢ 5
checks_never {x} checks p e = never (tells [] x (λ r f. refused_each (Names []) checks p (sym e ∙ f)))

make_never : {reading : Reading} {lent left : List ℕ} {x : Outcome} → Makes reading lent x left → outcome_number x ≢ 5
make_never {lent = lent} p = checks_never (make_checks lent) (other tt, λ z. tt) (answer_is p)

read_never : (frame : List ℕ) (x : Result ReadFrame Refusal) → Reads frame x → outcome_number (outcome_of x) ≢ 5
read_never frame x p = never (tells [] (outcome_of x) (λ r e. pick r ((read_refused frame x p r).0 e)))
  where
    pick : (r : Refusal) → RefusedBy (verdict (frame_checks frame)) r (((r ≡ NothingNear) × Far 8 23 23 (word_of frame)) ⊎ NearLead (word_of frame) r)
        → Names [] r
    pick r (inl e) = refused_each (Names []) (frame_checks frame) (other tt, λ z. (other tt, λ z. tt)) e
    pick r (inr (z, inl (e, far))) = subst (Names []) (sym e) (other tt refl)
    pick r (inr (z, inr (word, C, d, e))) = refused_each (Names []) (lead_checks word) (other tt, λ z. tt) e

look_never : (book : List ℕ) (x : Result ℕ Refusal) → Looks book x → outcome_number (outcome_of x) ≢ 5
look_never book x p = checks_never (book_checks book) (other tt, λ z. (other tt, λ z. tt)) (answer_is p)

find_never : (book : List ℕ) (i : ℕ) (x : Result Found Refusal) → Finds book i x → outcome_number (outcome_of x) ≢ 5
find_never book i x p = checks_never (find_checks book i) (other tt, λ z. (other tt, λ z. (other tt, λ z. tt))) (answer_is p)

write_book_never : {frames lent left : List ℕ} {x : Outcome} → WritesBook frames lent x left → outcome_number x ≢ 5
write_book_never {frames} {lent} p = checks_never (write_checks frames lent) (other tt, λ z. (other tt, λ z. (other tt, λ z. tt))) (answer_is p)

pub never_bad_bit : NeverBadBit
never_bad_bit =
    record {
      sizes = λ p. laid (λ (r : SizesAnswer). r.number ≢ 5) (λ x q. sizes_never x q) p;
      describe = λ p. laid (λ (r : SizesAnswer). r.number ≢ 5) (λ x q. describe_never x q) p;
      decode_kept = λ stored p. laid (λ (r : DecodeKeptAnswer). r.number ≢ 5) (λ x q. decode_kept_never x q) p;
      make_frame = λ p. laid (λ (r : ℕ). r ≢ 5) (λ x q. make_never q) p;
      read_frame = λ frame p. laid (λ (r : ReadAnswer). r.number ≢ 5) (λ x q. read_never frame x q) p;
      look_at_book = λ book p. laid (λ (r : LookAnswer). r.number ≢ 5) (λ x q. look_never book x q) p;
      read_book = λ book i p. laid (λ (r : PartAnswer). r.number ≢ 5) (λ x q. find_never book i x q) p;
      write_book = λ p. laid (λ (r : ℕ). r ≢ 5) (λ x q. write_book_never q) p;
    }
