-- 8 is struck: no call of the library answers it, and a mended word always passes the second check for which it stood.
use mathlib.Core.Path.{◌≡◌, ◌∙◌, refl, sym, ap}
use mathlib.Core.List.{List}
use mathlib.Core.Logic.{◌≢◌}
use Prim.Native.Nat.{ℕ, ◌+◌, ◌*◌}
use native.Mathlib.Omega.{arith}
use lib.ListN.{replicate, length-replicate}
use Rattle.std.specs.Result.{result_unwrap_or}
use Rattle.std.specs.Prelude.{Result, Ok}
use Rattle.sheet.specs.declared.Refusal.{Refusal}
use Rattle.sheet.specs.Number.{Outcome, outcome_of}
use Rattle.sheet.specs.declared.Told.{Told}
use Rattle.sheet.specs.Number.{outcome_told, outcome_number, struck}
use Rattle.sheet.proofs.StruckLaws.{outcome_never_struck}
use Rattle.sheet.proofs.VerdictLaws.{equal, done_passed}
use Rattle.bits.proofs.BitLaws.{not_bad, zeros_at}
use Rattle.codes.specs.Look.{code_of, code_verdict}
use Rattle.codes.specs.Work.{Known}
use Rattle.codes.specs.Sums.{CodeWord}
use Rattle.codes.proofs.CheckLaws.{past, code_passes}
use Rattle.codec.specs.declared.describing.Described.{Described}
use Rattle.decode.specs.Decode.{Decodes, decode_checks}
use Rattle.kept.specs.declared.Kept.{Kept}
use Rattle.kept.specs.Record.{zero_kept}
use Rattle.kept.specs.Open.{Opens, open_checks}
use Rattle.frame.specs.declared.reading.ReadFrame.{ReadFrame}
use Rattle.book.specs.declared.reading.Found.{Found}
use Rattle.blentovar.specs.declared.SizesAnswer.{SizesAnswer}
use Rattle.blentovar.specs.declared.DecodeAnswer.{DecodeAnswer}
use Rattle.blentovar.specs.declared.KeptAnswer.{KeptAnswer}
use Rattle.blentovar.specs.declared.DecodeKeptAnswer.{DecodeKeptAnswer}
use Rattle.blentovar.specs.declared.ReadAnswer.{ReadAnswer}
use Rattle.blentovar.specs.declared.LookAnswer.{LookAnswer}
use Rattle.blentovar.specs.declared.PartAnswer.{PartAnswer}
use Rattle.blentovar.specs.Layout.{sizes_answer, kept_answer}
use Rattle.blentovar.specs.Answers.{LaidOut}
use Rattle.demands.specs.Words.{NeverStruck, PassesAgain}
use Rattle.demands.proofs.Near.{decode_received}
use Rattle.demands.proofs.KeptOutcome.{rows_same}

-- the number that is laid out is that of an outcome
never : {A R : Type 0} {layout : A → R} {P : A → Type 0} {r : R} (number : R → ℕ) (outcome : A → Outcome)
    → ((x : A) → number (layout x) ≡ outcome_number (outcome x)) → LaidOut layout P r → number r ≢ struck
never number outcome same p e = outcome_never_struck (outcome p.answer) (sym (same p.answer) ∙ sym (ap number p.is) ∙ e)

pub never_answered : NeverStruck
never_answered =
    record {
      sizes = λ p. sized p;
      describe = λ p. sized p;
      encode = λ p. told p;
      decode = λ p. never (λ (r : DecodeAnswer). r.number) (λ (x : Result ℕ Refusal). outcome_of x) (λ x. refl) p;
      edit = λ p. told p;
      opening = λ p. kept p;
      splice = λ stored p. kept p;
      decode_kept = λ stored p. never (λ (r : DecodeKeptAnswer). r.number) (λ (x : Result ℕ Refusal). outcome_of x) (λ x. refl) p;
      make_frame = λ p. never (λ (r : ℕ). r) (λ (x : Outcome). x) (λ x. refl) p;
      read_frame = λ frame p. never (λ (r : ReadAnswer). r.number) (λ (x : Result ReadFrame Refusal). outcome_of x) (λ x. refl) p;
      look_at_book = λ book p. never (λ (r : LookAnswer). r.number) (λ (x : Result ℕ Refusal). outcome_of x) (λ x. refl) p;
      read_book = λ book i p. never (λ (r : PartAnswer). r.number) (λ (x : Result Found Refusal). outcome_of x) (λ x. refl) p;
      write_book = λ p. never (λ (r : ℕ). r) (λ (x : Outcome). x) (λ x. refl) p;
    }
  where
    told : {P : Outcome → Type 0} {r : Told} → LaidOut outcome_told P r → r.number ≢ struck
    told p = never (λ (r : Told). r.number) (λ (x : Outcome). x) (λ x. refl) p

    sized : {P : Result Described Refusal → Type 0} {r : SizesAnswer} → LaidOut sizes_answer P r → r.number ≢ struck
    sized p = never (λ (r : SizesAnswer). r.number) (λ (x : Result Described Refusal). outcome_of x) (λ x. refl) p

    kept : {otherwise : Kept} {P : Result Kept Refusal → Type 0} {r : KeptAnswer} → LaidOut (kept_answer otherwise) P r → r.number ≢ struck
    kept p = never (λ (r : KeptAnswer). r.number) (λ (x : Result Kept Refusal). outcome_of x) (λ x. refl) p

-- Open takes a code word, and keeps zeros as its sums
word_opens : {m t : ℕ} {word : List ℕ} (y : Result Kept Refusal) → Known (code_of m t) → CodeWord m t word → Opens m t word y
    → (outcome_of y ≡ Ok tt) × ((result_unwrap_or y zero_kept).sums ≡ replicate 255 0)
word_opens {m} {t} {word} y K C o =
    let z : code_verdict m t (open_checks word) ≡ Ok tt =
    code_passes K (open_checks word (code_of m t)) (equal C.long, (not_bad C.bits, tt)) in
    let opened = o.promise.done z in
    let S = opened.did.sums_are in (
      opened.is_done,
      rows_same t (result_unwrap_or y zero_kept).sums (replicate 255 0) (sym S.long ∙ sym (length-replicate {A = ℕ} 255 0))
          (λ i h. S.holds i h ∙ C.sums (2 * i + 1) (omega arith) (omega arith) ∙ sym (zeros_at 255 i)) (λ i h. S.rest i h ∙ sym (zeros_at 255 i)),
    )

-- what Decode gives is a code word
pub mended_again : {m t : ℕ} {received lentWord lentList word list : List ℕ} (x : Result ℕ Refusal) → Decodes m t received lentWord lentList x word list
    → outcome_of x ≡ Ok tt → PassesAgain m t word
mended_again {m} {t} {received} {lentWord} {lentList} x p e =
    let K = (past m t (decode_checks received lentWord lentList (code_of m t)) (done_passed p.promise e)).known in
    let C = (decode_received x p e).code_word in
    record { sums = C.sums; opens = λ y o. word_opens y K C o }
