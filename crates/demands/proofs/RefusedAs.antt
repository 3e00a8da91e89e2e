-- Under its C name a refused call answers zeros, or the record that Splice got, and leaves every buffer as lent.
use mathlib.Core.Path.{◌≡◌, ◌∙◌, refl, ap}
use mathlib.Core.Logic.{◌≢◌}
use Prim.Native.Nat.{ℕ, ◌-◌}
use Rattle.std.specs.Prelude.{Result, Ok}
use Rattle.sheet.specs.declared.Refusal.{Refusal}
use Rattle.sheet.specs.declared.Told.{Told}
use Rattle.sheet.specs.Number.{Outcome, outcome_of, outcome_told, outcome_number}
use Rattle.codec.specs.declared.describing.Described.{Described}
use Rattle.kept.specs.declared.Kept.{Kept}
use Rattle.frame.specs.declared.reading.ReadFrame.{ReadFrame}
use Rattle.frame.specs.Read.{Given, given_by, zeros}
use Rattle.book.specs.declared.reading.Found.{Found}
use Rattle.book.specs.Read.{Span, span_of, empty_span}
use Rattle.blentovar.specs.declared.SizesAnswer.{SizesAnswer}
use Rattle.blentovar.specs.declared.DecodeAnswer.{DecodeAnswer}
use Rattle.blentovar.specs.declared.KeptAnswer.{KeptAnswer}
use Rattle.blentovar.specs.declared.DecodeKeptAnswer.{DecodeKeptAnswer}
use Rattle.blentovar.specs.declared.ReadAnswer.{ReadAnswer}
use Rattle.blentovar.specs.declared.LookAnswer.{LookAnswer}
use Rattle.blentovar.specs.declared.PartAnswer.{PartAnswer}
use Rattle.blentovar.specs.Layout.{sizes_answer, laid_out, kept_answer, read_answer, part_answer}
use Rattle.blentovar.specs.Answers.{LaidOut}
use Rattle.demands.specs.Words.{RefusedStays, RefusedAs}

-- where the number that is laid out is not 0, the outcome is a refusal
refused : {A R : Type 0} {layout : A → R} {P : A → Type 0} {r : R} (number : R → ℕ) (outcome : A → Outcome)
    → ((x : A) → number (layout x) ≡ outcome_number (outcome x)) → (p : LaidOut layout P r) → number r ≢ 0 → outcome p.answer ≢ Ok tt
refused number outcome same p n e = n (ap number p.is ∙ same p.answer ∙ ap outcome_number e)

pub refused_as : RefusedStays → RefusedAs
refused_as stays =
    record {
      sizes = λ p n. let z = stays.sizes p.answer p.promised (sized p n) in (of_n p ∙ z.0, of_k p ∙ z.1);
      describe = λ p n. let z = stays.describe p.answer p.promised (sized p n) in (of_n p ∙ z.0, of_k p ∙ z.1, z.2);
      encode = λ p n. stays.encode p.promised (told p n);
      decode = λ p n.
          let wrong = λ (r : DecodeAnswer). r.wrong in
          let z = stays.decode p.answer p.promised (counted (λ (r : DecodeAnswer). r.number) (λ x. refl) p n) in
          (ap wrong p.is ∙ z.0, z.1, z.2);
      edit = λ p n. stays.edit p.promised (told p n);
      opening = λ p n. of_record p ∙ ap laid_out (stays.opening p.answer p.promised (kept p n));
      splice = λ stored p n. of_record p ∙ ap laid_out (stays.splice p.answer p.promised (kept p n));
      decode_kept = λ stored p n.
          let wrong = λ (r : DecodeKeptAnswer). r.wrong in
          let z = stays.decode_kept p.answer p.promised (counted (λ (r : DecodeKeptAnswer). r.number) (λ x. refl) p n) in
          (ap wrong p.is ∙ z.0, z.1, z.2);
      make_frame = λ p n. stays.make_frame p.promised (numbered p n);
      read_frame = λ frame p n. readings p (stays.read_frame frame p.answer p.promised (given p n));
      look_at_book = λ book p n.
          let count = λ (r : LookAnswer). r.count in
          ap count p.is ∙ stays.look_at_book book p.answer p.promised (counted (λ (r : LookAnswer). r.number) (λ x. refl) p n);
      read_book = λ book i p n. ends p (stays.read_book book i p.answer p.promised (found p n));
      write_book = λ p n. stays.write_book p.promised (numbered p n);
    }
  where
    told : {P : Outcome → Type 0} {r : Told} → (p : LaidOut outcome_told P r) → r.number ≢ 0 → p.answer ≢ Ok tt
    told p = refused (λ (r : Told). r.number) (λ (x : Outcome). x) (λ x. refl) p

    numbered : {P : Outcome → Type 0} {r : ℕ} → (p : LaidOut outcome_number P r) → r ≢ 0 → p.answer ≢ Ok tt
    numbered p = refused (λ (r : ℕ). r) (λ (x : Outcome). x) (λ x. refl) p

    -- the outcome of an answer that is a number
    counted : {R : Type 0} {layout : Result ℕ Refusal → R} {P : Result ℕ Refusal → Type 0} {r : R} (number : R → ℕ)
        → ((x : Result ℕ Refusal) → number (layout x) ≡ outcome_number (outcome_of x)) → (p : LaidOut layout P r) → number r ≢ 0
        → outcome_of p.answer ≢ Ok tt
    counted number same p = refused number (λ (x : Result ℕ Refusal). outcome_of x) same p

    sized : {P : Result Described Refusal → Type 0} {r : SizesAnswer} → (p : LaidOut sizes_answer P r) → r.number ≢ 0 → outcome_of p.answer ≢ Ok tt
    sized p = refused (λ (r : SizesAnswer). r.number) (λ (x : Result Described Refusal). outcome_of x) (λ x. refl) p

    of_n : {P : Result Described Refusal → Type 0} {r : SizesAnswer} → (p : LaidOut sizes_answer P r) → r.n ≡ (sizes_answer p.answer).n
    of_n p = ap (λ (r : SizesAnswer). r.n) p.is

    of_k : {P : Result Described Refusal → Type 0} {r : SizesAnswer} → (p : LaidOut sizes_answer P r) → r.k ≡ (sizes_answer p.answer).k
    of_k p = ap (λ (r : SizesAnswer). r.k) p.is

    kept : {otherwise : Kept} {P : Result Kept Refusal → Type 0} {r : KeptAnswer} → (p : LaidOut (kept_answer otherwise) P r) → r.number ≢ 0
        → outcome_of p.answer ≢ Ok tt
    kept p = refused (λ (r : KeptAnswer). r.number) (λ (x : Result Kept Refusal). outcome_of x) (λ x. refl) p

    of_record : {otherwise : Kept} {P : Result Kept Refusal → Type 0} {r : KeptAnswer} → (p : LaidOut (kept_answer otherwise) P r)
        → r.record ≡ (kept_answer otherwise p.answer).record
    of_record p = ap (λ (r : KeptAnswer). r.record) p.is

    given : {P : Result ReadFrame Refusal → Type 0} {r : ReadAnswer} → (p : LaidOut read_answer P r) → r.number ≢ 0 → outcome_of p.answer ≢ Ok tt
    given p = refused (λ (r : ReadAnswer). r.number) (λ (x : Result ReadFrame Refusal). outcome_of x) (λ x. refl) p

    readings : {P : Result ReadFrame Refusal → Type 0} {r : ReadAnswer} → (p : LaidOut read_answer P r) → given_by p.answer ≡ zeros
        → (r.house ≡ 0) × (r.poll ≡ 0) × (r.counter ≡ 0) × (r.wrong ≡ 0)
    readings p z = (
      ap (λ (r : ReadAnswer). r.house) p.is ∙ ap (λ (g : Given). g.reading.house) z,
      ap (λ (r : ReadAnswer). r.poll) p.is ∙ ap (λ (g : Given). g.reading.poll) z,
      ap (λ (r : ReadAnswer). r.counter) p.is ∙ ap (λ (g : Given). g.reading.counter) z,
      ap (λ (r : ReadAnswer). r.wrong) p.is ∙ ap (λ (g : Given). g.wrong) z,
    )

    found : {P : Result Found Refusal → Type 0} {r : PartAnswer} → (p : LaidOut part_answer P r) → r.number ≢ 0 → outcome_of p.answer ≢ Ok tt
    found p = refused (λ (r : PartAnswer). r.number) (λ (x : Result Found Refusal). outcome_of x) (λ x. refl) p

    ends : {P : Result Found Refusal → Type 0} {r : PartAnswer} → (p : LaidOut part_answer P r) → span_of p.answer ≡ empty_span
        → (r.offset ≡ 0) × (r.length ≡ 0)
    ends p z = (
      ap (λ (r : PartAnswer). r.offset) p.is ∙ ap (λ (s : Span). s.from) z,
      ap (λ (r : PartAnswer). r.length) p.is ∙ ap (λ (s : Span). s.to - s.from) z,
    )
