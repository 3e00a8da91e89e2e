-- Under its C name an operation leaves one outcome too: what comes back is the same, the fields that hold 0 included, and so are the buffers.
use mathlib.Core.Path.{◌≡◌, ◌∙◌, sym, ap}
use mathlib.Core.List.{List}
use Prim.Native.Nat.{ℕ}
use Rattle.sheet.specs.declared.Told.{Told}
use Rattle.blentovar.specs.declared.SizesAnswer.{SizesAnswer}
use Rattle.blentovar.specs.declared.DecodeAnswer.{DecodeAnswer}
use Rattle.blentovar.specs.declared.Record.{Record}
use Rattle.blentovar.specs.declared.KeptAnswer.{KeptAnswer}
use Rattle.blentovar.specs.declared.DecodeKeptAnswer.{DecodeKeptAnswer}
use Rattle.blentovar.specs.declared.ReadAnswer.{ReadAnswer}
use Rattle.blentovar.specs.declared.LookAnswer.{LookAnswer}
use Rattle.blentovar.specs.declared.PartAnswer.{PartAnswer}
use Rattle.blentovar.specs.Answers.{LaidOut, SizesAs, DescribesAs, EncodesAs, DecodesAs, EditsAs, OpensAs, SplicesAs, DecodesKeptAs, MakesAs, ReadsAs}
use Rattle.blentovar.specs.Answers.{LooksAs, ReadsBookAs, WritesBookAs}
use Rattle.demands.proofs.OneOutcome.{sizes_one, describe_one, encode_one}
use Rattle.demands.proofs.Near.{decode_one}
use Rattle.demands.proofs.EditOutcome.{edit_one}
use Rattle.demands.proofs.KeptOutcome.{open_one, splice_one, decode_kept_one}
use Rattle.demands.proofs.FrameOutcome.{make_one, read_one}
use Rattle.demands.proofs.BookOutcome.{look_one, find_one, write_book_one}

-- equal answers are laid out alike
alike : {A R : Type 0} {layout : A → R} {P Q : A → Type 0} {r s : R} (p : LaidOut layout P r) (q : LaidOut layout Q s) → p.answer ≡ q.answer → r ≡ s
alike {layout = layout} p q e = p.is ∙ ap layout e ∙ sym q.is

pub sizes_card_one : {m t : ℕ} {r s : SizesAnswer} → SizesAs m t r → SizesAs m t s → r ≡ s
sizes_card_one p q = alike p q (sizes_one p.answer q.answer p.promised q.promised)

pub describe_card_one : {m t : ℕ} {lent left left' : List ℕ} {r s : SizesAnswer} → DescribesAs m t lent r left → DescribesAs m t lent s left'
    → (r ≡ s) × (left ≡ left')
describe_card_one p q = let (e, l) = describe_one p.answer q.answer p.promised q.promised in (alike p q e, l)

pub encode_card_one : {m t : ℕ} {message lent left left' : List ℕ} {r s : Told} → EncodesAs m t message lent r left → EncodesAs m t message lent s left'
    → (r ≡ s) × (left ≡ left')
encode_card_one p q = let (e, l) = encode_one p.promised q.promised in (alike p q e, l)

pub edit_card_one : {m t start : ℕ} {lent stretch left left' : List ℕ} {r s : Told} → EditsAs m t lent start stretch r left
    → EditsAs m t lent start stretch s left' → (r ≡ s) × (left ≡ left')
edit_card_one p q = let (e, l) = edit_one p.promised q.promised in (alike p q e, l)

pub make_card_one : {house poll counter r s : ℕ} {lent left left' : List ℕ} → MakesAs house poll counter lent r left → MakesAs house poll counter lent s left'
    → (r ≡ s) × (left ≡ left')
make_card_one p q = let (e, l) = make_one p.promised q.promised in (alike p q e, l)

pub decode_card_one : {m t : ℕ} {received lentWord lentList word list word' list' : List ℕ} {r s : DecodeAnswer}
    → DecodesAs m t received lentWord lentList r word list → DecodesAs m t received lentWord lentList s word' list'
    → (r ≡ s) × (word ≡ word') × (list ≡ list')
decode_card_one p q = let (e, w, l) = decode_one p.answer q.answer p.promised q.promised in (alike p q e, w, l)

pub decode_kept_card_one : (stored : Record) {lentWord lentList word list word' list' : List ℕ} {r s : DecodeKeptAnswer}
    → DecodesKeptAs stored lentWord lentList r word list → DecodesKeptAs stored lentWord lentList s word' list'
    → (r ≡ s) × (word ≡ word') × (list ≡ list')
decode_kept_card_one stored p q = let (e, w, l) = decode_kept_one p.answer q.answer p.promised q.promised in (alike p q e, w, l)

pub open_card_one : {m t : ℕ} {word : List ℕ} {r s : KeptAnswer} → OpensAs m t word r → OpensAs m t word s → r ≡ s
open_card_one p q = alike p q (open_one p.answer q.answer p.promised q.promised)

pub splice_card_one : (stored : Record) {start : ℕ} {stretch : List ℕ} {r s : KeptAnswer} → SplicesAs stored start stretch r → SplicesAs stored start stretch s
    → r ≡ s
splice_card_one stored p q = alike p q (splice_one p.answer q.answer p.promised q.promised)

pub read_card_one : (frame : List ℕ) {r s : ReadAnswer} → ReadsAs frame r → ReadsAs frame s → r ≡ s
read_card_one frame p q = alike p q (read_one frame p.answer q.answer p.promised q.promised)

pub look_card_one : (book : List ℕ) {r s : LookAnswer} → LooksAs book r → LooksAs book s → r ≡ s
look_card_one book p q = alike p q (look_one book p.answer q.answer p.promised q.promised)

pub read_book_card_one : (book : List ℕ) (i : ℕ) {r s : PartAnswer} → ReadsBookAs book i r → ReadsBookAs book i s → r ≡ s
read_book_card_one book i p q = alike p q (find_one book i p.answer q.answer p.promised q.promised)

pub write_book_card_one : {frames lent left left' : List ℕ} {r s : ℕ} → WritesBookAs frames lent r left → WritesBookAs frames lent s left'
    → (r ≡ s) × (left ≡ left')
write_book_card_one p q = let (e, l) = write_book_one p.promised q.promised in (alike p q e, l)
