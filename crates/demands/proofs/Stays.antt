-- A refusal leaves everything: zeros beside the outcome, every buffer as lent.
use mathlib.Core.Path.{◌≡◌, ap}
use mathlib.Core.List.{List}
use mathlib.Core.Logic.{◌≢◌}
use Prim.Native.Nat.{ℕ}
use Rattle.std.specs.Result.{result_unwrap_or}
use Rattle.std.specs.Prelude.{Result, Ok}
use Rattle.sheet.specs.declared.Refusal.{Refusal}
use Rattle.sheet.specs.Number.{outcome_of}
use Rattle.sheet.proofs.VerdictLaws.{refused_stays, always_stays, search_stays}
use Rattle.codec.specs.declared.describing.Described.{Described}
use Rattle.codec.specs.Sizes.{GivesSizes, SizesGiven, sizes_given}
use Rattle.codec.specs.Describe.{Describes, Description}
use Rattle.decode.specs.Decode.{Decodes, Mended, as_lent, left_by}
use Rattle.kept.specs.declared.Kept.{Kept}
use Rattle.decode_kept.specs.DecodeKept.{DecodesKept}
use Rattle.layout.specs.Frame.{word_of}
use Rattle.frame.specs.declared.reading.ReadFrame.{ReadFrame}
use Rattle.frame.specs.Read.{Reads, ReadsReceived, near, far, given_by, zeros}

pub sizes_stays : {m t : ℕ} (x : Result Described Refusal) → GivesSizes m t x → outcome_of x ≢ Ok tt → ((sizes_given x).n ≡ 0) × ((sizes_given x).k ≡ 0)
sizes_stays x p n =
    let e = refused_stays (λ a z. always_stays a z) p.promise n in
    (ap (λ (g : SizesGiven). g.n) e, ap (λ (g : SizesGiven). g.k) e)

pub describe_stays : {m t : ℕ} {lent left : List ℕ} (x : Result Described Refusal) → Describes m t lent x left → outcome_of x ≢ Ok tt
    → ((sizes_given x).n ≡ 0) × ((sizes_given x).k ≡ 0) × (left ≡ lent)
describe_stays x p n =
    let e = refused_stays (λ a z. always_stays a z) p.promise n in
    (ap (λ (d : Description). d.n) e, ap (λ (d : Description). d.k) e, ap (λ (d : Description). d.generator) e)

left_as_lent : (x : Result ℕ Refusal) {word list lentWord lentList : List ℕ} → left_by x word list ≡ as_lent lentWord lentList
    → (result_unwrap_or x 0 ≡ 0) × (word ≡ lentWord) × (list ≡ lentList)
left_as_lent x e = (ap (λ (d : Mended). d.wrong) e, ap (λ (d : Mended). d.word) e, ap (λ (d : Mended). d.list) e)

pub decode_stays : {m t : ℕ} {received lentWord lentList word list : List ℕ} (x : Result ℕ Refusal) → Decodes m t received lentWord lentList x word list
    → outcome_of x ≢ Ok tt → (result_unwrap_or x 0 ≡ 0) × (word ≡ lentWord) × (list ≡ lentList)
decode_stays x p n = left_as_lent x (refused_stays (λ s z. search_stays s z) p.promise n)

pub decode_kept_stays : {stored : Kept} {lentWord lentList word list : List ℕ} (x : Result ℕ Refusal) → DecodesKept stored lentWord lentList x word list
    → outcome_of x ≢ Ok tt → (result_unwrap_or x 0 ≡ 0) × (word ≡ lentWord) × (list ≡ lentList)
decode_kept_stays x p n = left_as_lent x (refused_stays (λ s z. search_stays s z) p.promise n)

pub read_stays : (frame : List ℕ) (x : Result ReadFrame Refusal) → Reads frame x → outcome_of x ≢ Ok tt → given_by x ≡ zeros
read_stays frame x p n = refused_stays (λ r z. received r z) p n
  where
    received : ReadsReceived (word_of frame) (outcome_of x) (given_by x) → outcome_of x ≢ Ok tt → given_by x ≡ zeros
    received (near word C d w) z = refused_stays (λ a e. always_stays a e) w z
    received (far a f s) z = s
