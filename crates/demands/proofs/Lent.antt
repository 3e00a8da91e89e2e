-- What an output buffer held before is never looked at: with other contents of the same length an operation answers the same and leaves the same.
use mathlib.Core.Path.{◌≡◌, ◌∙◌, refl, sym, ap, ap₂, subst}
use mathlib.Core.List.{List}
use mathlib.Core.Logic.{◌≢◌}
use Prim.Native.Nat.{ℕ}
use lib.ListN.{length}
use Rattle.std.specs.Result.{result_unwrap_or}
use Rattle.std.specs.Prelude.{Result, Ok}
use Rattle.sheet.specs.declared.Refusal.{Refusal}
use Rattle.sheet.specs.Number.{Outcome, outcome_of}
use Rattle.sheet.specs.Verdict.{Check, verdict, Promise, Always, Searches, finds, finds_nothing}
use Rattle.sheet.proofs.VerdictLaws.{Verdict, passed, refused, verdict-cases, not_done, refuses_as, does}
use Rattle.codes.specs.Look.{code_of, code_checks, CodePromise}
use Rattle.codec.specs.declared.describing.Described.{Described}
use Rattle.codec.specs.Sizes.{sizes_given}
use Rattle.codec.specs.Describe.{Describes, Description, DescriptionOf, description, describe_checks}
use Rattle.codec.specs.Encode.{Encodes}
use Rattle.decode.specs.Decode.{Decodes, Mended, as_lent, left_by}
use Rattle.kept.specs.declared.Kept.{Kept}
use Rattle.decode_kept.specs.DecodeKept.{DecodesKept}
use Rattle.layout.specs.declared.message.Reading.{Reading}
use Rattle.frame.specs.Make.{Makes}
use Rattle.book.specs.Write.{WritesBook}
use Rattle.demands.proofs.OneOutcome.{describe_one, encode_one}
use Rattle.demands.proofs.Near.{decode_one}
use Rattle.demands.proofs.KeptOutcome.{decode_kept_one}
use Rattle.demands.proofs.FrameOutcome.{make_one}
use Rattle.demands.proofs.BookOutcome.{write_book_one}

-- a promise over other lent contents: the same is left where the answer is done, and the other contents where it is not
data Moved {L : Type 0} (Promised : L → Type 0) (stays other : L) (answer : Outcome) (left : L) : Type 0 where
  done : answer ≡ Ok tt → Promised left → Moved Promised stays other answer left
  stayed : answer ≢ Ok tt → left ≡ stays → Promised other → Moved Promised stays other answer left

module _ {L : Type 0} {stays other : L} {answer : Outcome} {left : L} where
  always_moved : {Did : L → Type 0} → Always Did answer left → Moved (Always Did answer) stays other answer left
  always_moved a = done a.is_done a

  search_moved : {Found : L → Type 0} {Nothing : Type 0} → Searches Found Nothing stays answer left
      → Moved (Searches Found Nothing other answer) stays other answer left
  search_moved (finds a f) = done a (finds a f)
  search_moved (finds_nothing a f s) = stayed (λ e. not_done (sym a ∙ e)) s (finds_nothing a f refl)

  moved : {checks checks' : List Check} {Does Does' : Outcome → L → Type 0} → verdict checks ≡ verdict checks'
      → (Does answer left → Moved (Does' answer) stays other answer left) → Promise checks Does stays answer left
      → Moved (Promise checks' Does' other answer) stays other answer left
  moved {checks} {checks'} {Does} {Does'} same d p = pick (verdict-cases (verdict checks))
    where
      wrap : verdict checks' ≡ Ok tt → Moved (Does' answer) stays other answer left → Moved (Promise checks' Does' other answer) stays other answer left
      wrap z (done e q) = done e (does z q)
      wrap z (stayed n s q) = stayed n s (does z q)

      pick : Verdict (verdict checks) → Moved (Promise checks' Does' other answer) stays other answer left
      pick (passed z) = wrap (sym same ∙ z) (d (p.done z))
      pick (refused r z) =
          let (a, s) = p.refused r z in
          stayed (λ e. not_done (sym a ∙ e)) s (refuses_as (sym same ∙ z) a refl)

-- an operation with one lent buffer and nothing beside its outcome
one_buffer : {Promised : List ℕ → Type 0} {lent lent' left left' : List ℕ} {x y : Outcome} → ((l : List ℕ) → Promised l → (x ≡ y) × (l ≡ left'))
    → Moved Promised lent lent' x left → (x ≡ y) × (x ≡ Ok tt → left ≡ left')
one_buffer one (done e p) = let (a, l) = one _ p in (a, λ z. l)
one_buffer one (stayed n s p) = ((one _ p).0, λ z. absurd (n z))

pub encode_lent : {m t : ℕ} {message lent lent' left left' : List ℕ} {x y : Outcome} → length lent ≡ length lent'
    → Encodes m t message lent x left → Encodes m t message lent' y left' → (x ≡ y) × (x ≡ Ok tt → left ≡ left')
encode_lent same p q = one_buffer (λ l a. encode_one (record { promise = a }) q) (moved (rw same refl) always_moved p.promise)

pub make_lent : {reading : Reading} {lent lent' left left' : List ℕ} {x y : Outcome} → length lent ≡ length lent'
    → Makes reading lent x left → Makes reading lent' y left' → (x ≡ y) × (x ≡ Ok tt → left ≡ left')
make_lent same p q = one_buffer (λ l a. make_one a q) (moved (rw same refl) always_moved p)

pub write_book_lent : {frames lent lent' left left' : List ℕ} {x y : Outcome} → length lent ≡ length lent'
    → WritesBook frames lent x left → WritesBook frames lent' y left' → (x ≡ y) × (x ≡ Ok tt → left ≡ left')
write_book_lent same p q = one_buffer (λ l a. write_book_one a q) (moved (rw same refl) always_moved p)

pub describe_lent : {m t : ℕ} {lent lent' left left' : List ℕ} (x y : Result Described Refusal) → length lent ≡ length lent'
    → Describes m t lent x left → Describes m t lent' y left' → (x ≡ y) × (outcome_of x ≡ Ok tt → left ≡ left')
describe_lent {m} {t} {lent} {lent'} {left} {left'} x y same p q = tells (moved (rw same refl) always_moved p.promise)
  where
    given : List ℕ → Description
    given generator = description (sizes_given x) generator

    none : List ℕ → Description
    none generator = record { n = 0; k = 0; generator = generator }

    Promised : Description → Type 0
    Promised d = CodePromise m t (describe_checks lent') (λ c. Always (DescriptionOf c)) (none lent') (outcome_of x) d

    tells : Moved (λ d. Promise (code_checks m t (describe_checks lent' (code_of m t))) (Always (DescriptionOf (code_of m t))) (none lent') (outcome_of x) d)
        (none lent) (none lent') (outcome_of x) (given left) → (x ≡ y) × (outcome_of x ≡ Ok tt → left ≡ left')
    tells (done e a) = let (o, l) = describe_one x y (record { promise = a }) q in (o, λ z. l)
    tells (stayed n s a) =
        let zeros : none lent' ≡ given lent' =
        ap₂ (λ (i j : ℕ). record { n = i; k = j; generator = lent' }) (sym (ap (λ (d : Description). d.n) s)) (sym (ap (λ (d : Description). d.k) s)) in
        let r : Describes m t lent' x lent' = subst Promised zeros (record { promise = a }) in
        ((describe_one x y r q).0, λ z. absurd (n z))

-- Decode and Decode kept, whose promises are over the same buffers
module _ {lentWord lentList lentWord' lentList' word list word' list' : List ℕ} (x y : Result ℕ Refusal) {Promised : Mended → Type 0}
    (one : (w l : List ℕ) → Promised (left_by x w l) → (x ≡ y) × (w ≡ word') × (l ≡ list')) where
  two_buffers : Moved Promised (as_lent lentWord lentList) (as_lent lentWord' lentList') (outcome_of x) (left_by x word list)
      → (x ≡ y) × (outcome_of x ≡ Ok tt → (word ≡ word') × (list ≡ list'))
  two_buffers (done e p) = let (o, w, l) = one word list p in (o, λ z. (w, l))
  two_buffers (stayed n s p) =
      let zero-wrong : 0 ≡ result_unwrap_or x 0 = sym (ap (λ (d : Mended). d.wrong) s) in
      let r = subst Promised (ap (λ (i : ℕ). record { wrong = i; word = lentWord'; list = lentList' }) zero-wrong) p in
      ((one lentWord' lentList' r).0, λ z. absurd (n z))

pub decode_lent : {m t : ℕ} {received lentWord lentList lentWord' lentList' word list word' list' : List ℕ} (x y : Result ℕ Refusal)
    → length lentWord ≡ length lentWord' → length lentList ≡ length lentList'
    → Decodes m t received lentWord lentList x word list → Decodes m t received lentWord' lentList' y word' list'
    → (x ≡ y) × (outcome_of x ≡ Ok tt → (word ≡ word') × (list ≡ list'))
decode_lent x y same same_list_lem p q =
    two_buffers x y (λ w l a. decode_one x y (record { promise = a }) q) (moved (rw (same, same_list_lem) refl) search_moved p.promise)

pub decode_kept_lent : {stored : Kept} {lentWord lentList lentWord' lentList' word list word' list' : List ℕ} (x y : Result ℕ Refusal)
    → length lentWord ≡ length lentWord' → length lentList ≡ length lentList'
    → DecodesKept stored lentWord lentList x word list → DecodesKept stored lentWord' lentList' y word' list'
    → (x ≡ y) × (outcome_of x ≡ Ok tt → (word ≡ word') × (list ≡ list'))
decode_kept_lent x y same same_list_lem p q =
    two_buffers x y (λ w l a. decode_kept_one x y (record { promise = a }) q) (moved (rw (same, same_list_lem) refl) search_moved p.promise)
