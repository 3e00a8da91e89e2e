-- Every promise leaves one outcome: two outcomes that it allows for the same input are the same answer and the same buffers. Here Sizes, Describe and Encode.
use mathlib.Core.Path.{◌≡◌, ◌∙◌, refl, sym, ap, ap₂, subst}
use mathlib.Core.List.{List}
use Prim.Native.Nat.{ℕ, ◌+◌, ◌-◌, ◌≤◌, ◌<◌}
use native.Mathlib.Decide.{dec_lt}
use native.Mathlib.Omega.{arith}
use lib.ListN.{get_or, get_or-eq_default}
use Rattle.std.specs.Prelude.{Result, Ok, Err}
use Rattle.sheet.specs.declared.Refusal.{Refusal}
use Rattle.sheet.specs.Number.{Outcome, outcome_of}
use Rattle.sheet.proofs.VerdictLaws.{always_one, done_passed, not_done, same_refusal}
use Rattle.field.specs.Power.{n_of}
use Rattle.codes.specs.Rows.{ListedCode}
use Rattle.codes.specs.declared.Code.{Code}
use Rattle.codes.specs.Look.{k_of, code_of}
use Rattle.codes.specs.Work.{Known}
use Rattle.codes.proofs.LookLaws.{known_listed}
use Rattle.codes.proofs.CheckLaws.{past, code_one}
use Rattle.codes.proofs.Rows.{row_facts}
use Rattle.codes.proofs.Unique.{Roots, one_code_word, roots_of_row}
use Rattle.generator.proofs.GeneratorLaws.{one_generator}
use Rattle.codec.specs.declared.describing.Described.{Described}
use Rattle.codec.specs.Sizes.{GivesSizes, SizesGiven, SizesOf, sizes_given}
use Rattle.codec.specs.Describe.{Describes, Description, DescriptionOf}
use Rattle.codes.specs.Encoding.{Encoding}
use Rattle.codec.specs.Encode.{Encodes, encode_checks}

-- the roots that a listed code's generator has
pub roots : {m k t : ℕ} → ListedCode m k t → (rs : List ℕ) × Roots m t (n_of m - k) rs
roots c = rw (← c.is_k, ← c.is_t) (roots_of_row c.of_m)

description_one : {c : Code} {x y : Description} → Known c → DescriptionOf c x → DescriptionOf c y → x ≡ y
description_one {c} {x} {y} K p q =
    let L = known_listed K in
    let (rs, R) = roots L in
    let d = subst (λ (n : ℕ). Roots c.m c.t (n - c.k) rs) (sym K.is_n) R in
    let g = one_generator L.of_m.listed d x.generator y.generator p.is_generator q.is_generator in
    ap₂ (λ (n k : ℕ). of n k x.generator) (p.is_n ∙ sym q.is_n) (p.is_k ∙ sym q.is_k) ∙ ap (of y.n y.k) g
  where
    of : ℕ → ℕ → List ℕ → Description
    of n k generator = record { n = n; k = k; generator = generator }

-- two answers with the same outcome are the same if their values are, where they have one
pub same_answer : {A : Type 0} (x y : Result A Refusal) → outcome_of x ≡ outcome_of y → ((a b : A) → x ≡ Ok a → y ≡ Ok b → a ≡ b) → x ≡ y
same_answer (Ok a) (Ok b) o v = ap Ok (v a b refl refl)
same_answer (Ok a) (Err s) o v = absurd (not_done (sym o))
same_answer (Err r) (Ok b) o v = absurd (not_done o)
same_answer (Err r) (Err s) o v = ap Err (same_refusal o)

-- a refused answer is its refusal
pub refused_is : {A : Type 0} (x : Result A Refusal) {r : Refusal} → outcome_of x ≡ Err r → x ≡ Err r
refused_is (Ok a) e = absurd (not_done (sym e))
refused_is (Err s) e = ap Err (same_refusal e)

pub answered_one : (x y : Result Described Refusal) → outcome_of x ≡ outcome_of y → (sizes_given x).n ≡ (sizes_given y).n
    → (sizes_given x).k ≡ (sizes_given y).k → x ≡ y
answered_one x y o n k = same_answer x y o same
  where
    n_of_answer : Result Described Refusal → ℕ
    n_of_answer z = (sizes_given z).n

    k_of_answer : Result Described Refusal → ℕ
    k_of_answer z = (sizes_given z).k

    same : (a b : Described) → x ≡ Ok a → y ≡ Ok b → a ≡ b
    same a b e f =
        ap₂ (λ (i j : ℕ). record { n = i; k = j }) (sym (ap n_of_answer e) ∙ n ∙ ap n_of_answer f) (sym (ap k_of_answer e) ∙ k ∙ ap k_of_answer f)

given_one : {c : Code} {x y : SizesGiven} → SizesOf c x → SizesOf c y → x ≡ y
given_one p q = ap₂ of (p.is_n ∙ sym q.is_n) (p.is_k ∙ sym q.is_k)
  where
    of : ℕ → ℕ → SizesGiven
    of n k = record { n = n; k = k }

pub sizes_one : {m t : ℕ} (x y : Result Described Refusal) → GivesSizes m t x → GivesSizes m t y → x ≡ y
sizes_one x y p q =
    let (o, given) = code_one (λ c K z a b. always_one given_one a b) p q in
    answered_one x y o (ap (λ (g : SizesGiven). g.n) given) (ap (λ (g : SizesGiven). g.k) given)

pub describe_one : {m t : ℕ} {lent left left' : List ℕ} (x y : Result Described Refusal) → Describes m t lent x left → Describes m t lent y left'
    → (x ≡ y) × (left ≡ left')
describe_one x y p q =
    let (o, given) = code_one (λ c K z a b. always_one (description_one K) a b) p q in (
      answered_one x y o (ap (λ (d : Description). d.n) given) (ap (λ (d : Description). d.k) given),
      ap (λ (d : Description). d.generator) given,
    )

-- two encodings of one message agree at every place of the message
same_top : {m t k : ℕ} {message c d : List ℕ} → k ≤ n_of m → Encoding m t k message c → Encoding m t k message d
    → (i : ℕ) → n_of m - k ≤ i → get_or c i 0 ≡ get_or d i 0
same_top {m} {t} {k} {message} {c} {d} h a b i l = pick (dec_lt i (n_of m))
  where
    place : n_of m - k + (i - (n_of m - k)) ≡ i
    place = omega arith

    pick : Dec (i < n_of m) → get_or c i 0 ≡ get_or d i 0
    pick (yes s) =
        let u = a.carries (i - (n_of m - k)) (omega arith) ∙ sym (b.carries (i - (n_of m - k)) (omega arith)) in
        rw place at u
    pick (no n) =
        get_or-eq_default c 0 {n = i} (omega (arith, a.code_word.long)) ∙ sym (get_or-eq_default d 0 {n = i} (omega (arith, b.code_word.long)))

-- there is one code word for each message
pub encoding_one : {m t k : ℕ} {message c d : List ℕ} → ListedCode m k t → Encoding m t k message c → Encoding m t k message d → c ≡ d
encoding_one {m} {t} {k} {message} {c} {d} L a b =
    let f = row_facts L.of_m in
    one_code_word L.of_m.listed (roots L).1 c d a.code_word b.code_word (same_top (omega (arith, f.falling, f.within, L.is_k)) a b)

pub encode_one : {m t : ℕ} {message lent left left' : List ℕ} {x y : Outcome} → Encodes m t message lent x left → Encodes m t message lent y left'
    → (x ≡ y) × (left ≡ left')
encode_one p q = code_one (λ c K z a b. always_one (encoding_one (known_listed K)) a b) p q

-- an accepted Encode gives the one code word that carries the message
pub encode_sends : {m t : ℕ} {message lent left : List ℕ} {x : Outcome} → Encodes m t message lent x left → x ≡ Ok tt
    → Encoding m t (k_of m t) message left × ((c : List ℕ) → Encoding m t (k_of m t) message c → c ≡ left)
encode_sends {m} {t} {message} {lent} p e =
    let z = done_passed p.promise e in
    let E = (p.promise.done z).did in
    (E, λ c D. encoding_one (known_listed (past m t (encode_checks message lent (code_of m t)) z).known) D E)
