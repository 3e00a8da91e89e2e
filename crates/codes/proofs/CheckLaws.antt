-- The checks of an operation on a code: the first two, then its own; what they leave, and the one outcome of a promise over them.
use mathlib.Core.Path.{◌≡◌, ◌∙◌, refl, sym, ap, subst}
use mathlib.Core.Bool.{true, false, not}
use mathlib.Core.List.{List, []}
use Prim.Native.Nat.{ℕ, suc, ◌≤◌, ◌<◌}
use native.Mathlib.Decide.{dec_lt}
use native.Mathlib.Omega.{arith}
use borrow.Author.Tests.{le-leb, lt-leb, lt-ltb, le-ltb, ltb-true}
use Rattle.field.specs.Product.{IsField}
use Rattle.sheet.specs.declared.Refusal.{Refusal}
use Rattle.sheet.specs.declared.Refusal.TheVariants.{FieldSize, NotListed, BitAboveOne}
use Rattle.sheet.specs.Number.{Outcome}
use Rattle.std.specs.Prelude.{Result, Ok, Err}
use Rattle.sheet.specs.Verdict.{Check, verdict}
use Rattle.sheet.specs.Work.{AllPass}
use Rattle.sheet.proofs.VerdictLaws.{Verdict, passed, refused, verdict-cases, none_refuses, earlier_refuse, earlier_pass, not_done}
use Rattle.sheet.proofs.VerdictLaws.{does, refuses_as, promise_one}
use Rattle.codes.specs.declared.Code.{Code}
use Rattle.codes.specs.Table.{first}
use Rattle.codes.specs.Look.{row_of, is_field, is_listed, code_of, code_checks, code_verdict, CodePromise}
use Rattle.codes.specs.Work.{no_more, passing, Checked, Known}
use Rattle.codes.proofs.LookLaws.{found_known, known_listed, listed_test}

-- the first two checks: one of them refuses, or (m, t) is a listed code
pub data FirstTwo (m t : ℕ) : Type 0 where
  field_size : is_field m ≡ false → FirstTwo m t
  not_listed : is_field m ≡ true → is_listed m t ≡ false → FirstTwo m t
  both_pass : is_field m ≡ true → is_listed m t ≡ true → Known (code_of m t) → FirstTwo m t

-- m as the code tests it
pub m_small : {m : ℕ} → m < 3 → is_field m ≡ false
m_small {m} h = rw (lt-leb 3 m h)

pub m_large : {m : ℕ} → 3 ≤ m → 10 < m → is_field m ≡ false
m_large {m} h k = rw (le-leb 3 m h, lt-leb m 10 k)

pub m_within : {m : ℕ} → IsField m → is_field m ≡ true
m_within {m} L = rw (le-leb 3 m L.least, le-leb m 10 L.most)

pub within_m : (m : ℕ) → is_field m ≡ true → IsField m
within_m m e = pick (dec_lt m 3) (dec_lt 10 m)
  where
    clash : is_field m ≡ false → ⊥
    clash f = let z : ◌≡◌ {A = ℕ} 0 1 = cc in omega arith

    pick : Dec (m < 3) → Dec (10 < m) → IsField m
    pick (yes h) d = absurd (clash (m_small h))
    pick (no n) (yes h) = absurd (clash (m_large (omega arith) h))
    pick (no n) (no p) = record { least = omega arith; most = omega arith }

-- t as the code tests it: by the row that is found for it
pub t_listed : (m t : ℕ) → row_of m t < first (suc m) → is_listed m t ≡ true
unfolding is_listed
t_listed m t h = lt-ltb (row_of m t) (first (suc m)) h

pub t_unlisted : (m t : ℕ) → first (suc m) ≤ row_of m t → is_listed m t ≡ false
unfolding is_listed
t_unlisted m t h = le-ltb (row_of m t) (first (suc m)) h

pub listed_t : (m t : ℕ) → is_listed m t ≡ true → row_of m t < first (suc m)
unfolding is_listed
listed_t m t e = ltb-true (row_of m t) (first (suc m)) e

pub first_two : (m t : ℕ) → FirstTwo m t
first_two m t = tells (dec_lt m 3) (dec_lt 10 m)
  where
    listed : IsField m → Dec (row_of m t < first (suc m)) → FirstTwo m t
    listed L (yes h) = both_pass (m_within L) (t_listed m t h) (found_known L h)
    listed L (no n) = not_listed (m_within L) (t_unlisted m t (omega arith))

    tells : Dec (m < 3) → Dec (10 < m) → FirstTwo m t
    tells (yes h) d = field_size (m_small h)
    tells (no n) (yes h) = field_size (m_large (omega arith) h)
    tells (no n) (no p) = listed (record { least = omega arith; most = omega arith }) (dec_lt (row_of m t) (first (suc m)))

-- what looking up answers
pub look_field : {m t : ℕ} → is_field m ≡ false → Checked m t no_more (Err FieldSize)
look_field e = record { is = rw e }

pub look_unlisted : {m t : ℕ} → is_field m ≡ true → is_listed m t ≡ false → Checked m t no_more (Err NotListed)
look_unlisted e f = record { is = rw (e, f) }

pub look_listed : {m t : ℕ} → is_field m ≡ true → is_listed m t ≡ true → Checked m t no_more (Ok (code_of m t))
look_listed e f = record { is = rw (e, f) }

-- where all checks pass, (m, t) is a listed code and the later checks pass
pub record Past (m t : ℕ) (later : Outcome) : Type 0 where
  pub known : Known (code_of m t)
  pub rest : later ≡ Ok tt

pub past : (m t : ℕ) (later : List Check) → verdict (code_checks m t later) ≡ Ok tt → Past m t (verdict later)
past m t later e = pick (first_two m t)
  where
    pick : FirstTwo m t → Past m t (verdict later)
    pick (field_size a) = absurd (not_done (rw a at e))
    pick (not_listed a b) = absurd (not_done (rw (a, b) at e))
    pick (both_pass a b k) = record { known = k; rest = rw (a, b) at e }

-- a listed code passes the first two checks
pub code_passes : {m t : ℕ} → Known (code_of m t) → (later : List Check) → AllPass later → verdict (code_checks m t later) ≡ Ok tt
code_passes {m} {t} K later p =
    none_refuses (code_checks m t later) (ap not (m_within K.of_m.listed), (ap not (listed_test (known_listed K)), p))

not_both : {c : Code} {r : Refusal} → ◌≡◌ {A = Result Code Refusal} (Ok c) (Err r) → ⊥
not_both e = let z : ◌≡◌ {A = ℕ} 0 1 = cc in omega arith

-- what an answer of the checks tells
passes_is : (v : Outcome) {c : Code} (d : Code) → Ok c ≡ passing v d → (v ≡ Ok tt) × (c ≡ d)
passes_is v {c} d e = pick (verdict-cases v)
  where
    pick : Verdict v → (v ≡ Ok tt) × (c ≡ d)
    pick (passed z) = let f : ◌≡◌ {A = Result Code Refusal} (Ok c) (Ok d) = rw z at e in (z, cc)
    pick (refused r z) = absurd (not_both (rw z at e))

refuses_is : (v : Outcome) {r : Refusal} (d : Code) → Err r ≡ passing v d → v ≡ Err r
refuses_is v {r} d e = pick (verdict-cases v)
  where
    pick : Verdict v → v ≡ Err r
    pick (passed z) = absurd (not_both (sym (rw z at e)))
    pick (refused s z) = let f : ◌≡◌ {A = Result Code Refusal} (Err r) (Err s) = rw z at e in let g : s ≡ r = cc in z ∙ ap Err g

-- past a look-up that found the code, the operation's own checks decide
found_rest : {m t : ℕ} {look : Result Code Refusal} {c : Code} (checks : Code → List Check) → look ≡ Ok c → Checked m t no_more look
    → (c ≡ code_of m t) × (code_verdict m t checks ≡ verdict (checks c))
found_rest {m} {t} checks e l =
    let (z, is) = passes_is (code_verdict m t no_more) (code_of m t) (sym e ∙ l.is) in
    (is, earlier_pass (code_checks m t []) (checks (code_of m t)) z ∙ ap (λ (x : Code). verdict (checks x)) (sym is))

module _ {m t : ℕ} {checks : Code → List Check} {look : Result Code Refusal} where
  -- a step that looks the code up: it is not found, or the operation's own checks decide
  pub not_found : {r : Refusal} → look ≡ Err r → Checked m t no_more look → Checked m t checks look
  not_found e l =
      let z = earlier_refuse (code_checks m t []) (checks (code_of m t)) (refuses_is (code_verdict m t no_more) (code_of m t) (sym e ∙ l.is)) in
      record { is = e ∙ rw z }

  pub then_refused : {c : Code} {r : Refusal} → look ≡ Ok c → Checked m t no_more look → verdict (checks c) ≡ Err r → Checked m t checks (Err r)
  then_refused e l v =
      let (is, rest) = found_rest checks e l in
      let z = rest ∙ v in
      record { is = rw z }

  pub then_passes : {c : Code} → look ≡ Ok c → Checked m t no_more look → verdict (checks c) ≡ Ok tt → Checked m t checks (Ok c)
  then_passes e l v =
      let (is, rest) = found_rest checks e l in
      let z = rest ∙ v in
      record { is = rw z (ap Ok is) }

  -- what the checks leave where all have passed
  passed_past : {c : Code} → look ≡ Ok c → Checked m t checks look
      → (c ≡ code_of m t) × Past m t (verdict (checks (code_of m t))) × (code_verdict m t checks ≡ Ok tt)
  passed_past e l =
      let (z, is) = passes_is (code_verdict m t checks) (code_of m t) (sym e ∙ l.is) in
      (is, past m t (checks (code_of m t)) z, z)

  pub passed_known : {c : Code} → look ≡ Ok c → Checked m t checks look → Known c
  passed_known e l = let (is, p, z) = passed_past e l in subst Known (sym is) p.known

  pub passed_checks : {c : Code} → look ≡ Ok c → Checked m t checks look → verdict (checks c) ≡ Ok tt
  passed_checks e l = let (is, p, z) = passed_past e l in ap (λ (x : Code). verdict (checks x)) is ∙ p.rest

  module _ {L : Type 0} {Does : Code → Outcome → L → Type 0} {stays : L} where
    -- an operation whose checks have passed, and one that they refuse
    pub on_passed : {c : Code} {answer : Outcome} {left : L} → look ≡ Ok c → Checked m t checks look → Does c answer left
        → CodePromise m t checks Does stays answer left
    on_passed {c} {answer} {left} e l d =
        let (is, p, z) = passed_past e l in
        record { promise = does z (subst (λ (x : Code). Does x answer left) is d) }

    pub on_refused_as : {r : Refusal} {answer : Outcome} {left : L} → look ≡ Err r → Checked m t checks look → answer ≡ Err r → left ≡ stays
        → CodePromise m t checks Does stays answer left
    on_refused_as e l a s = record { promise = refuses_as (refuses_is (code_verdict m t checks) (code_of m t) (sym e ∙ l.is)) a s }

    pub on_refused : {r : Refusal} → look ≡ Err r → Checked m t checks look → CodePromise m t checks Does stays (Err r) stays
    on_refused e l = on_refused_as e l refl refl

-- a check of lent bits names the place that was found
pub names_place : (buffer : ℕ) {found place : ℕ} → place ≡ found
    → ◌≡◌ {A = Outcome} (Err (BitAboveOne buffer found)) (Err (BitAboveOne buffer place))
names_place buffer e = ap (λ (p : ℕ). Err (BitAboveOne buffer p)) (sym e)

-- one outcome, where what is done for a code is one
pub code_one : {L : Type 0} {m t : ℕ} {checks : Code → List Check} {Does : Code → Outcome → L → Type 0} {stays : L} {x y : Outcome} {left left' : L}
    → ((c : Code) → Known c → verdict (checks c) ≡ Ok tt → Does c x left → Does c y left' → (x ≡ y) × (left ≡ left'))
    → CodePromise m t checks Does stays x left → CodePromise m t checks Does stays y left' → (x ≡ y) × (left ≡ left')
code_one {m = m} {t} {checks} u p q =
    promise_one (λ z a b. let h = past m t (checks (code_of m t)) z in u (code_of m t) h.known h.rest a b) p.promise q.promise
