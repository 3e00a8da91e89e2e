-- Checks one after another, what a promise gives where they pass and where they refuse, and the one outcome that it leaves.
use mathlib.Core.Path.{◌≡◌, ◌∙◌, refl, sym, ap, subst}
use mathlib.Core.Bool.{true, false, not}
use mathlib.Core.List.{List, [], ◌∷◌, ◌++◌}
use mathlib.Core.Logic.{◌≢◌, ◌↔◌, ◌⊎◌, inl, inr}
use Prim.Native.Nat.{ℕ}
use native.Mathlib.Omega.{arith}
use borrow.Author.Tests.{eq-eqb, ne_eqb, eqb-true, not-false}
use mir.Facts.{eqb_no}
use lib.Dec.{T, eqb}
use Rattle.sheet.specs.declared.Refusal.{Refusal}
use Rattle.sheet.specs.declared.Refusal.TheVariants.{NothingNear}
use Rattle.sheet.specs.Number.{Outcome}
use Rattle.std.specs.Prelude.{Ok, Err}
use Rattle.sheet.specs.Number.{number_of}
use Rattle.sheet.specs.Verdict.{Check, ◌⇒◌, verdict, Promise, Always, Searches, finds, finds_nothing}
use Rattle.sheet.specs.Work.{AllPass}

pub not_done : {r : Refusal} → ◌≡◌ {A = Outcome} (Err r) (Ok tt) → ⊥
not_done {r} e = let z : ◌≡◌ {A = ℕ} 0 1 = cc in omega arith

-- the checks come to nothing exactly if all of them pass
pub all_pass : (checks : List Check) → verdict checks ≡ Ok tt → AllPass checks
all_pass [] e = tt
all_pass ((true ⇒ r) ∷ later) e = absurd (not_done e)
all_pass ((false ⇒ r) ∷ later) e = (refl, all_pass later e)

pub none_refuses : (checks : List Check) → AllPass checks → verdict checks ≡ Ok tt
none_refuses [] p = refl
none_refuses ((b ⇒ r) ∷ later) (e, p) = rw e (none_refuses later p)

-- a check of two numbers that are to be the same
pub same_of : (a b : ℕ) → not (eqb a b) ≡ false → a ≡ b
same_of a b e = eqb-true a b (not-false (eqb a b) e)

pub equal : {a b : ℕ} → a ≡ b → not (eqb a b) ≡ false
equal {a} {b} e = ap not (eq-eqb a b e)

pub unequal : {a b : ℕ} → (a ≡ b → ⊥) → not (eqb a b) ≡ true
unequal {a} {b} n = ap not (ne_eqb a b n)

-- the later checks decide only where the first ones pass
pub earlier_refuse : (first later : List Check) {r : Refusal} → verdict first ≡ Err r → verdict (first ++ later) ≡ Err r
earlier_refuse [] later e = absurd (not_done (sym e))
earlier_refuse ((true ⇒ r) ∷ first) later e = e
earlier_refuse ((false ⇒ r) ∷ first) later e = earlier_refuse first later e

pub earlier_pass : (first later : List Check) → verdict first ≡ Ok tt → verdict (first ++ later) ≡ verdict later
earlier_pass [] later e = refl
earlier_pass ((true ⇒ r) ∷ first) later e = absurd (not_done e)
earlier_pass ((false ⇒ r) ∷ first) later e = earlier_pass first later e

-- the checks come to a refusal, or to nothing
pub data Verdict (v : Outcome) : Type 0 where
  passed : v ≡ Ok tt → Verdict v
  refused : (r : Refusal) → v ≡ Err r → Verdict v

pub verdict-cases : (v : Outcome) → Verdict v
verdict-cases (Ok u) = passed refl
verdict-cases (Err r) = refused r refl

module _ {L : Type 0} {Does : Outcome → L → Type 0} {stays : L} where
  -- what makes a promise true: a check refuses, or all pass and the work is done
  pub refuses_as : {checks : List Check} {r : Refusal} {answer : Outcome} {left : L} → verdict checks ≡ Err r → answer ≡ Err r → left ≡ stays
      → Promise checks Does stays answer left
  refuses_as e a l = record { refused = λ s z. (a ∙ sym e ∙ z, l); done = λ z. absurd (not_done (sym e ∙ z)) }

  pub refuses : {checks : List Check} {r : Refusal} → verdict checks ≡ Err r → Promise checks Does stays (Err r) stays
  refuses e = refuses_as e refl refl

  pub does : {checks : List Check} {answer : Outcome} {left : L} → verdict checks ≡ Ok tt → Does answer left → Promise checks Does stays answer left
  does e d = record { refused = λ s z. absurd (not_done (sym z ∙ e)); done = λ z. d }

  -- where it is done, all checks have passed
  pub done_passed : {checks : List Check} {answer : Outcome} {left : L} → Promise checks Does stays answer left → answer ≡ Ok tt → verdict checks ≡ Ok tt
  done_passed {checks} {answer} p e = pick (verdict-cases (verdict checks))
    where
      pick : Verdict (verdict checks) → verdict checks ≡ Ok tt
      pick (passed z) = z
      pick (refused r z) = absurd (not_done (sym (p.refused r z).0 ∙ e))

  -- a refusal leaves everything as it was, if a refusal past the checks does so
  pub refused_stays : {checks : List Check} {answer : Outcome} {left : L} → (Does answer left → answer ≢ Ok tt → left ≡ stays)
      → Promise checks Does stays answer left → answer ≢ Ok tt → left ≡ stays
  refused_stays {checks} {answer} {left} d p n = pick (verdict-cases (verdict checks))
    where
      pick : Verdict (verdict checks) → left ≡ stays
      pick (passed e) = d (p.done e) n
      pick (refused r e) = (p.refused r e).1

  -- a promise leaves one outcome if what is done past the checks has one outcome
  pub promise_one : {checks : List Check} {x y : Outcome} {left left' : L}
      → (verdict checks ≡ Ok tt → Does x left → Does y left' → (x ≡ y) × (left ≡ left'))
      → Promise checks Does stays x left → Promise checks Does stays y left' → (x ≡ y) × (left ≡ left')
  promise_one {checks} {x} {y} {left} {left'} u p q = pick (verdict-cases (verdict checks))
    where
      pick : Verdict (verdict checks) → (x ≡ y) × (left ≡ left')
      pick (passed e) = u e (p.done e) (q.done e)
      pick (refused r e) =
          let a = p.refused r e in
          let b = q.refused r e in
          (a.0 ∙ sym b.0, a.1 ∙ sym b.1)

-- an operation that always does its work
module _ {L : Type 0} {Did : L → Type 0} where
  pub always : {left : L} → Did left → Always Did (Ok tt) left
  always d = record { is_done = refl; did = d }

  pub always_one : {x y : Outcome} {left left' : L} → (Did left → Did left' → left ≡ left') → Always Did x left → Always Did y left' → (x ≡ y) × (left ≡ left')
  always_one u a b = (a.is_done ∙ sym b.is_done, u a.did b.did)

  pub always_stays : {stays : L} {answer : Outcome} {left : L} → Always Did answer left → answer ≢ Ok tt → left ≡ stays
  always_stays a n = absurd (n a.is_done)

  -- its answer is what its checks come to
  pub answer_is : {checks : List Check} {stays : L} {answer : Outcome} {left : L} → Promise checks (Always Did) stays answer left → answer ≡ verdict checks
  answer_is {checks} {stays} {answer} p = pick (verdict-cases (verdict checks))
    where
      pick : Verdict (verdict checks) → answer ≡ verdict checks
      pick (passed e) = (p.done e).is_done ∙ sym e
      pick (refused r e) = (p.refused r e).0 ∙ sym e

-- an operation that searches has one outcome, if at most one thing can be found and nothing can be found where `Nothing` holds
pub search_one : {L : Type 0} {Found : L → Type 0} {Nothing : Type 0} {stays : L} {x y : Outcome} {left left' : L}
    → (Found left → Found left' → left ≡ left') → ((l : L) → Found l → Nothing → ⊥)
    → Searches Found Nothing stays x left → Searches Found Nothing stays y left' → (x ≡ y) × (left ≡ left')
search_one u n (finds a p) (finds b q) = (a ∙ sym b, u p q)
search_one u n (finds a p) (finds_nothing b q l) = absurd (n _ p q)
search_one u n (finds_nothing a p k) (finds b q) = absurd (n _ q p)
search_one u n (finds_nothing a p k) (finds_nothing b q l) = (a ∙ sym b, k ∙ sym l)

pub search_stays : {L : Type 0} {Found : L → Type 0} {Nothing : Type 0} {stays : L} {answer : Outcome} {left : L}
    → Searches Found Nothing stays answer left → answer ≢ Ok tt → left ≡ stays
search_stays (finds a f) n = absurd (n a)
search_stays (finds_nothing a f s) n = s

-- no check has the refusal with this number
abbrev pub NotAmong : ℕ → List Check → Type 0
NotAmong n [] = Unit {0}
NotAmong n ((b ⇒ r) ∷ later) = T (not (eqb (number_of r) n)) × NotAmong n later

pub same_refusal : {r s : Refusal} → ◌≡◌ {A = Outcome} (Err r) (Err s) → r ≡ s
same_refusal {r} {s} e = cc

-- the checks never come to a refusal that none of them has
pub never_refused : (checks : List Check) (r : Refusal) → NotAmong (number_of r) checks → verdict checks ≢ Err r
never_refused [] r n e = not_done (sym e)
never_refused ((true ⇒ s) ∷ later) r (p, n) e = eqb_no p (ap number_of (same_refusal e))
never_refused ((false ⇒ s) ∷ later) r (p, n) e = never_refused later r n e

-- P holds of the refusal of each check that can be the first to refuse
abbrev pub Each : (Refusal → Type 0) → List Check → Type 0
Each P [] = Unit {0}
Each P ((b ⇒ r) ∷ later) = (b ≡ true → P r) × (b ≡ false → Each P later)

-- so it holds of the refusal that the checks come to
pub refused_each : (P : Refusal → Type 0) (checks : List Check) {r : Refusal} → Each P checks → verdict checks ≡ Err r → P r
refused_each P [] p e = absurd (not_done (sym e))
refused_each P ((true ⇒ s) ∷ later) (here, p) e = subst P (same_refusal e) (here refl)
refused_each P ((false ⇒ s) ∷ later) (here, p) e = refused_each P later (p refl) e

-- where a refusal of an operation that searches comes from: a check, or 6 and there is nothing to find
module _ {L : Type 0} {Found : L → Type 0} {Nothing : Type 0} {stays : L} {checks : List Check} {answer : Outcome} {left : L}
    (p : Promise checks (Searches Found Nothing stays) stays answer left) where
  pub search_refused : {r : Refusal} → answer ≡ Err r → (verdict checks ≡ Err r) ⊎ ((verdict checks ≡ Ok tt) × ((r ≡ NothingNear) × Nothing))
  search_refused {r} e = pick (verdict-cases (verdict checks))
    where
      found : verdict checks ≡ Ok tt → Searches Found Nothing stays answer left → (verdict checks ≡ Ok tt) × ((r ≡ NothingNear) × Nothing)
      found z (finds a f) = absurd (not_done (sym e ∙ a))
      found z (finds_nothing a f s) = (z, (same_refusal (sym e ∙ a), f))

      pick : Verdict (verdict checks) → (verdict checks ≡ Err r) ⊎ ((verdict checks ≡ Ok tt) × ((r ≡ NothingNear) × Nothing))
      pick (passed z) = inr (found z (p.done z))
      pick (refused s z) = inl (z ∙ sym (p.refused s z).0 ∙ e)

  -- the converse holds too, if nothing can be found where `Nothing` holds
  pub search_exactly : ((l : L) → Found l → Nothing → ⊥) → (r : Refusal)
      → (answer ≡ Err r) ↔ ((verdict checks ≡ Err r) ⊎ ((verdict checks ≡ Ok tt) × ((r ≡ NothingNear) × Nothing)))
  search_exactly c r = (λ e. search_refused e, back)
    where
      searched : r ≡ NothingNear → Nothing → Searches Found Nothing stays answer left → answer ≡ Err r
      searched e f (finds a x) = absurd (c left x f)
      searched e f (finds_nothing a g s) = a ∙ ap Err (sym e)

      back : (verdict checks ≡ Err r) ⊎ ((verdict checks ≡ Ok tt) × ((r ≡ NothingNear) × Nothing)) → answer ≡ Err r
      back (inl z) = (p.refused r z).0
      back (inr (z, (e, f))) = searched e f (p.done z)

  -- 6 exactly if no check refuses and there is nothing to find
  pub nothing_exactly : NotAmong 6 checks → ((l : L) → Found l → Nothing → ⊥) → (answer ≡ Err NothingNear) ↔ ((verdict checks ≡ Ok tt) × Nothing)
  nothing_exactly n c = (λ e. there (search_refused e), λ (z, f). (search_exactly c NothingNear).1 (inr (z, (refl, f))))
    where
      there : (verdict checks ≡ Err NothingNear) ⊎ ((verdict checks ≡ Ok tt) × ((NothingNear ≡ NothingNear) × Nothing)) → (verdict checks ≡ Ok tt) × Nothing
      there (inl z) = absurd (never_refused checks NothingNear n z)
      there (inr (z, (e, f))) = (z, f)
