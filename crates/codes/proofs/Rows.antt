-- What each row adds to the row before it: one class of residues, and no other t between.
use mathlib.Core.Path.{◌≡◌, ◌∙◌, refl, sym, ap}
use mathlib.Core.Logic.{◌≢◌}
use Prim.Native.Nat.{ℕ, zero, suc, ◌+◌, ◌-◌, ◌*◌, ◌/◌, ◌%◌, ◌^◌, ◌≤◌, ◌<◌}
use native.Mathlib.Nat.{mod-eq_of_lt, not-suc-le-zero}
use native.Mathlib.Decide.{dec_le, dec_lt, ℕ_discrete}
use native.Mathlib.Omega.{arith}
use lib.ListN.{get_or}
use lib.Seq.{get_or-drop}
use Rattle.field.specs.Power.{n_of}
use Rattle.codes.specs.Table.{ks, ts, first}
use Rattle.codes.specs.Rows.{RowOf, before_k, before_t}
use Rattle.codes.specs.Rule.{Residue, Count}
use Rattle.codes.proofs.Count.{count_nothing, count_rest}
use Rattle.codes.proofs.Lead.{lead, doublings_add, lead_least, lead_reaches, lead_positive, lead_at_most, lead_same, residue_lead}
use Rattle.codes.proofs.Walk.{RightRow, right_row_at}

pub record RowFacts (m r : ℕ) : Type 0 where
  pub ascending : before_t m r < get_or ts r 0
  pub positive : 1 ≤ get_or ts r 0
  pub small : 2 * get_or ts r 0 + 1 < n_of m
  pub wide : 2 ≤ get_or ks r 0
  pub falling : get_or ks r 0 < before_k m r
  pub within : before_k m r ≤ n_of m
  pub one_class : before_k m r - get_or ks r 0 ≤ m

pub row_facts : {m r : ℕ} → RowOf m r → RowFacts m r
row_facts {m} {r} w =
    let R : RightRow m (before_k m r) (before_t m r) (get_or ks r 0) (get_or ts r 0) = right_row_at w in
    omega arith

-- the row before r is a row of m, or r is the first
pub data RowBefore (m r : ℕ) : Type 0 where
  at_first : r ≡ first m → before_t m r ≡ 0 → before_k m r ≡ n_of m → RowBefore m r
  after : {q : ℕ} → RowOf m q → r ≡ suc q → before_t m r ≡ get_or ts q 0 → before_k m r ≡ get_or ks q 0 → RowBefore m r

pub row_before : {m r : ℕ} → RowOf m r → RowBefore m r
unfolding before_k before_t
row_before {m} {r} w = pick (r - first m) refl
  where
    pick : (i : ℕ) → r - first m ≡ i → RowBefore m r
    pick zero e = at_first (omega arith) (rw e) (rw e)
    pick (suc i) e =
        after {q = first m + i}
        (record { listed = w.listed; from = omega arith; below = omega arith }) (omega arith)
        (rw e (get_or-drop (first m) ts i 0)) (rw e (get_or-drop (first m) ks i 0))

next_ascends : {m q : ℕ} → RowOf m q → RowOf m (suc q) → get_or ts q 0 < get_or ts (suc q) 0
next_ascends {m} {q} v w = pick (row_before w)
  where
    pick : RowBefore m (suc q) → get_or ts q 0 < get_or ts (suc q) 0
    pick (at_first e f g) = absurd (omega arith)
    pick (after {q = p} u e f g) =
        let i : p ≡ q = omega arith in
        let j : before_t m (suc q) ≡ get_or ts q 0 = rw i at f in
        omega (arith, row_facts w)

pub rows_ascend : (m q r : ℕ) → RowOf m q → RowOf m r → q < r → get_or ts q 0 < get_or ts r 0
rows_ascend m q zero v w h = absurd (not-suc-le-zero h)
rows_ascend m q (suc r) v w h =
    pick (ℕ_discrete q r) (rows_ascend m q r v)
  where
    earlier : RowOf m r
    earlier = record { listed = w.listed; from = omega arith; below = omega arith }

    pick : Dec (q ≡ r) → (RowOf m r → q < r → get_or ts q 0 < get_or ts r 0) → get_or ts q 0 < get_or ts (suc r) 0
    pick (yes e) rest = rw e (next_ascends earlier w)
    pick (no e) rest = omega (arith, rest earlier (omega arith), next_ascends earlier w)

pub row_unique : {m r r' : ℕ} → RowOf m r → RowOf m r' → get_or ts r 0 ≡ get_or ts r' 0 → r ≡ r'
row_unique {m} {r} {r'} v w e = pick (dec_lt r r') (dec_lt r' r)
  where
    pick : Dec (r < r') → Dec (r' < r) → r ≡ r'
    pick (yes p) d = absurd (omega (arith, rows_ascend m r r' v w p))
    pick (no p) (yes q) = absurd (omega (arith, rows_ascend m r' r w v q))
    pick (no p) (no q) = omega arith

-- the count of the rule holds for the row before, also where n and 0 stand for it
pub before_count : {m r : ℕ} → RowOf m r → Count (Residue (n_of m) (before_t m r)) (n_of m) (n_of m - before_k m r)
before_count {m} {r} w = pick (row_before w)
  where
    pick : RowBefore m r → Count (Residue (n_of m) (before_t m r)) (n_of m) (n_of m - before_k m r)
    pick (at_first e f g) =
        let z : n_of m - n_of m ≡ 0 = omega arith in
        rw (f, g, z) (count_nothing (n_of m) (λ x v. omega (arith, v.least, v.most)))
    pick (after u e f g) = rw (f, g) (right_row_at u).count

-- 2s + 1 is the least of its class, s being the t of the row before
pub before_free : {m r : ℕ} → RowOf m r → lead m (2 * before_t m r + 1) ≡ 2 * before_t m r + 1
before_free {m} {r} w = pick (row_before w)
  where
    positive_m : 1 ≤ m
    positive_m = omega arith

    pick : RowBefore m r → lead m (2 * before_t m r + 1) ≡ 2 * before_t m r + 1
    pick (at_first e f g) =
        let h : 1 < n_of m = omega (arith, row_facts w) in
        rw f (omega (arith, lead_positive m 1 positive_m h, lead_at_most m 1 positive_m (omega arith) h))
    pick (after u e f g) = rw f (right_row_at u).free

-- x is made of c by doublings mod n
abbrev pub InClass : ℕ → ℕ → ℕ → Type 0
InClass n c x = (e : ℕ) × (c * 2 ^ e % n ≡ x)

pub smaller_class : {m r : ℕ} → RowOf m r → (j : ℕ) → 2 * before_t m r + 1 < j → j ≤ 2 * get_or ts r 0
    → (i : ℕ) × (e : ℕ) × (1 ≤ i) × (i < j) × (i * 2 ^ e % n_of m ≡ j)
smaller_class {m} {r} w j l h = pick (ℕ_discrete (j % 2) 0)
  where
    R : RightRow m (before_k m r) (before_t m r) (get_or ks r 0) (get_or ts r 0)
    R = right_row_at w

    positive_m : 1 ≤ m
    positive_m = omega arith

    small : j < n_of m
    small = omega (arith, R.small)

    pick : Dec (j % 2 ≡ 0) → (i : ℕ) × (e : ℕ) × (1 ≤ i) × (i < j) × (i * 2 ^ e % n_of m ≡ j)
    pick (yes p) =
        let q : j / 2 * 2 ≡ j = omega arith in
        (j / 2, 1, omega arith, omega arith, ap (λ z. z % n_of m) q ∙ mod-eq_of_lt small)
    pick (no p) =
        let q : 2 * (j / 2) + 1 ≡ j = omega arith in
        let (e, f) = lead_reaches m j positive_m small in
        let g : lead m j ≢ j = rw q at (R.none_between (j / 2) (omega arith) (omega arith)) in
        (lead m j, e, lead_positive m j positive_m small, omega (arith, lead_at_most m j positive_m (omega arith) small), f)

module _ {m r : ℕ} (w : RowOf m r) (x : ℕ) (h : x < n_of m) where
  positive_m : 1 ≤ m
  positive_m = omega arith

  class_new : InClass (n_of m) (2 * before_t m r + 1) x → Residue (n_of m) (get_or ts r 0) x × (Residue (n_of m) (before_t m r) x → ⊥)
  class_new (e, f) =
      let F : RowFacts m r = row_facts w in
      let g : lead m x ≡ lead m (2 * before_t m r + 1) = lead_same m (2 * before_t m r + 1) x e positive_m (omega arith) f in (
        record { i = 2 * before_t m r + 1; j = e; least = omega arith; most = omega arith; is = f },
        λ v. omega (arith, before_free w, (residue_lead m (before_t m r) x positive_m h).0 v),
      )

  new_class : Residue (n_of m) (get_or ts r 0) x × (Residue (n_of m) (before_t m r) x → ⊥) → InClass (n_of m) (2 * before_t m r + 1) x
  new_class (v, n) = pick (ℕ_discrete (lead m x) (2 * before_t m r + 1)) (dec_le (lead m x) (2 * before_t m r)) (lead_reaches m x positive_m h)
    where
      pick : Dec (lead m x ≡ 2 * before_t m r + 1) → Dec (lead m x ≤ 2 * before_t m r) → (j : ℕ) × (lead m x * 2 ^ j % n_of m ≡ x)
          → InClass (n_of m) (2 * before_t m r + 1) x
      pick (yes p) d (j, e) = (j, rw p at e)
      pick (no p) (yes q) z = absurd (n ((residue_lead m (before_t m r) x positive_m h).1 q))
      pick (no p) (no q) (j, e) =
          let (i, e', a, b, c) = smaller_class w (lead m x) (omega arith) ((residue_lead m (get_or ts r 0) x positive_m h).0 v) in
          let f : i * 2 ^ (e' + j) % n_of m ≡ x = sym (doublings_add (n_of m) i e' j) ∙ ap (λ z. z * 2 ^ j % n_of m) c ∙ e in
          absurd (omega (arith, lead_least m i (e' + j) x positive_m a f))

  old_residue : Residue (n_of m) (before_t m r) x → Residue (n_of m) (get_or ts r 0) x
  old_residue v = record { i = v.i; j = v.j; least = v.least; most = omega (arith, row_facts w, v.most); is = v.is }

pub class_count : {m r : ℕ} → RowOf m r → Count (InClass (n_of m) (2 * before_t m r + 1)) (n_of m) (before_k m r - get_or ks r 0)
class_count {m} {r} w =
    let R : RightRow m (before_k m r) (before_t m r) (get_or ks r 0) (get_or ts r 0) = right_row_at w in
    let (c, e, x) = count_rest {R = InClass (n_of m) (2 * before_t m r + 1)} (old_residue w)
    (λ x h. (class_new w x h, new_class w x h)) R.count (before_count w) in
    let f : c ≡ before_k m r - get_or ks r 0 = omega arith in
    rw f at x
