-- The factors of a row's generator are the distinct minimal polynomials of a, a^3, .. a^(2t-1).
use mathlib.Core.Path.{◌≡◌, ◌∙◌, sym, ap}
use mathlib.Core.Logic.{◌≢◌}
use Prim.Native.Nat.{ℕ, zero, suc, ◌+◌, ◌-◌, ◌*◌, ◌%◌, ◌^◌, ◌≤◌, ◌<◌}
use native.Mathlib.Nat.{mul-one, mod-eq_of_lt}
use native.Mathlib.Decide.{dec_le, ℕ_discrete}
use native.Mathlib.Omega.{arith}
use lib.ListN.{get_or}
use Rattle.field.specs.Power.{n_of}
use Rattle.codes.specs.Table.{ts}
use Rattle.codes.specs.Rows.{RowOf, before_t}
use Rattle.codes.specs.Sums.{sum_of}
use Rattle.codes.proofs.Lead.{doublings_add, lead_same}
use Rattle.codes.proofs.Rows.{InClass, RowBefore, at_first, after, row_before, row_facts, rows_ascend, before_free, smaller_class}
use Rattle.generator.specs.Minimal.{Minimal}
use Rattle.generator.proofs.Minimal.{degree_of, row_minimal, minimal, minimal_of_class, no_other_root}

-- i is in the class that row q adds, q at most r
pub record ClassRow (m r i : ℕ) : Type 0 where
  pub row : ℕ
  pub of_m : RowOf m row
  pub most : row ≤ r
  pub in_class : InClass (n_of m) (2 * before_t m row + 1) i

module _ (m : ℕ) where
  -- b bounds the recursion, by rows downward and within a row by smaller numbers
  find_row : (b r i : ℕ) → r + i ≤ b → RowOf m r → 1 ≤ i → i ≤ 2 * get_or ts r 0 → ClassRow m r i
  find_row zero r i u w l h = absurd (omega arith)
  find_row (suc b) r i u w l h = pick (dec_le i (2 * before_t m r)) (ℕ_discrete i (2 * before_t m r + 1)) (row_before w) (find_row b)
    where
      pick : Dec (i ≤ 2 * before_t m r) → Dec (i ≡ 2 * before_t m r + 1) → RowBefore m r
          → ((q j : ℕ) → q + j ≤ b → RowOf m q → 1 ≤ j → j ≤ 2 * get_or ts q 0 → ClassRow m q j) → ClassRow m r i
      pick (yes p) d (at_first e f g) rest = absurd (omega arith)
      pick (yes p) d (after {q} v e f g) rest =
          let C = rest q i (omega arith) v l (omega arith) in
          record { row = C.row; of_m = C.of_m; most = omega (arith, C.most); in_class = C.in_class }
      pick (no p) (yes d) before rest =
          let z : (2 * before_t m r + 1) * 2 ^ 0 % n_of m ≡ i =
          ap (λ x. x % n_of m) (mul-one (2 * before_t m r + 1)) ∙ mod-eq_of_lt (omega (arith, row_facts w)) ∙ sym d in
          record { row = r; of_m = w; most = omega arith; in_class = (0, z) }
      pick (no p) (no d) before rest =
          let (j, e, x, y, z) = smaller_class w i (omega arith) h in
          let C = rest r j (omega arith) w x (omega arith) in
          record { row = C.row; of_m = C.of_m; most = C.most; in_class = carried j e z (2 * before_t m C.row + 1) C.in_class }
        where
          carried : (j e : ℕ) → j * 2 ^ e % n_of m ≡ i → (c : ℕ) → InClass (n_of m) c j → InClass (n_of m) c i
          carried j e z c (f, y) = (f + e, sym (doublings_add (n_of m) c f e) ∙ ap (λ x. x * 2 ^ e % n_of m) y ∙ z)

-- every i from 1 to 2t, so every odd one, is in the class of one of the rows up to r
pub class_row : {m r : ℕ} → RowOf m r → (i : ℕ) → 1 ≤ i → i ≤ 2 * get_or ts r 0 → ClassRow m r i
class_row {m} {r} w i l h = find_row m (r + i) r i (omega arith) w l h

-- so the minimal polynomial of a^i is one of the factors
pub factor_of_power : {m r : ℕ} → RowOf m r → (i : ℕ) → 1 ≤ i → i ≤ 2 * get_or ts r 0
    → (q : ℕ) × RowOf m q × (q ≤ r) × Minimal m i (degree_of m q) (row_minimal m q)
factor_of_power {m} {r} w i l h =
    let C = class_row w i l h in
    (C.row, C.of_m, C.most, minimal_of_class C.of_m i C.in_class)

before_ascends : {m q r : ℕ} → RowOf m q → RowOf m r → q < r → before_t m q < before_t m r
before_ascends {m} {q} {r} v w h = pick (row_before w)
  where
    pick : RowBefore m r → before_t m q < before_t m r
    pick (at_first e f g) = absurd (omega arith)
    pick (after {q = p} u e f g) = same (ℕ_discrete q p)
      where
        same : Dec (q ≡ p) → before_t m q < before_t m r
        same (yes i) = omega (arith, row_facts v, ap (λ x. get_or ts x 0) i)
        same (no i) = omega (arith, row_facts v, rows_ascend m q p v u (omega arith))

-- and every factor is the minimal polynomial of such a power of a with an odd exponent
pub power_of_factor : {m q r : ℕ} → RowOf m q → RowOf m r → q ≤ r
    → (i : ℕ) × (i % 2 ≡ 1) × (i ≤ 2 * get_or ts r 0 - 1) × Minimal m i (degree_of m q) (row_minimal m q)
power_of_factor {m} {q} {r} v w h = (2 * before_t m q + 1, omega arith, pick (ℕ_discrete q r), minimal v)
  where
    pick : Dec (q ≡ r) → 2 * before_t m q + 1 ≤ 2 * get_or ts r 0 - 1
    pick (yes e) = omega (arith, row_facts v, ap (λ x. get_or ts x 0) e)
    pick (no e) = omega (arith, row_facts v, rows_ascend m q r v w (omega arith))

-- no two rows of m have the same minimal polynomial
pub factors_differ : {m q r : ℕ} → RowOf m q → RowOf m r → q < r → row_minimal m q ≢ row_minimal m r
factors_differ {m} {q} {r} v w h e =
    no_other_root v (2 * before_t m r + 1) (omega (arith, row_facts w)) out (ap (sum_of m (2 * before_t m r + 1)) e ∙ (minimal w).root)
  where
    out : InClass (n_of m) (2 * before_t m q + 1) (2 * before_t m r + 1) → ⊥
    out (i, f) =
        let small : 2 * before_t m q + 1 < n_of m = omega (arith, row_facts v) in
        let same = lead_same m (2 * before_t m q + 1) (2 * before_t m r + 1) i (omega arith) small f in
        omega (arith, before_free v, before_free w, before_ascends v w h)
