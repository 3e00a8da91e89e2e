-- Each of the 232 rows is a row of one m.
use mathlib.Core.Path.{◌≡◌, refl, subst}
use Prim.Native.Nat.{ℕ, zero, suc, ◌+◌, ◌≤◌, ◌<◌}
use native.Mathlib.Decide.{dec_lt, le_ind}
use native.Mathlib.Omega.{arith}
use Rattle.field.specs.Product.{IsField}
use Rattle.codes.specs.Table.{first, firsts}
use Rattle.codes.specs.Rows.{RowOf}
use Rattle.codes.proofs.LookLaws.{rows_within}

first_start : first 3 ≡ 0
unfolding first firsts
first_start = refl

first_end : first 11 ≡ 232
unfolding first firsts
first_end = refl

row_below : (c r : ℕ) → c ≤ 8 → r < first (3 + c) → (m : ℕ) × RowOf m r
row_below zero r h l = absurd (omega (arith, first_start))
row_below (suc c) r h l = pick (dec_lt r (first (3 + c))) (row_below c r (omega arith))
  where
    next : 3 + suc c ≡ suc (3 + c)
    next = omega arith

    pick : Dec (r < first (3 + c)) → (r < first (3 + c) → (m : ℕ) × RowOf m r) → (m : ℕ) × RowOf m r
    pick (yes b) rest = rest b
    pick (no n) rest =
        (3 + c, record { listed = record { least = omega arith; most = omega arith }; from = omega arith; below = subst (λ (x : ℕ). r < first x) next l })

pub row_of_lem : (r : ℕ) → r < 232 → (m : ℕ) × RowOf m r
row_of_lem r h = row_below 8 r (omega arith) (omega (arith, first_end))

-- the rows of a later m come later
rows_later : {m m' : ℕ} → IsField m → m < m' → m' ≤ 11 → first (suc m) ≤ first m'
rows_later {m} {m'} L h u = le_ind (λ (x : ℕ). x ≤ 11 → first (suc m) ≤ first x) (λ k. omega arith) step m' h u
  where
    step : (x : ℕ) → suc m ≤ x → (x ≤ 11 → first (suc m) ≤ first x) → suc x ≤ 11 → first (suc m) ≤ first (suc x)
    step x l f k =
        let F : IsField x = record { least = omega arith; most = omega arith } in
        let w = rows_within F in
        omega (arith, f (omega arith))

pub row_one : {m m' r : ℕ} → RowOf m r → RowOf m' r → m ≡ m'
row_one {m} {m'} v w = pick (dec_lt m m') (dec_lt m' m)
  where
    pick : Dec (m < m') → Dec (m' < m) → m ≡ m'
    pick (yes h) d = absurd (omega (arith, rows_later v.listed h (omega arith)))
    pick (no n) (yes h) = absurd (omega (arith, rows_later w.listed h (omega arith)))
    pick (no n) (no k) = omega arith
