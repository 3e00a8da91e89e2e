-- The tests are the definition's, one after the other.
use mathlib.Core.Path.{◌≡◌, ◌∙◌, sym, ap, ap₂}
use Prim.Native.Nat.{ℕ, suc, ◌+◌, ◌-◌, ◌≤◌, ◌<◌}
use native.Mathlib.Numerals.{add-one}
use native.Mathlib.Omega.{arith}
use lib.ListN.{get_or}
use Rattle.field.specs.Product.{IsField}
use Rattle.field.specs.Power.{n_of}
use Rattle.codes.specs.Table.{first, ks}
use Rattle.codes.specs.Look.{row_from, row_of}
use Rattle.codes.specs.Work.{no_more, Checked}
use Rattle.std.specs.Prelude.{Ok, Err}
use Rattle.sheet.specs.declared.Refusal.TheVariants.{NotListed}
use mathlib.Core.List.{List}
use Rattle.codes.proofs.LookLaws.{rows_within, row_of_from, k_of_row}
use Rattle.codes.proofs.CheckLaws.{m_small, m_large, m_within, t_listed, t_unlisted}
use Rattle.codes.proofs.CheckLaws.{look_field, look_unlisted, look_listed}
use Rattle.codes.proofs.look_up.Goals as goal

past_tests : (m : ℕ) → 3 ≤ m → m ≤ 10 → IsField m
past_tests m h k = record { least = h; most = k }

-- the row that the search gives
row_is : (m t from to row : ℕ) → from ≡ first m → to ≡ first (m + 1) → row ≡ row_from (to - from) from t → (row ≡ row_of m t) × (to ≡ first (suc m))
row_is m t from to row p q e =
    let z : to ≡ first (suc m) = q ∙ ap first (add-one m) in
    (e ∙ ap₂ (λ (x y : ℕ). row_from (x - y) y t) z p ∙ sym (row_of_from m t), z)

within : (m from to : ℕ) → IsField m → from ≡ first m → to ≡ first (m + 1) → (from ≤ to) × (to ≤ 232)
within m from to L p q =
    let z : to ≡ first (suc m) = q ∙ ap first (add-one m) in
    let w = rows_within L in
    (omega arith, omega arith)

-- the code that is answered is the one of (m, t)
found : (m t row to n : ℕ) → IsField m → (row ≡ row_of m t) × (to ≡ first (suc m)) → row < to → (xs : List ℕ) → xs ≡ ks → n ≡ n_of m
    → Checked m t no_more (Ok (record { m = m; t = t; row = row; n = n; k = get_or xs row 0 }))
found m t row to n L e h xs p q =
    rw (p, e.0, q, ← (k_of_row m t)) (look_listed (m_within L) (t_listed m t (omega (arith, e.0, e.1))))

missing : (m t row to : ℕ) → IsField m → (row ≡ row_of m t) × (to ≡ first (suc m)) → to ≤ row → Checked m t no_more (Err NotListed)
missing m t row to L e h = look_unlisted (m_within L) (t_unlisted m t (omega (arith, e.0, e.1)))

pub returns-then-m-lt3 : goal.returns-then-m-lt3
returns-then-m-lt3 c = look_field (m_small c.if-m-lt3.true)

pub returns-then-m-gt10 : goal.returns-then-m-gt10
returns-then-m-gt10 c = look_field (m_large c.if-m-lt3.false c.if-m-gt10.true)

pub find_row-row-requires : goal.find_row-row-requires
find_row-row-requires c =
    let (ordered, most) = within _ _ _ (past_tests c.args.m c.if-m-lt3.false c.if-m-gt10.false) c.first_row-from.ensures c.first_row-to.ensures in
    (c.ts-ts.ensures, ordered, most)

pub offset_bounds-ks-row : goal.offset_bounds-ks-row
offset_bounds-ks-row c = omega (arith, within _ _ _ (past_tests c.args.m c.if-m-lt3.false c.if-m-gt10.false) c.first_row-from.ensures c.first_row-to.ensures)

pub bounds-ks-row : goal.bounds-ks-row
bounds-ks-row c = omega (arith, within _ _ _ (past_tests c.args.m c.if-m-lt3.false c.if-m-gt10.false) c.first_row-from.ensures c.first_row-to.ensures)

pub n_of-n-requires : goal.n_of-n-requires
n_of-n-requires c =
    past_tests c.args.m c.if-m-lt3.false c.if-m-gt10.false

pub returns-then-row-to : goal.returns-then-row-to
returns-then-row-to c =
    let row = row_is _ _ _ _ _ c.first_row-from.ensures c.first_row-to.ensures c.find_row-row.ensures in
    rw c.from-k.ensures (found _ _ _ _ _ (past_tests c.args.m c.if-m-lt3.false c.if-m-gt10.false) row c.if-row-to.true _ c.ks-ks.ensures c.n_of-n.ensures)

pub returns-else-row-to : goal.returns-else-row-to
returns-else-row-to c =
    let row = row_is _ _ _ _ _ c.first_row-from.ensures c.first_row-to.ensures c.find_row-row.ensures in
    missing _ _ _ _ (past_tests c.args.m c.if-m-lt3.false c.if-m-gt10.false) row c.if-row-to.false
