-- The rows of m up to this one make the generator.
use mathlib.Core.Path.{◌≡◌, ◌∙◌, refl}
use mathlib.Core.List.{List}
use Prim.Native.Nat.{ℕ, ◌+◌, ◌-◌, ◌≤◌}
use native.Mathlib.Omega.{arith}
use lib.ListN.{length, get_or}
use Rattle.field.specs.Power.{n_of}
use Rattle.field.proofs.Range.{sizes}
use Rattle.codes.specs.Table.{ks, first}
use Rattle.codes.specs.Rows.{RowOf}
use Rattle.codes.proofs.LookLaws.{rows_within}
use Rattle.generator.specs.Work.{Cut}
use Rattle.generator.proofs.Products.{generated}
use Rattle.generator.proofs.fill_generator.Goals as goal

-- the same buffer, its length written as it is
lengthened : {p buffer : List ℕ} {n : ℕ} → Cut p n buffer → Cut p (length buffer) buffer
lengthened s = record { bits = s.bits; same = refl; holds = λ i h. s.holds i (omega (arith, s.same)) }

small : (m row n : ℕ) → RowOf m row → n ≡ n_of m - get_or ks row 0 + 1 → n ≤ 1024
small m row n w e = let s = sizes w.listed in omega arith

rows : (m row from : ℕ) → RowOf m row → from ≡ first m → (from ≤ row) × (row + 1 ≤ 232)
rows m row from w e =
    let l = rows_within w.listed in
    let a = w.from in
    let b = w.below in
    (omega arith, omega arith)

pub overflow_add-row : goal.overflow_add-row
overflow_add-row c =
    let r = rows_within c.requires.0.listed in
    let b = c.requires.0.below in
    omega arith

pub multiply_rows-requires : goal.multiply_rows-requires
multiply_rows-requires c =
    let w = c.requires in
    let o = c.set_one.ensures in
    let r = rows _ _ _ w.0 c.first_row-from.ensures in
    (lengthened o, omega (arith, o.same, small _ _ _ w.0 w.1), c.minimals-minimals.ensures, omega arith, omega arith)

pub returns : goal.returns
returns c =
    let w = c.requires in
    generated w.0 c.first_row-from.ensures (c.set_one.ensures.same ∙ w.1) c.multiply_rows.ensures
