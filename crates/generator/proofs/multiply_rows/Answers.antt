use native.Mathlib.Omega.{arith}
use mathlib.Core.Path.{◌≡◌, ◌∙◌, ap, subst}
use mathlib.Core.List.{List}
use Prim.Native.Nat.{ℕ, ◌+◌, ◌-◌, ◌≤◌, ◌<◌}
use lib.ListN.{length, get_or, take, drop, length-drop}
use lib.Seq.{get_or-take, get_or-drop, length-take-le}
use Rattle.generator.specs.Minimals.{minimals}
use Rattle.generator.specs.Factors.{product_of}
use Rattle.generator.specs.Work.{Cut}
use Rattle.generator.proofs.Products.{cut_start, cut_next, minimals_long}
use Rattle.generator.proofs.multiply_rows.Goals as goal

rows_long : (from to : ℕ) {table : List ℕ} → table ≡ minimals → to ≤ 232 → length (take (to - from) (drop from table)) ≡ to - from
rows_long from to {table} e h =
    length-take-le (to - from) (drop from table) (omega (arith, ap length e, minimals_long, length-drop from table))

row_at : (from to k : ℕ) {table : List ℕ} → table ≡ minimals → k < to - from
    → get_or (take (to - from) (drop from table)) k 0 ≡ get_or minimals (from + k) 0
row_at from to k {table} e h =
    get_or-take (to - from) (drop from table) k 0 h ∙ get_or-drop from table k 0 ∙ ap (λ (l : List ℕ). get_or l (from + k) 0) e

pub slice_bounds-minimal-items-end : goal.slice_bounds-minimal-items-end
slice_bounds-minimal-items-end c = omega (arith, ap length c.requires.2, minimals_long)

pub loop-minimal-init : goal.loop-minimal-init
loop-minimal-init c = cut_start _ _ _ c.requires.0

pub multiply-requires : goal.multiply-requires
multiply-requires c =
    let v = c.loop-minimal.invariant in
    (v.bits, omega (arith, v.same, c.requires.1))

pub loop-minimal-preserved : goal.loop-minimal-preserved
loop-minimal-preserved c =
    let p = c.requires in
    let at = row_at _ c.args.to c.loop-minimal.minimal-index p.2 (omega (arith, rows_long c.args.from c.args.to p.2 p.4)) in
    cut_next _ _ at c.loop-minimal.invariant c.multiply.ensures c.multiply.auto.g

pub shape_of-g : goal.shape_of-g
shape_of-g c = c.loop-minimal.invariant.same

pub returns : goal.returns
returns c =
    let p = c.requires in
    let whole : c.loop-minimal.minimal-index ≡ c.args.to - c.args.from = omega (arith, rows_long c.args.from c.args.to p.2 p.4) in
    subst (λ (k : ℕ). Cut (product_of c.args.from k) (length c.args.g.now) c.loop-minimal.g) whole c.loop-minimal.invariant
