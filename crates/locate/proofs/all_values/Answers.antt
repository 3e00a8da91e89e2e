use mathlib.Core.List.{List, ◌++◌}
use mathlib.Core.Path.{◌≡◌, ◌∙◌, sym}
use Prim.Native.Nat.{ℕ, ◌≤◌}
use native.Mathlib.Omega.{arith}
use lib.Seq.{length-take-le}
use Rattle.std.proofs.Common.{rules}
use lib.ListN.{length, take, drop, replicate}
use Rattle.field.specs.Power.{n_of}
use Rattle.entries.specs.Entries.{Filled, nothing}
use Rattle.entries.proofs.FillLaws.{fill_clear}
use Rattle.locate.proofs.TrialLaws.{valuing_start, valuing_next, valuing_done}
use Rattle.locate.proofs.all_values.Goals as goal

-- the first n values are 0
cleared : (m : ℕ) {n : ℕ} (xs front : List ℕ) → n_of m ≤ length xs → n ≡ n_of m → front ≡ replicate (length (take n xs)) 0
    → Filled nothing n xs (front ++ drop n xs)
cleared m xs front h e z = fill_clear front (omega arith) z

pub n_of-n-requires : goal.n_of-n-requires
n_of-n-requires c = c.args.tables.now.hold.listed

pub slice_bounds-fill-end : goal.slice_bounds-fill-end
slice_bounds-fill-end c = omega (arith, c.requires.1, c.n_of-n.ensures)

pub slice_bounds-fill-end-2 : goal.slice_bounds-fill-end-2
slice_bounds-fill-end-2 c = sym (length-take-le _ c.args.values.now (omega (arith, c.requires.1, c.n_of-n.ensures)))

pub loop-j-init : goal.loop-j-init
loop-j-init c =
    valuing_start _ _ c.n_of-n.ensures (cleared c.args.tables.now.m c.args.values.now c.fill.new.self c.requires.1 c.n_of-n.ensures (search rules))

pub add_term-requires : goal.add_term-requires
add_term-requires c =
    let z = cleared c.args.tables.now.m c.args.values.now c.fill.new.self c.requires.1 c.n_of-n.ensures (search rules) in
    (c.requires.0 _ c.loop-j-test.true, omega (arith, c.requires.1, c.loop-j.invariant.filled.same, z.same))

pub loop-j-preserved : goal.loop-j-preserved
loop-j-preserved c =
    valuing_next c.args.tables.now.hold.listed c.loop-j.invariant c.loop-j-test.true
    (c.requires.0 _ c.loop-j-test.true) c.add_term.ensures

pub shape_of-values : goal.shape_of-values
shape_of-values c =
    let z = cleared c.args.tables.now.m c.args.values.now c.fill.new.self c.requires.1 c.n_of-n.ensures (search rules) in
    c.loop-j.invariant.filled.same ∙ z.same

pub returns : goal.returns
returns c =
    let z = cleared c.args.tables.now.m c.args.values.now c.fill.new.self c.requires.1 c.n_of-n.ensures (search rules) in
    valuing_done c.n_of-n.ensures z c.loop-j.invariant c.loop-j-test.false
