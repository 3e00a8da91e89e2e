use native.Mathlib.Omega.{arith}
use Rattle.key.proofs.MendLaws.{mending_start, mending_next, mending_done}
use Rattle.key.proofs.mend.Goals as goal

pub loop-i-init : goal.loop-i-init
loop-i-init c = mending_start _ _ _ _ _ _

pub overflow_sub-i : goal.overflow_sub-i
overflow_sub-i c = omega (arith, c.loop-i.invariant.from, c.loop-i.invariant.filled.same)

pub offset_bounds-b-i : goal.offset_bounds-b-i
offset_bounds-b-i c = omega (arith, c.loop-i.invariant.from, c.loop-i.invariant.filled.same)

pub bounds-b-i : goal.bounds-b-i
bounds-b-i c = omega (arith, c.loop-i.invariant.from, c.loop-i.invariant.filled.same)

pub product-requires : goal.product-requires
product-requires c =
    (c.requires.0, c.requires.3 _ (omega arith))

pub offset_bounds-sigma-i : goal.offset_bounds-sigma-i
offset_bounds-sigma-i c = omega (arith, c.loop-i.invariant.from, c.loop-i.invariant.filled.same)

pub bounds-sigma-i : goal.bounds-sigma-i
bounds-sigma-i c = omega (arith, c.loop-i.invariant.from, c.loop-i.invariant.filled.same)

pub bounds-sigma-i-in-loop-i : goal.bounds-sigma-i-in-loop-i
bounds-sigma-i-in-loop-i c = omega (arith, c.loop-i.invariant.from, c.loop-i.invariant.filled.same)

pub loop-i-preserved : goal.loop-i-preserved
loop-i-preserved c =
    mending_next c.loop-i.invariant (omega arith) c.requires.2 c.product.ensures

pub shape_of-sigma : goal.shape_of-sigma
shape_of-sigma c = c.loop-i.invariant.filled.same

pub returns : goal.returns
returns c = mending_done c.loop-i.invariant (omega arith)
