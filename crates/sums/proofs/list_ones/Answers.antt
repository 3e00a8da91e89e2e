use native.Mathlib.Omega.{arith}
use Rattle.sums.proofs.SumSteps.{listing_start, listing_next, listing_done}
use Rattle.sums.proofs.list_ones.Goals as goal

pub loop-i-init : goal.loop-i-init
loop-i-init c = listing_start _ _

pub overflow_cast-places : goal.overflow_cast-places
overflow_cast-places c = omega (arith, c.requires.1)

pub offset_bounds-places-count : goal.offset_bounds-places-count
offset_bounds-places-count c = omega (arith, c.loop-i.invariant.fewer, c.requires.1)

pub bounds-places-count : goal.bounds-places-count
bounds-places-count c = omega (arith, c.loop-i.invariant.fewer, c.loop-i.invariant.long, c.requires.1, c.requires.2)

pub overflow_add-count : goal.overflow_add-count
overflow_add-count c =
    omega (arith, c.from-count.ensures, c.requires.0.at c.loop-i.i, c.loop-i.invariant.fewer, c.requires.1)

pub loop-i-preserved : goal.loop-i-preserved
loop-i-preserved c =
    rw c.from-count.ensures
    (listing_next c.requires.0 c.loop-i.invariant (omega arith)
    (omega (arith, c.loop-i.invariant.long, c.requires.1, c.requires.2)))

pub shape_of-places : goal.shape_of-places
shape_of-places c = c.loop-i.invariant.long

pub returns : goal.returns
returns c = listing_done c.loop-i.invariant (omega arith) (omega (arith, c.requires.1, c.requires.2))
