use native.Mathlib.Omega.{arith}
use lib.ListN.{length-set}
use Rattle.key.proofs.Squares.{squaring_start, squaring_below, squaring_next, squaring_done}
use Rattle.key.proofs.square_sums.Goals as goal

pub loop-i-init : goal.loop-i-init
loop-i-init c = squaring_start _ _ _ _

pub offset_bounds-sums-i : goal.offset_bounds-sums-i
offset_bounds-sums-i c = omega (arith, c.loop-i.invariant.same)

pub bounds-sums-i : goal.bounds-sums-i
bounds-sums-i c = omega (arith, c.loop-i.invariant.same)

pub overflow_mul-all : goal.overflow_mul-all
overflow_mul-all c = omega (arith, c.loop-i.invariant.same)

pub offset_bounds-all-i : goal.offset_bounds-all-i
offset_bounds-all-i c = omega (arith, c.loop-i.invariant.same)

pub bounds-all-i : goal.bounds-all-i
bounds-all-i c = omega (arith, c.loop-i.invariant.same)

pub offset_bounds-all-i-in-loop-i : goal.offset_bounds-all-i-in-loop-i
offset_bounds-all-i-in-loop-i c = omega (arith, c.loop-i.invariant.same)

pub bounds-all-i-in-loop-i : goal.bounds-all-i-in-loop-i
bounds-all-i-in-loop-i c = simp length-set (omega (arith, c.loop-i.invariant.same))

pub product-square-requires : goal.product-square-requires
product-square-requires c =
    let b = squaring_below c.loop-i.invariant (omega arith) (c.requires.1 _ (omega arith)) c.loop-i.i (omega arith) in
    (b, b)

pub overflow_mul-all-in-loop-i : goal.overflow_mul-all-in-loop-i
overflow_mul-all-in-loop-i c = omega (arith, c.loop-i.invariant.same)

pub overflow_add-all : goal.overflow_add-all
overflow_add-all c = omega (arith, c.loop-i.invariant.same)

pub offset_bounds-all-i-in-loop-i-2 : goal.offset_bounds-all-i-in-loop-i-2
offset_bounds-all-i-in-loop-i-2 c = omega (arith, c.loop-i.invariant.same)

pub bounds-all-i-in-loop-i-2 : goal.bounds-all-i-in-loop-i-2
bounds-all-i-in-loop-i-2 c = simp length-set (omega (arith, c.loop-i.invariant.same))

pub loop-i-preserved : goal.loop-i-preserved
loop-i-preserved c =
    squaring_next c.args.tables.now.hold.listed c.loop-i.invariant (omega arith) c.requires.3
    (c.requires.1 _ (omega arith)) c.product-square.ensures

pub shape_of-all : goal.shape_of-all
shape_of-all c = c.loop-i.invariant.same

pub returns : goal.returns
returns c = squaring_done c.loop-i.invariant (omega arith)
