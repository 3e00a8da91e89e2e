use native.Mathlib.Omega.{arith}
use Rattle.walks.proofs.Walks.{walked_start, walked_next, walked_to, walked_by}
use Rattle.walks.proofs.add_first.Goals as goal

pub n_of-n-requires : goal.n_of-n-requires
n_of-n-requires c = c.requires.0

pub loop-j-init : goal.loop-j-init
loop-j-init c = walked_start _ _ _ c.requires.2

pub add_at-requires : goal.add_at-requires
add_at-requires c =
    (omega (arith, c.requires.1.long, c.loop-j.invariant.below), omega (arith, c.requires.4, c.loop-j.invariant.added.same))

pub overflow_add-e : goal.overflow_add-e
overflow_add-e c = omega (arith, c.loop-j.invariant.below)

pub around-e-requires : goal.around-e-requires
around-e-requires c =
    omega (arith, c.loop-j.invariant.below, c.n_of-n.ensures)

pub loop-j-preserved : goal.loop-j-preserved
loop-j-preserved c =
    walked_by c.add_at.ensures
    (walked_next c.requires.0 c.loop-j.invariant c.n_of-n.ensures (omega arith) (omega (arith, c.requires.4))
    (c.requires.1.holds _ (omega (arith, c.loop-j.invariant.below))) c.around-e.ensures)

pub shape_of-entries : goal.shape_of-entries
shape_of-entries c = c.loop-j.invariant.added.same

pub returns : goal.returns
returns c = walked_to c.loop-j.invariant (omega arith)
