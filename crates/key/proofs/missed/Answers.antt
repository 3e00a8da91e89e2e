use native.Mathlib.Omega.{arith}
use Rattle.key.proofs.MendLaws.{crossing_start, crossing_next, crossing_done}
use Rattle.key.proofs.missed.Goals as goal

pub loop-i-init : goal.loop-i-init
loop-i-init c = crossing_start _ _ _ _ _

pub product-d-requires : goal.product-d-requires
product-d-requires c =
    (c.requires.3 _ (omega arith), c.requires.4 _ (omega arith))

pub loop-i-preserved : goal.loop-i-preserved
loop-i-preserved c = crossing_next c.loop-i.invariant (omega arith) c.product-d.ensures

pub returns : goal.returns
returns c = crossing_done c.loop-i.invariant (omega arith)

-- after the last product
pub returns-2 : goal.returns-2
returns-2 c = crossing_done (crossing_next c.loop-i.invariant (omega arith) c.product-d.ensures) (omega arith)
