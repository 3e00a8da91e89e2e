use native.Mathlib.Omega.{arith}
use Rattle.lister.proofs.ListLaws.{going_first, going_on}
use Rattle.lister.proofs.list.Goals as goal

pub loop-left-init : goal.loop-left-init
loop-left-init g c = let new = c.new-lister.ensures in going_first _ _ new.0 new.1

pub loop-left-preserved : goal.loop-left-preserved
loop-left-preserved g c = going_on c.loop-left.invariant c.in-Ok.ensures c.take_in.ensures (omega arith)
