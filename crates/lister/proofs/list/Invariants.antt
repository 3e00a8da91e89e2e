-- Every byte read is in a frame that is listed, or held, so that the bytes left tell how many frames there may still be.
use Rattle.lister.specs.Work.{Going}
use Rattle.lister.proofs.list.Given as goal

abbrev pub invariant-loop-left : goal.invariant-loop-left
invariant-loop-left g l = Going l.lister.at l.left l.lister.frames

abbrev pub decreases-loop-left : goal.decreases-loop-left
decreases-loop-left g l = l.left
