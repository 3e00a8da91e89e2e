-- What is left falls with each read, and what was read so far gave what was written so far.
use mathlib.Core.Path.{◌≡◌}
use lib.ListN.{length}
use Rattle.maker.specs.Work.{Going}
use Rattle.maker.proofs.make_frames.Given as goal

abbrev pub invariant-loop-left : goal.invariant-loop-left
invariant-loop-left g l = Going l.maker.at l.left l.maker.line × (length l.block ≡ 1000)

abbrev pub decreases-loop-left : goal.decreases-loop-left
decreases-loop-left g l = l.left
