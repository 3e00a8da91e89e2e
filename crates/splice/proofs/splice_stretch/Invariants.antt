-- The loop keeps: the first i places of the stretch are put in, and the sums are brought up to date.
use Rattle.splice.specs.Work.{StretchSpliced}
use Rattle.splice.proofs.splice_stretch.Given as goal

abbrev pub invariant-loop-i : goal.invariant-loop-i
invariant-loop-i l = StretchSpliced l.powers.m l.t l.start l.stretch l.initial.bits l.initial.sums l.bits l.sums l.i
