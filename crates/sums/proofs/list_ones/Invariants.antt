-- The loop keeps: the ones among the places before i are written down.
use Rattle.sums.proofs.SumSteps.{Listing}
use Rattle.sums.proofs.list_ones.Given as goal

abbrev pub invariant-loop-i : goal.invariant-loop-i
invariant-loop-i l = Listing l.word l.initial.places l.places l.count l.i
