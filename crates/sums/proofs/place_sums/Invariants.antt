-- The loop keeps: the places so far are added.
use Rattle.sums.proofs.SumSteps.{Placing}
use Rattle.sums.proofs.place_sums.Given as goal

abbrev pub invariant-loop-place : goal.invariant-loop-place
invariant-loop-place l = Placing l.m l.t l.places l.initial.sums l.sums l.place-index
