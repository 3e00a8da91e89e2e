-- The loop keeps: the terms before j are added.
use lib.ListN.{length}
use Rattle.locate.proofs.TrialLaws.{Valuing}
use Rattle.locate.proofs.all_values.Given as goal

abbrev pub invariant-loop-j : goal.invariant-loop-j
invariant-loop-j l = Valuing l.tables.m l.sigma (length l.sigma) l.initial.values l.values l.j
