-- The loop keeps: the places below i are tried, and the zeros among them are written down.
use lib.ListN.{length}
use Rattle.locate.proofs.TrialLaws.{Trying}
use Rattle.locate.proofs.try_all.Given as goal

abbrev pub invariant-loop-i : goal.invariant-loop-i
invariant-loop-i l = Trying l.tables.m l.t l.sigma (length l.sigma) l.n l.initial.places l.places l.found l.i
