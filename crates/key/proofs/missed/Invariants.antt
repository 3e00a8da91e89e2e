-- The loop keeps: the products before i are added.
use Rattle.key.proofs.MendLaws.{Crossing}
use Rattle.key.proofs.missed.Given as goal

abbrev pub invariant-loop-i : goal.invariant-loop-i
invariant-loop-i l = Crossing l.tables.m l.r l.l l.sigma l.all l.d l.i
