-- The loop keeps: the entries before i are mended.
use Rattle.key.proofs.MendLaws.{Mending}
use Rattle.key.proofs.mend.Given as goal

abbrev pub invariant-loop-i : goal.invariant-loop-i
invariant-loop-i l = Mending l.tables.m l.factor l.gap l.count l.b l.initial.sigma l.sigma l.i
