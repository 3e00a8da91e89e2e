-- The loop keeps: the digits below e are worked in.
use Rattle.generator.proofs.Taps.{Taps}
use Rattle.generator.proofs.add_taps.Given as goal

abbrev pub invariant-loop-e : goal.invariant-loop-e
invariant-loop-e l = Taps l.p l.old l.g l.e
