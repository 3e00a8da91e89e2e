-- The loop keeps: from place i on nothing is left.
use Rattle.generator.proofs.Division.{Down}
use Rattle.generator.proofs.reduce.Given as goal

abbrev pub invariant-loop-i : goal.invariant-loop-i
invariant-loop-i l = Down l.d l.g l.initial.word l.word l.i
