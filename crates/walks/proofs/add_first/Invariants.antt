-- The loop keeps: the powers for the entries before j are added, and e is the next exponent.
use Rattle.walks.specs.Multiples.{Walked}
use Rattle.walks.proofs.add_first.Given as goal

abbrev pub invariant-loop-j : goal.invariant-loop-j
invariant-loop-j l = Walked l.m l.from l.step 0 l.j l.initial.entries l.e l.entries
