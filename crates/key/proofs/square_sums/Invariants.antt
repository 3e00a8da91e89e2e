-- The loop keeps: the sums before place 2i are there, and each S_2j among them is the square of S_j.
use Rattle.key.proofs.Squares.{Squaring}
use Rattle.key.proofs.square_sums.Given as goal

abbrev pub invariant-loop-i : goal.invariant-loop-i
invariant-loop-i l = Squaring l.tables.m l.t l.sums l.initial.all l.all l.i
