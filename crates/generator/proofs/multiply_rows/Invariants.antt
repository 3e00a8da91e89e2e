-- The loop keeps: the minimal polynomials so far are worked in.
use lib.ListN.{length}
use Rattle.generator.specs.Factors.{product_of}
use Rattle.generator.specs.Work.{Cut}
use Rattle.generator.proofs.multiply_rows.Given as goal

abbrev pub invariant-loop-minimal : goal.invariant-loop-minimal
invariant-loop-minimal l = Cut (product_of l.from l.minimal-index) (length l.initial.g) l.g
