-- The loop keeps: the digits so far, highest first.
use Rattle.layout.specs.Work.{Digits, sent_from}
use Rattle.layout.proofs.places.gather.Given as goal

abbrev pub invariant-loop-i : goal.invariant-loop-i
invariant-loop-i l = Digits (sent_from l.word l.from.number) l.i l.v
