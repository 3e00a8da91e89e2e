-- Where no sum is wrong no place is.
use Rattle.entries.proofs.LookLaws.{front_zero}
use Rattle.locate.proofs.FindLaws.{none_wrong}
use Rattle.locate.proofs.locate.Goals as goal

pub returns-then-all_zero : goal.returns-then-all_zero
returns-then-all_zero c = record { tells = none_wrong (front_zero c.args.sums.now c.requires.1 c.all_zero.ensures) c.if-all_zero.true }
