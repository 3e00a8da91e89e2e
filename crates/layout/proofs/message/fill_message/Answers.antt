use native.Mathlib.Omega.{arith}
use Rattle.layout.specs.Frame.{message_bit, message_of}
use Rattle.bits.proofs.Lists.{list_is}
use Rattle.layout.proofs.FillLaws.{fill_start, fill_next, fill_done}
use Rattle.layout.proofs.message.fill_message.Goals as goal

pub loop-i-init : goal.loop-i-init
loop-i-init c = fill_start _ c.requires

pub loop-i-preserved : goal.loop-i-preserved
loop-i-preserved c = fill_next c.loop-i.invariant (omega arith) c.message_bit.ensures

pub returns : goal.returns
unfolding message_of
returns c = let f = c.loop-i.invariant in list_is 99 (message_bit _) _ f.long (fill_done f (omega arith))
