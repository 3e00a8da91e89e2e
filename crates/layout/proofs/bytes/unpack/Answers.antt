use native.Mathlib.Omega.{arith}
use mathlib.Core.Path.{◌∙◌, ap}
use Rattle.layout.specs.Frame.{sent_bit, place_bit, word_of}
use Rattle.bits.proofs.Lists.{list_is}
use Rattle.layout.proofs.FillLaws.{fill_start, fill_next, fill_done}
use Rattle.layout.proofs.bytes.unpack.Goals as goal

pub loop-number-init : goal.loop-number-init
loop-number-init c = fill_start _ c.requires.1

pub loop-number-preserved : goal.loop-number-preserved
unfolding place_bit
loop-number-preserved c =
    fill_next c.loop-number.invariant (omega arith)
    (c.sent_bit.ensures ∙ ap (sent_bit c.args.frame.now) c.sent_of.ensures)

pub returns : goal.returns
unfolding word_of
returns c = let f = c.loop-number.invariant in list_is 255 (place_bit _) _ f.long (fill_done f (omega arith))
