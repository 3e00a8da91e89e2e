-- The message on top, what is left of it after division below.
use mathlib.Core.Path.{◌∙◌}
use native.Mathlib.Omega.{arith}
use Rattle.parity.proofs.Parity.{encoded}
use Rattle.parity.proofs.Placed.{placed}
use Rattle.parity.proofs.fill_word.Goals as goal

pub add_parity-requires : goal.add_parity-requires
add_parity-requires c =
    let g = c.generator-g.ensures.0 in
    let w = placed c.args.word.now c.requires.0 c.requires.1 c.place_message.ensures in
    record { word_bits = w.bits; g_bits = g.bits; g_long = g.long; g_top = g.top; small = w.small; fits = omega (arith, w.long) }

pub returns : goal.returns
returns c =
    let w = placed c.args.word.now c.requires.0 c.requires.1 c.place_message.ensures in
    encoded c.requires.0 w.is c.generator-g.ensures.0 c.add_parity.ensures (c.add_parity.auto.word ∙ w.long)
