-- The stretch, and then the old bits, added into zeros.
use mathlib.Core.Path.{refl}
use Rattle.parity.proofs.Changes.{message_changed}
use Rattle.parity.proofs.message_change.Goals as goal

pub returns : goal.returns
returns c =
    let p = c.requires in
    message_changed p.in_word p.in_room p.word_bits p.stretch_bits refl c.add_at.ensures
    c.add_at-2.ensures
