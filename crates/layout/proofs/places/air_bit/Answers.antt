-- The place, or the pad.
use mathlib.Core.Path.{◌∙◌, sym, ap}
use Prim.Native.Nat.{ℕ}
use lib.ListN.{get_or}
use Rattle.layout.proofs.SentLaws.{air_place, air_pad}
use Rattle.layout.proofs.places.air_bit.Goals as goal

pub returns-then-sent-lt255 : goal.returns-then-sent-lt255
returns-then-sent-lt255 c =
    ap (λ (p : ℕ). get_or c.args.word.now p 0) c.place_of.ensures ∙ sym (air_place _ c.if-sent-lt255.true)

pub returns-else-sent-lt255 : goal.returns-else-sent-lt255
returns-else-sent-lt255 c = sym (air_pad _ c.if-sent-lt255.false)
