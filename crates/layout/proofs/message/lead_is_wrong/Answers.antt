use mathlib.Core.Path.{◌∙◌, sym}
use native.Mathlib.Omega.{arith}
use Rattle.layout.proofs.SentLaws.{air_place}
use Rattle.layout.proofs.FieldLaws.{sends_next, lead_right, lead_wrong}
use Rattle.layout.proofs.message.lead_is_wrong.Goals as goal

pub loop-number-init : goal.loop-number-init
loop-number-init c = record { at = λ q h. absurd (omega arith) }

pub returns-then-air_bit-lead_bit : goal.returns-then-air_bit-lead_bit
returns-then-air_bit-lead_bit c =
    let bit = c.air_bit.ensures ∙ air_place _ (omega arith) in
    sym (lead_wrong _ c.loop-number.number (omega arith) (λ e. c.if-air_bit-lead_bit.true (bit ∙ e ∙ sym c.lead_bit.ensures)))

pub loop-number-preserved : goal.loop-number-preserved
loop-number-preserved c =
    let bit = c.air_bit.ensures ∙ air_place _ (omega arith) in
    sends_next c.loop-number.invariant (sym bit ∙ c.if-air_bit-lead_bit.false ∙ c.lead_bit.ensures)

pub returns : goal.returns
returns c = sym (lead_right _ (record { at = λ q h. c.loop-number.invariant.at q (omega arith) }))
