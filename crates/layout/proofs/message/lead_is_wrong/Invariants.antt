-- The loop keeps: below `number` each bit of the lead was sent.
use Rattle.layout.proofs.FieldLaws.{SendsLead}
use Rattle.layout.proofs.message.lead_is_wrong.Given as goal

abbrev pub invariant-loop-number : goal.invariant-loop-number
invariant-loop-number l = SendsLead l.word l.number
