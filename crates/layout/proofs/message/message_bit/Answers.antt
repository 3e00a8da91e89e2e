-- By the field in which the place stands.
use mathlib.Core.Path.{◌∙◌, sym}
use native.Mathlib.Omega.{arith}
use Rattle.layout.proofs.MessageLaws.{message_counter, message_poll, message_house, message_lead}
use Rattle.layout.proofs.message.message_bit.Goals as goal

pub returns-in-0-to-63 : goal.returns-in-0-to-63
returns-in-0-to-63 c = sym (message_counter _ (omega arith))

pub returns-in-64-to-79 : goal.returns-in-64-to-79
returns-in-64-to-79 c = sym (message_poll _ (omega arith) (omega arith))

pub returns-in-80-to-95 : goal.returns-in-80-to-95
returns-in-80-to-95 c = sym (message_house _ (omega arith) (omega arith))

pub returns-in_default : goal.returns-in_default
returns-in_default c = c.lead_bit.ensures ∙ sym (message_lead _ (omega arith))
