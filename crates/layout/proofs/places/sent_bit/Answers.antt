-- Shifting the byte down brings the bit to the front.
use mathlib.Core.Path.{sym}
use Rattle.layout.proofs.SentLaws.{sent_shifted}
use Rattle.layout.proofs.places.sent_bit.Goals as goal

pub returns : goal.returns
returns c = sym (sent_shifted _ _)
