-- The lead as the definition has it.
use borrow.Author.Rules.{rules}
use Rattle.layout.specs.Frame.{lead}
use Rattle.layout.proofs.message.lead_bit.Goals as goal

pub returns : goal.returns
unfolding lead
returns c = search rules
