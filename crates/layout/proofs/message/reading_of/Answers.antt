-- Each field is the number that its bits send.
use Rattle.layout.proofs.FieldLaws.{carried}
use Rattle.layout.proofs.message.reading_of.Goals as goal

pub returns : goal.returns
returns c = carried c.requires.2 c.gather-house.ensures c.gather-poll.ensures c.gather-counter.ensures
