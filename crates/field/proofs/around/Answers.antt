-- By the test.
use Rattle.field.proofs.Exponents.{around_within, around_past}
use Rattle.field.proofs.around.Goals as goal

pub returns-then-e-n : goal.returns-then-e-n
returns-then-e-n c = around_within c.if-e-n.true

pub returns : goal.returns
returns c = around_past c.requires c.if-e-n.false
