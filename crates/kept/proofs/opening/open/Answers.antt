-- The checks, then the record.
use Rattle.kept.proofs.OpenLaws.{checked_ready}
use Rattle.kept.proofs.opening.open.Goals as goal

pub opened-requires : goal.opened-requires
opened-requires c = checked_ready c.in_ok-code.was c.checks.ensures
