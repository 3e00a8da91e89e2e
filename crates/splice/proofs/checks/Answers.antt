use Rattle.codes.proofs.CheckLaws.{passed_known}
use Rattle.splice.proofs.checks.Goals as goal

pub is_bad-requires : goal.is_bad-requires
is_bad-requires c = passed_known c.in_ok-code.was c.look_up.ensures
