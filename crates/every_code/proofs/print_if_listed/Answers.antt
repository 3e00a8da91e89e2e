-- A code that is looked up and found is known.
use Rattle.codes.proofs.CheckLaws.{passed_known}
use Rattle.every_code.proofs.print_if_listed.Goals as goal

pub invariant_of-print_code : goal.invariant_of-print_code
invariant_of-print_code c = record { known = passed_known c.in-Ok.is c.look_up.ensures }
