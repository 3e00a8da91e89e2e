-- The checks, then the work.
use Rattle.codes.proofs.CheckLaws.{passed_known, passed_checks}
use Rattle.splice.proofs.SpliceLaws.{splice_ready}
use Rattle.splice.proofs.splice.Goals as goal

pub spliced-requires : goal.spliced-requires
spliced-requires c =
    let e = c.in_ok-code.was in
    let p = c.checks.ensures in
    splice_ready _ _ _ (passed_known e p) (passed_checks e p)
