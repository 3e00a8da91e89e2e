-- The checks, then the generator.
use Rattle.sheet.proofs.VerdictLaws.{always}
use Rattle.codes.proofs.CheckLaws.{passed_known, passed_checks, on_passed}
use Rattle.codec.proofs.DescribeLaws.{describe_ready, described}
use Rattle.codec.proofs.describing.describe.Goals as goal

pub fill_generator-requires : goal.fill_generator-requires
fill_generator-requires c =
    let e = c.in_ok-code.was in
    let p = c.checks.ensures in
    describe_ready c.args.generator.now (passed_known e p) (passed_checks e p)

pub returns : goal.returns
returns c =
    let e = c.in_ok-code.was in
    let p = c.checks.ensures in
    on_passed e p (always (described (passed_known e p) c.fill_generator.ensures))
