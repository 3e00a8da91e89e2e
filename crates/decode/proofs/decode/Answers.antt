-- The checks, then the search.
use Rattle.codes.proofs.CheckLaws.{passed_known, passed_checks, on_passed}
use Rattle.decode.proofs.DecodeSteps.{decode_ready}
use Rattle.decode.proofs.decode.Goals as goal

pub mend_received-requires : goal.mend_received-requires
mend_received-requires c =
    let e = c.in_ok-code.was in
    let p = c.checks.ensures in
    decode_ready _ c.args.word.now c.args.list.now (passed_known e p) (passed_checks e p)

pub returns : goal.returns
returns c = on_passed c.in_ok-code.was c.checks.ensures c.mend_received.ensures
