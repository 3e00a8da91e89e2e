-- The checks, then the search.
use Rattle.codes.proofs.CheckLaws.{passed_known, passed_checks, on_passed}
use Rattle.decode_kept.proofs.DecodeKeptLaws.{decode_kept_ready}
use Rattle.decode_kept.proofs.decode_kept.Goals as goal

pub mend_stored-requires : goal.mend_stored-requires
mend_stored-requires c =
    let e = c.in_ok-code.was in
    let p = c.checks.ensures in
    decode_kept_ready _ c.args.word.now c.args.list.now (passed_known e p) (passed_checks e p)

pub returns : goal.returns
returns c = on_passed c.in_ok-code.was c.checks.ensures c.mend_stored.ensures
