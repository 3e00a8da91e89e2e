-- The checks, then the word.
use Rattle.codes.proofs.CheckLaws.{passed_known, passed_checks}
use Rattle.codec.proofs.EncodeLaws.{encode_ready}
use Rattle.codec.proofs.encoding.encode.Goals as goal

pub fill_word-requires : goal.fill_word-requires
fill_word-requires c =
    let e = c.in_ok-code.was in
    let p = c.checks.ensures in
    encode_ready _ c.args.word.now (passed_known e p) (passed_checks e p)
