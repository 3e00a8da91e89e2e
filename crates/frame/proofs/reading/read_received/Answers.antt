-- Unpacked, decoded, and what Decode found decides.
use mathlib.Core.Path.{refl}
use Rattle.std.proofs.lemmas.Result.{err_from_is_err_and}
use Rattle.frame.proofs.ReadLaws.{mended, read_near, read_far}
use Rattle.frame.proofs.reading.read_received.Goals as goal

pub returns-in_err-wrong : goal.returns-in_err-wrong
returns-in_err-wrong c =
    let p = err_from_is_err_and c.from_residual.result c.from_residual.ensures.1 in
    rw (p.1, p.2) (read_far c.args.frame.now _ c.unpack.ensures refl refl c.decode.ensures c.in_err-wrong.was)

pub read_word-requires : goal.read_word-requires
read_word-requires c =
    let m = mended c.args.frame.now _ c.unpack.ensures refl refl c.decode.ensures c.in_ok-wrong.was in
    (m.code_word.bits, m.code_word.long)

pub returns : goal.returns
returns c = read_near c.args.frame.now _ c.unpack.ensures refl refl c.decode.ensures c.in_ok-wrong.was c.read_word.ensures
