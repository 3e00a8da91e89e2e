use Rattle.std.proofs.Common.{arith, rules}
use Rattle.typed.proofs.SpelledLaws.{spelled_none, spelled_more, spelled_stuck, spelled_all}
use Rattle.typed.proofs.number.Goals as goal

pub loop-byte-init : goal.loop-byte-init
loop-byte-init c = (omega arith, spelled_none _)

pub returns-in_err-value : goal.returns-in_err-value
returns-in_err-value c =
    rw c.from_residual.ensures (spelled_stuck _ _ _ c.loop-byte-test.true c.loop-byte.invariant.1 {most = 18446744073709551615} c.in_err-value.ensures)

pub loop-byte-preserved : goal.loop-byte-preserved
loop-byte-preserved c =
    let w = c.in_ok-value.ensures in
    (omega (arith, w.small), spelled_more _ _ _ c.loop-byte-test.true c.loop-byte.invariant.1 w)

pub returns : goal.returns
returns c = spelled_all _ _ _ c.loop-byte-test.false c.loop-byte.invariant.1 c.loop-byte.invariant.0 (search rules) (omega arith)
