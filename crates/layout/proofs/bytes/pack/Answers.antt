use native.Mathlib.Omega.{arith}
use Rattle.layout.proofs.FillLaws.{fill_start, fill_next}
use Rattle.layout.proofs.PackLaws.{packed}
use Rattle.layout.proofs.bytes.pack.Goals as goal

pub loop-b-init : goal.loop-b-init
loop-b-init c = fill_start _ c.requires.2

pub overflow_cast-byte : goal.overflow_cast-byte
overflow_cast-byte c = omega (arith, c.gather.ensures.digits.below)

pub loop-b-preserved : goal.loop-b-preserved
loop-b-preserved c = fill_next c.loop-b.invariant (omega arith) c.gather.ensures

pub returns : goal.returns
returns c = packed c.requires.1 c.loop-b.invariant (omega arith)
