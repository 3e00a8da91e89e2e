-- The loop fills the frame byte by byte.
use Rattle.layout.proofs.FillLaws.{Filling}
use Rattle.layout.proofs.PackLaws.{ByteOf}
use Rattle.layout.proofs.bytes.pack.Given as goal

abbrev pub invariant-loop-b : goal.invariant-loop-b
invariant-loop-b l = Filling (ByteOf l.word) 32 l.frame l.b
