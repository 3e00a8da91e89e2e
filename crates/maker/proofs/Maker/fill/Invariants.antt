-- The loop keeps: what the bytes passed give stands in the buffers.
use lib.ListN.{take}
use Rattle.maker.specs.Work.{Steps}
use Rattle.maker.proofs.Maker.fill.Given as goal

abbrev pub invariant-loop-byte : goal.invariant-loop-byte
invariant-loop-byte l =
    Steps l.initial.self.at l.initial.self.line (take l.byte-index l.bytes) l.initial.self.frames l.initial.self.names
    l.self.at l.self.line l.self.frames l.self.names
