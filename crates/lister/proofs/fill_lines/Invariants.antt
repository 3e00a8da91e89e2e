-- The loop keeps: the lines of the frames that were cut off are stored.
use Rattle.std.proofs.Common.{◌≡◌}
use Rattle.lister.proofs.ListLaws.{Chunked}
use Rattle.lister.proofs.fill_lines.Given as goal

abbrev pub invariant-loop-frame : goal.invariant-loop-frame
invariant-loop-frame l = Chunked l.before l.frames l.initial.lines l.lines l.number l.end l.frame-iterator.rest.now × (l.frame-iterator.size ≡ 32)
