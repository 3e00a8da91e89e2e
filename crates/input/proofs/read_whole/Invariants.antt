-- The loop keeps: what came is within the buffer.
use Rattle.std.proofs.Common.{◌-◌, ◌≡◌, ◌≤◌, length}
use Rattle.input.specs.Reads.{ReadsOn}
use Rattle.input.proofs.read_whole.Given as goal

abbrev pub invariant-loop-held : goal.invariant-loop-held
invariant-loop-held g l =
    ReadsOn l.initial.buffer l.held l.buffer × (l.room ≡ length l.buffer) × (length l.buffer ≡ length l.initial.buffer) × (l.held ≤ l.room)

abbrev pub decreases-loop-held : goal.decreases-loop-held
decreases-loop-held g l = l.room - l.held
