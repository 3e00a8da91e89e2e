-- The loop keeps: the bytes passed are digits and the number is theirs.
use Rattle.std.proofs.Common.{◌<◌, ◌^◌}
use Rattle.typed.specs.Work.{SpelledTo}
use Rattle.typed.proofs.number.Given as goal

abbrev pub invariant-loop-byte : goal.invariant-loop-byte
invariant-loop-byte l = (l.value < 2 ^ 64) × SpelledTo l.text l.byte-index l.value
