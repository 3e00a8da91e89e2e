-- The loop keeps the value so far below 2^m.
use Prim.Native.Nat.{◌^◌, ◌<◌}
use Rattle.field_cases.proofs.value.Given as goal

abbrev pub invariant-loop-i : goal.invariant-loop-i
invariant-loop-i l = l.sum < 2 ^ l.tables.m
