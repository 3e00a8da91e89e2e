-- What is lent stays as long as it was, and the lent fronts stay within it.
use Rattle.std.proofs.Common.{length, ◌≡◌, ◌≤◌}
use Rattle.cases.proofs.running.run_lines.Given as goal

abbrev pub invariant-loop-i : goal.invariant-loop-i
invariant-loop-i l = (length l.word ≡ length l.initial.word) × (length l.stretch ≡ length l.initial.stretch)
    × (l.bench.word ≤ length l.word) × (l.bench.stretch ≤ length l.stretch)
