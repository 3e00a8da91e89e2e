-- No more numbers were found than there is room for.
use Rattle.std.proofs.Common.{length, ◌≤◌}
use Rattle.commands.proofs.numbers.fill_numbers.Given as goal

abbrev pub invariant-loop-digits : goal.invariant-loop-digits
invariant-loop-digits l = l.count ≤ length l.numbers
