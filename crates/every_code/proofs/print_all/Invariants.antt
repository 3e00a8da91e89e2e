-- At most as many codes are listed as pairs were passed.
use Rattle.std.proofs.Common.{◌≤◌}
use Rattle.every_code.proofs.print_all.Given as goal

abbrev pub invariant-loop-pair : goal.invariant-loop-pair
invariant-loop-pair l = l.listed ≤ l.pair
