-- The exponent falls at each call.
use Rattle.field.proofs.+power.Given as goal

abbrev pub decreases-power : goal.decreases-power
decreases-power l = l.e
