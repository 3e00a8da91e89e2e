-- A remainder is below its divisor.
use native.Mathlib.Nat.{mod-lt}
use Rattle.every_code.proofs.made_up.below.Goals as goal

pub returns : goal.returns
returns c = mod-lt _ c.requires
