-- The constant is the definition's list.
use mathlib.Core.Path.{refl}
use Rattle.generator.specs.Minimals.{minimals}
use Rattle.generator.proofs.table.minimals.Goals as goal

pub returns : goal.returns
unfolding minimals
returns c = refl
