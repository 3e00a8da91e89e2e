-- The constant is the definition's list.
use mathlib.Core.Path.{refl}
use Rattle.codes.specs.Table.{ks, listed_codes}
use Rattle.codes.proofs.table.ks.Goals as goal

pub returns : goal.returns
unfolding ks listed_codes
returns c = refl
