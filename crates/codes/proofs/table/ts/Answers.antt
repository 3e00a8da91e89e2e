-- The constant is the definition's list.
use mathlib.Core.Path.{refl}
use Rattle.codes.specs.Table.{ts, listed_codes}
use Rattle.codes.proofs.table.ts.Goals as goal

pub returns : goal.returns
unfolding ts listed_codes
returns c = refl
