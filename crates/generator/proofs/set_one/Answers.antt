-- A cleared buffer with 1 at place 0.
use mathlib.Core.Path.{ap}
use mathlib.Core.List.{List}
use Prim.Native.Nat.{ℕ}
use lib.ListN.{set}
use Rattle.generator.proofs.Products.{cut_one}
use Rattle.generator.proofs.set_one.Goals as goal

pub returns : goal.returns
returns c = cut_one _ _ c.requires (ap (λ (l : List ℕ). set l 0 1) c.clear.ensures)
