-- The shift gives 2^m, since m is at most 10.
use mathlib.Core.Path.{ap}
use Prim.Native.Nat.{ℕ, ◌-◌}
use native.Mathlib.Omega.{arith}
use Rattle.field.proofs.Range.{sizes, one_shifted}
use Rattle.field.proofs.n_of.Goals as goal

pub overflow_sub-result : goal.overflow_sub-result
overflow_sub-result c = let s = sizes c.requires in let e = one_shifted c.requires in omega arith

pub returns : goal.returns
returns c = ap (λ (x : ℕ). x - 1) (one_shifted c.requires)
