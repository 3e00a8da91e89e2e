-- The exponent is 2^m - 2.
use mathlib.Core.Path.{◌≡◌, ◌∙◌}
use Prim.Native.Nat.{ℕ, ◌-◌, ◌^◌}
use native.Mathlib.Omega.{arith}
use Rattle.field.specs.Power.{power, inverse}
use Rattle.field.proofs.Range.{sizes, one_shifted}
use Rattle.field.proofs.inverse.Goals as goal

exponent : (m x y : ℕ) → y ≡ 2 ^ m → power m x (y - 2) ≡ inverse m x
unfolding inverse
exponent m x y e = rw e

pub overflow_sub-m : goal.overflow_sub-m
overflow_sub-m c = let s = sizes c.requires.0.listed in let e = one_shifted c.requires.0.listed in omega arith

pub returns : goal.returns
returns c = c.power.ensures ∙ exponent _ _ _ (one_shifted c.requires.0.listed)
