-- The loop keeps: for each j below i, place a^j holds j. A later power is another place, since powers below n are distinct.
use mathlib.Core.Path.{◌≡◌}
use mathlib.Core.List.{List}
use Prim.Native.Nat.{ℕ, ◌^◌, ◌≤◌, ◌<◌}
use lib.ListN.{length, get_or}
use Rattle.field.specs.Product.{IsField}
use Rattle.field.specs.Power.{a, n_of, power}
use Rattle.field.specs.Tables.{Powers}
use Rattle.field.proofs.fill_logs.Given as goal

pub record Filling (m n : ℕ) (powers first logs : List ℕ) (i : ℕ) : Type 0 where
  pub listed : IsField m
  pub is_n : n ≡ n_of m
  pub table : Powers m powers
  pub fits : 2 ^ m ≤ length logs
  pub same : length logs ≡ length first
  pub within : i ≤ n
  pub holds : (j : ℕ) → j < i → get_or logs (power m a j) 0 ≡ j

abbrev pub invariant-loop-i : goal.invariant-loop-i
invariant-loop-i l = Filling l.m l.n l.powers l.initial.logs l.logs l.i
