-- The loop keeps: x is a^i, and the places 0 to i - 1 and n to n + i - 1 hold their powers.
use mathlib.Core.Path.{◌≡◌}
use mathlib.Core.List.{List}
use Prim.Native.Nat.{ℕ, ◌+◌, ◌*◌, ◌≤◌, ◌<◌}
use lib.ListN.{length, get_or}
use Rattle.field.specs.Product.{IsField, polynomial}
use Rattle.field.specs.Power.{a, n_of, power}
use Rattle.field.proofs.fill_powers.Given as goal

pub record Filling (m p n : ℕ) (first powers : List ℕ) (x i : ℕ) : Type 0 where
  pub listed : IsField m
  pub is_polynomial : p ≡ polynomial m
  pub is_n : n ≡ n_of m
  pub fits : 2 * n ≤ length powers
  pub same : length powers ≡ length first
  pub within : i ≤ n
  pub here : x ≡ power m a i
  pub once : (j : ℕ) → j < i → get_or powers j 0 ≡ power m a j
  pub again : (j : ℕ) → j < i → get_or powers (n + j) 0 ≡ power m a (n + j)

abbrev pub invariant-loop-i : goal.invariant-loop-i
invariant-loop-i l = Filling l.m l.p l.n l.initial.powers l.powers l.x l.i
