-- The loop keeps: the first i places of src are added.
use lib.ListN.{length, take}
use mathlib.Core.Path.{◌≡◌}
use mathlib.Core.List.{List}
use Prim.Native.Nat.{ℕ, ◌+◌, ◌≤◌}
use Rattle.bits.specs.Work.{added_at}
use Rattle.bits.proofs.add_at.Given as goal

pub record Adding (first : List ℕ) (at : ℕ) (src dst : List ℕ) (i : ℕ) : Type 0 where
  pub within : i ≤ length src
  pub room : at + length src ≤ length first
  pub same : length dst ≡ length first
  pub is : dst ≡ added_at first at (take i src)

abbrev pub invariant-loop-i : goal.invariant-loop-i
invariant-loop-i l = Adding l.initial.dst l.at l.src l.dst l.i
