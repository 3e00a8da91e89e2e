-- The loop keeps: the first i places of src stand in dst from place at on.
use lib.ListN.{length}
use lib.Seq.{paste}
use mathlib.Core.Path.{◌≡◌}
use mathlib.Core.List.{List}
use Prim.Native.Nat.{ℕ, ◌+◌, ◌≤◌}
use Rattle.bits.proofs.copy_at.Given as goal

pub record Copying (first : List ℕ) (at : ℕ) (src dst : List ℕ) (i : ℕ) : Type 0 where
  pub within : i ≤ length src
  pub room : at + length src ≤ length first
  pub same : length dst ≡ length first
  pub is : dst ≡ paste first at src i

abbrev pub invariant-loop-i : goal.invariant-loop-i
invariant-loop-i l = Copying l.initial.dst l.at l.src l.dst l.i
