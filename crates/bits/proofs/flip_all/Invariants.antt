-- The loop keeps: the bits at the places so far are turned over, and dst holds bits.
use lib.ListN.{length, take}
use mathlib.Core.Path.{◌≡◌}
use mathlib.Core.List.{List, Memᴰ}
use Prim.Native.Nat.{ℕ, ◌≤◌, ◌<◌}
use Rattle.bits.specs.Bits.{AreBits, flipped}
use Rattle.bits.proofs.flip_all.Given as goal

pub record Flipping (first places dst : List ℕ) (i : ℕ) : Type 0 where
  pub bits : AreBits dst
  pub below : (p : ℕ) → Memᴰ p places → p < length first
  pub same : length dst ≡ length first
  pub within : i ≤ length places
  pub is : dst ≡ flipped first (take i places)

abbrev pub invariant-loop-place : goal.invariant-loop-place
invariant-loop-place l = Flipping l.initial.dst l.places l.dst l.place-index
