-- The loop keeps: the arrays hold the state after r steps.
use mathlib.Core.Path.{◌≡◌}
use Prim.Native.Nat.{◌*◌, ◌≤◌}
use lib.ListN.{length}
use Rattle.key.specs.Held.{Held}
use Rattle.key.proofs.run_all.Given as goal

abbrev pub invariant-loop-r : goal.invariant-loop-r
invariant-loop-r l =
    (l.r ≤ 2 * l.t) × Held l.tables.m l.t l.all l.r l.at.l l.at.gap l.at.q l.sigma l.b
    × (length l.sigma ≡ length l.initial.sigma) × (length l.b ≡ length l.initial.b)
