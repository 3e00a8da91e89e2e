-- The loop keeps: the first entries and i times four are done, and e is the next exponent.
use mathlib.Core.List.{List}
use Prim.Native.Nat.{ℕ, ◌*◌}
use Rattle.walks.specs.Multiples.{Walked}
use Rattle.walks.proofs.Walks.{Strides}
use Rattle.walks.proofs.add_walk.Given as goal

pub record Walking (m n one two three four first e₀ : ℕ) (entries₀ entries : List ℕ) (i e : ℕ) : Type 0 where
  pub strides : Strides m one n two three four
  pub walked : Walked m e₀ one first (4 * i) entries₀ e entries

abbrev pub invariant-loop-i : goal.invariant-loop-i
invariant-loop-i l = Walking l.m l.n l.one l.two l.three l.four l.first l.initial.e l.initial.entries l.entries l.i l.e
