use mathlib.Core.Path.{refl}
use mathlib.Core.List.{List}
use Prim.Native.Nat.{ℕ}
use native.Mathlib.Omega.{arith}
use lib.ListN.{length, get_or-eq_default}
use Rattle.bits.specs.Bits.{AreBits}
use Rattle.generator.proofs.Division.{Down, down, reduced}
use Rattle.generator.proofs.reduce.Goals as goal

top : (d : ℕ) (g word : List ℕ) → AreBits word → Down d g word word (length word)
top d g word b = record { bits = b; same = refl; left = λ h k. get_or-eq_default word 0 k; sums = λ L j z. refl }

pub loop-i-init : goal.loop-i-init
loop-i-init c = top _ _ _ c.requires.0

pub take_away-requires : goal.take_away-requires
take_away-requires c =
    let p = c.requires in
    let v = c.loop-i.invariant in
    (v.bits, p.1, p.2, p.3, omega arith, omega (arith, v.same))

pub loop-i-preserved : goal.loop-i-preserved
loop-i-preserved c = down c.loop-i.invariant (omega arith) c.take_away.ensures c.take_away.auto.word

pub shape_of-word : goal.shape_of-word
shape_of-word c = c.loop-i.invariant.same

pub returns : goal.returns
returns c = reduced c.loop-i.invariant (omega arith)
