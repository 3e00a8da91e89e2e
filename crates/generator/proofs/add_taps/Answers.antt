use Prim.Native.Nat.{ℕ}
use native.Mathlib.Omega.{arith}
use mathlib.Core.Path.{◌∙◌, sym, ap}
use lib.ListN.{length, length-replicate}
use Rattle.generator.proofs.Taps.{taps_start, taps_next, taps_done}
use Rattle.generator.proofs.add_taps.Goals as goal

pub loop-e-init : goal.loop-e-init
loop-e-init c = taps_start _ _ _ c.requires.0

pub add_tap-requires : goal.add_tap-requires
add_tap-requires c = let v = c.loop-e.invariant in (v.bits, c.requires.1, sym v.same, omega arith)

pub loop-e-preserved : goal.loop-e-preserved
loop-e-preserved c =
    taps_next c.loop-e.invariant (omega arith) c.add_tap.ensures c.add_tap.auto.g

pub shape_of-g : goal.shape_of-g
shape_of-g c =
    c.loop-e.invariant.same ∙ sym (ap length c.requires.0 ∙ length-replicate {A = ℕ} (length c.args.old.now) 0)

pub returns : goal.returns
returns c = taps_done c.loop-e.invariant (omega arith)
