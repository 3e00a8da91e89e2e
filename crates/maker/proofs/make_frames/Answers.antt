use native.Mathlib.Omega.{arith}
use mathlib.Core.Path.{refl}
use lib.ListN.{length-take}
use Rattle.maker.proofs.StepLaws.{going_first, going_on, going_few}
use Rattle.maker.proofs.make_frames.Goals as goal

pub loop-left-init : goal.loop-left-init
loop-left-init g c = let new = c.new-maker.ensures in (going_first _ _ new.0 new.1, refl)

pub fill_last-requires : goal.fill_last-requires
fill_last-requires g c = let few = going_few c.loop-left.invariant.0 in record { bytes = omega arith; lines = omega (arith, few.0) }

pub fill-requires : goal.fill-requires
fill-requires g c =
    let few = going_few c.loop-left.invariant.0 in
    let came = c.in-Ok.ensures in
    record { bytes = simp length-take (omega (arith, came.within)); lines = simp length-take (omega (arith, few.0, came.few)) }

pub loop-left-preserved : goal.loop-left-preserved
loop-left-preserved g c =
    let came = c.in-Ok.ensures in
    (going_on c.loop-left.invariant.0 c.fill.ensures (simp length-take (omega (arith, came.within, came.few))), omega arith)
