use Rattle.std.proofs.Common.{◌≡◌, ◌+◌, arith, refl, add-zero}
use Rattle.input.specs.Reads.{nothing_yet, one_more}
use Rattle.input.proofs.read_whole.Goals as goal

pub loop-held-init : goal.loop-held-init
loop-held-init g c = (nothing_yet, refl, refl, omega arith)

pub loop-held-preserved : goal.loop-held-preserved
loop-held-preserved g c =
    (one_more c.loop-held.invariant.0 c.in-Ok.ensures, omega arith, omega arith, omega (arith, c.in-Ok.ensures.within))

pub returns-in-Err : goal.returns-in-Err
returns-in-Err g c =
    let on = one_more c.loop-held.invariant.0 c.in-Err.ensures in
    (rw (add-zero c.loop-held.held) at on, omega (arith, c.loop-held.invariant))

pub returns-in-Ok-eq0 : goal.returns-in-Ok-eq0
returns-in-Ok-eq0 g c =
    let none : c.loop-held.held + c.in-Ok-eq0.field-0 ≡ c.loop-held.held = omega (arith, c.in-Ok-eq0.field-0-test) in
    (rw none at (one_more c.loop-held.invariant.0 c.in-Ok-eq0.ensures), omega (arith, c.loop-held.invariant))
