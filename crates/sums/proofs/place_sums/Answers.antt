use mathlib.Core.Path.{◌∙◌, ap}
use native.Mathlib.Omega.{arith}
use Rattle.std.proofs.Common.{rules}
use Rattle.entries.proofs.FillLaws.{fill_clear}
use Rattle.field.specs.Power.{a, power}
use Rattle.sums.proofs.SumSteps.{placing_start, placing_next, placing_done}
use Rattle.sums.proofs.place_sums.Goals as goal

pub loop-place-init : goal.loop-place-init
loop-place-init c = placing_start _ (fill_clear c.fill.new.self c.requires.3 (search rules))

pub add_place-requires : goal.add_place-requires
add_place-requires c =
    let p = c.requires in
    let z = fill_clear c.fill.new.self p.3 (search rules) in
    (p.0, p.1, omega (arith, c.from.ensures, p.2 _ c.loop-place-test.true), omega (arith, p.3, c.loop-place.invariant.filled.same, z.same))

pub loop-place-preserved : goal.loop-place-preserved
loop-place-preserved c =
    placing_next c.requires.0 c.loop-place.invariant c.loop-place-test.true (ap (power c.args.m a) c.from.ensures) c.add_place.ensures

pub shape_of-sums : goal.shape_of-sums
shape_of-sums c =
    let z = fill_clear c.fill.new.self c.requires.3 (search rules) in
    c.loop-place.invariant.filled.same ∙ z.same

pub returns : goal.returns
returns c =
    placing_done (fill_clear c.fill.new.self c.requires.3 (search rules)) c.loop-place.invariant c.loop-place-test.false
