use mathlib.Core.Path.{◌≡◌, ◌∙◌, refl}
use Prim.Native.Nat.{◌*◌}
use native.Mathlib.Omega.{arith}
use lib.ListN.{length-set}
use Rattle.key.proofs.MendLaws.{space_long}
use Rattle.key.proofs.RunLaws.{held_start, solved_over, solved_done}
use Rattle.key.proofs.run_all.Goals as goal

pub bounds-sigma-0 : goal.bounds-sigma-0
bounds-sigma-0 c = omega (arith, space_long c.requires.3)

pub bounds-b-0 : goal.bounds-b-0
bounds-b-0 c = omega (arith, space_long c.requires.4)

pub loop-r-init : goal.loop-r-init
loop-r-init c =
    (omega arith, held_start c.args.tables.now.hold.listed c.requires.0 c.requires.2 c.requires.3 c.requires.4, refl, refl)

pub step-at-requires : goal.step-at-requires
step-at-requires c =
    (c.requires.0, c.requires.1, (omega arith), c.loop-r.invariant.1)

pub shape_of-sigma-then-t-at : goal.shape_of-sigma-then-t-at
shape_of-sigma-then-t-at c =
    c.step-at.auto.sigma ∙ c.loop-r.invariant.2 ∙ simp length-set

pub shape_of-b-then-t-at : goal.shape_of-b-then-t-at
shape_of-b-then-t-at c =
    c.step-at.auto.b ∙ c.loop-r.invariant.3 ∙ simp length-set

pub returns-then-t-at : goal.returns-then-t-at
returns-then-t-at c =
    (_, c.if-t-at.true, solved_over c.step-at.ensures (omega arith) c.if-t-at.true)

pub loop-r-preserved : goal.loop-r-preserved
loop-r-preserved c = (
  omega arith,
  c.step-at.ensures.held c.if-t-at.false,
  c.step-at.auto.sigma ∙ c.loop-r.invariant.2,
  c.step-at.auto.b ∙ c.loop-r.invariant.3,
)

pub shape_of-sigma : goal.shape_of-sigma
shape_of-sigma c = c.loop-r.invariant.2 ∙ simp length-set

pub shape_of-b : goal.shape_of-b
shape_of-b c = c.loop-r.invariant.3 ∙ simp length-set

pub returns : goal.returns
returns c =
    let z : c.loop-r.r ≡ 2 * c.args.t = omega (arith, c.loop-r.invariant.0) in
    (c.loop-r.invariant.1.short, solved_done c.loop-r.invariant.1 z)
