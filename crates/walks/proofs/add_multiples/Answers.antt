-- The walk starts at the logarithm of s.
use native.Mathlib.Omega.{arith}
use Rattle.field.proofs.Exponents.{logarithm}
use Rattle.walks.proofs.Walks.{multiples_added, multiples_skipped}
use Rattle.walks.proofs.add_multiples.Goals as goal

pub add_walk-requires : goal.add_walk-requires
add_walk-requires c =
    let l = logarithm c.requires.0 c.requires.1 c.if-s-ne0.true in
    (c.requires.0.listed, c.requires.0.powers_hold, omega (arith, l.below, rw c.from.ensures at c.from-from.ensures), c.requires.2, c.requires.3)

pub returns-then-s-ne0 : goal.returns-then-s-ne0
returns-then-s-ne0 c =
    multiples_added c.args.step c.requires.0.listed (logarithm c.requires.0 c.requires.1 c.if-s-ne0.true)
    (rw c.from.ensures at c.from-from.ensures) c.add_walk.ensures

pub returns-else-s-ne0 : goal.returns-else-s-ne0
returns-else-s-ne0 c = multiples_skipped _ _ _ _ c.if-s-ne0.false
