-- The exponents start at p and go up by 2p.
use Prim.Native.Nat.{◌*◌}
use native.Mathlib.Omega.{arith}
use Rattle.field.proofs.Exponents.{around_below}
use Rattle.sums.proofs.SumSteps.{place_added}
use Rattle.sums.proofs.add_place.Goals as goal

pub add_walk-requires : goal.add_walk-requires
add_walk-requires c = (
  c.requires.0,
  c.requires.1,
  c.requires.2,
  omega
      (arith, around_below c.requires.0 (2 * c.args.p) c.n_of-n.ensures c.around-step.ensures),
  c.requires.3,
)

pub returns : goal.returns
returns c =
    place_added c.args.p c.requires.0 c.n_of-n.ensures c.around-step.ensures c.add_walk.ensures
