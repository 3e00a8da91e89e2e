-- The walk starts at s and multiplies by a^(n-j).
use mathlib.Core.Path.{refl}
use native.Mathlib.Omega.{arith}
use Rattle.field.proofs.Range.{sizes}
use Rattle.field.proofs.Exponents.{around_below}
use Rattle.locate.proofs.TermLaws.{term_added}
use Rattle.locate.proofs.add_term.Goals as goal

pub nonzero_rem-down : goal.nonzero_rem-down
nonzero_rem-down c = let k = sizes c.args.tables.now.hold.listed in omega (arith, c.n_of-n.ensures)

pub overflow_sub-step : goal.overflow_sub-step
overflow_sub-step c = omega (arith, around_below c.args.tables.now.hold.listed c.args.j c.n_of-n.ensures refl, c.n_of-n.ensures)

pub add_multiples-requires : goal.add_multiples-requires
add_multiples-requires c =
    let l = around_below c.args.tables.now.hold.listed c.args.j c.n_of-n.ensures refl in
    (c.args.tables.now.hold, c.requires.0, omega (arith, l, c.n_of-n.ensures), omega (arith, c.requires.1, c.n_of-n.ensures))

pub returns : goal.returns
returns c =
    term_added c.args.tables.now.hold.listed c.args.s c.args.j c.n_of-n.ensures c.add_multiples.ensures
