-- One entry after the other.
use native.Mathlib.Omega.{arith}
use Rattle.walks.proofs.Walks.{four_added}
use Rattle.walks.proofs.add_four.Goals as goal

pub add_at-requires : goal.add_at-requires
add_at-requires c = let p = c.requires in (p.0, omega (arith, p.4))

pub overflow_add-j : goal.overflow_add-j
overflow_add-j c =
    omega (arith, c.requires.4)

pub add_at-requires-2 : goal.add_at-requires-2
add_at-requires-2 c =
    let p = c.requires in
    (p.1, omega (arith, p.4))

pub overflow_add-j-2 : goal.overflow_add-j-2
overflow_add-j-2 c =
    omega (arith, c.requires.4)

pub add_at-requires-3 : goal.add_at-requires-3
add_at-requires-3 c =
    let p = c.requires in
    (p.2, omega (arith, p.4))

pub overflow_add-j-3 : goal.overflow_add-j-3
overflow_add-j-3 c =
    omega (arith, c.requires.4)

pub add_at-requires-4 : goal.add_at-requires-4
add_at-requires-4 c =
    let p = c.requires in
    (p.3, omega (arith, p.4))

pub returns : goal.returns
returns c =
    let s = c.args in
    four_added s.powers.now s.entries.now s.e s.f s.g s.h s.j c.add_at.ensures
    c.add_at-2.ensures c.add_at-3.ensures c.add_at-4.ensures
