-- The room is clear, and the sums are put in front.
use mathlib.Core.Path.{sym}
use native.Mathlib.Omega.{arith}
use Rattle.sums.proofs.SumSteps.{room_long, sums_in_room}
use Rattle.sums.proofs.odd_sums.Goals as goal

pub slice_bounds-word_sums-end : goal.slice_bounds-word_sums-end
slice_bounds-word_sums-end c = sym room_long

pub word_sums-requires : goal.word_sums-requires
word_sums-requires c = let p = c.requires in (p.0, p.1, p.2, p.3, omega (arith, p.4, room_long))

pub returns : goal.returns
returns c = sums_in_room c.word_sums.ensures
