-- The reasons of 14, one after another.
use mathlib.Core.Path.{sym}
use Rattle.book.proofs.ReadLaws.{count_above, distance_other, reach_decides}
use Rattle.book.proofs.reading.size_is_wrong.Goals as goal

pub returns-then-count-gt1000 : goal.returns-then-count-gt1000
returns-then-count-gt1000 c = sym (count_above _ _ _ c.if-count-gt1000.true)

pub returns-then-distance-count : goal.returns-then-distance-count
returns-then-distance-count c = sym (distance_other _ _ _ c.if-count-gt1000.false c.if-distance-count.true)

pub returns : goal.returns
returns c = sym (reach_decides _ _ _ c.if-count-gt1000.false c.if-distance-count.false)
