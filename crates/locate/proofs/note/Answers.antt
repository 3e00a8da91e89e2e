-- By the two tests.
use native.Mathlib.Omega.{arith}
use lib.ListN.{length-set}
use Rattle.locate.proofs.TrialLaws.{noted_miss, noted_hit, noted_over}
use Rattle.locate.proofs.note.Goals as goal

pub returns-then-v-ne0 : goal.returns-then-v-ne0
returns-then-v-ne0 c = noted_miss _ _ _ _ _ c.if-v-ne0.true

pub shape_of-places-then-found-t : goal.shape_of-places-then-found-t
shape_of-places-then-found-t c = simp length-set

pub returns-then-found-t : goal.returns-then-found-t
returns-then-found-t c = noted_hit _ _ _ _ _ c.if-v-ne0.false (omega arith)

pub returns : goal.returns
returns c = noted_over _ _ _ _ _ c.if-v-ne0.false c.if-found-t.false
