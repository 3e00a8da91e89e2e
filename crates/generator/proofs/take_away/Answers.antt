-- The place is cleared by a multiple of g, or is clear already.
use Rattle.generator.proofs.Division.{taken_away, left_alone}
use Rattle.generator.proofs.take_away.Goals as goal

pub returns-then-word-i-eq1 : goal.returns-then-word-i-eq1
returns-then-word-i-eq1 c =
    let p = c.requires in
    rw c.add_at.ensures (taken_away p.0 p.1 p.2 p.4 p.5 p.3 c.if-word-i-eq1.true)

pub returns-else-word-i-eq1 : goal.returns-else-word-i-eq1
returns-else-word-i-eq1 c = let p = c.requires in left_alone p.0 p.1 p.2 p.4 p.5 c.if-word-i-eq1.false
