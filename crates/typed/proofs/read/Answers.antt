-- A step that finds nothing leaves no reading for the whole line.
use Rattle.typed.proofs.SplitLaws.{alone, says_after}
use Rattle.typed.proofs.read.Goals as goal

pub returns-in_err-house : goal.returns-in_err-house
returns-in_err-house c = rw c.from_residual.ensures (λ reading p. c.in_err-house.ensures _ _ (alone p))

pub returns-in_err-poll : goal.returns-in_err-poll
returns-in_err-poll c =
    rw c.from_residual-in_err-poll.ensures (λ reading p. c.in_err-poll.ensures _ _ (alone (says_after c.in_ok-house.ensures p)))

pub returns-in_err-counter : goal.returns-in_err-counter
returns-in_err-counter c =
    rw c.from_residual-in_err-counter.ensures
    (λ reading p. c.in_err-counter.ensures _ (says_after c.in_ok-poll.ensures (says_after c.in_ok-house.ensures p)))
