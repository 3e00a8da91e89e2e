-- The line is split at its first blank: the number before it, the rest after it.
use Rattle.std.proofs.Common.{lit≤}
use Rattle.typed.proofs.SplitLaws.{no_parts, number_before, then_rest, below_more, cut_down, too_large}
use Rattle.typed.proofs.number_then.Goals as goal

pub returns-in_err-end : goal.returns-in_err-end
returns-in_err-end c = rw c.from_residual.ensures (λ n rest p. no_parts c.in_err-end.ensures p)

pub returns-in_err-number : goal.returns-in_err-number
returns-in_err-number c =
    rw c.from_residual-in_err-number.ensures
    (λ n rest p. c.in_err-number.ensures n (below_more (number_before c.in_ok-end.ensures p) (lit≤ tt)))

pub returns-in_err-number-2 : goal.returns-in_err-number-2
returns-in_err-number-2 c =
    rw c.from_residual-in_err-number-2.ensures
    (λ n rest p. too_large c.try_from.result c.try_from.ensures c.in_err-number-2.ensures.value c.in_ok-number.ensures (number_before c.in_ok-end.ensures p))

pub returns : goal.returns
returns c = then_rest c.in_ok-end.ensures (cut_down c.try_from.result c.try_from.ensures c.in_ok-number-2.ensures.value c.in_ok-number.ensures)
