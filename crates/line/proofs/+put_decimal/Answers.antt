-- The last digit is stored after those before it.
use mathlib.Core.Path.{ap}
use native.Mathlib.Omega.{arith}
use lib.ListN.{length}
use Rattle.line.proofs.LineLaws.{decimal_small, decimal_more, decimal_longer, put_one, put_then}
use Rattle.line.proofs.+put_decimal.Goals as goal

pub bounds-out-at : goal.bounds-out-at
bounds-out-at t c = omega (arith, ap length (decimal_small c.if-n-lt10.true), c.requires)

pub returns-then-n-lt10 : goal.returns-then-n-lt10
returns-then-n-lt10 t c = rw (decimal_small c.if-n-lt10.true) (put_one _ _ _)

pub put_decimal-last-requires : goal.put_decimal-last-requires
put_decimal-last-requires t c = (omega arith, omega (arith, decimal_longer c.if-n-lt10.false, c.requires))

pub bounds-out-last : goal.bounds-out-last
bounds-out-last t c =
    omega (arith, decimal_longer c.if-n-lt10.false, c.put_decimal-last.ensures.next_is, c.put_decimal-last.auto.out, c.requires)

pub overflow_add-result-2 : goal.overflow_add-result-2
overflow_add-result-2 t c =
    record { fits = omega (arith, decimal_longer c.if-n-lt10.false, c.put_decimal-last.ensures.next_is, c.requires) }

pub returns : goal.returns
returns t c = rw (decimal_more c.if-n-lt10.false) (put_then c.put_decimal-last.ensures (put_one _ _ _))
