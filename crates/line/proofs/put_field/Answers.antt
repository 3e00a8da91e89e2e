-- The number has at most 20 digits, so the text after it fits.
use native.Mathlib.Omega.{arith}
use Rattle.line.proofs.LineLaws.{decimal_fits, put_then, put_copied}
use Rattle.line.proofs.put_field.Goals as goal

pub put_decimal-end-requires : goal.put_decimal-end-requires
put_decimal-end-requires c = omega (arith, decimal_fits {n = c.args.n} (omega arith))

pub copy_at-requires : goal.copy_at-requires
copy_at-requires c =
    omega (arith, decimal_fits {n = c.args.n} (omega arith), c.put_decimal-end.ensures.next_is, c.put_decimal-end.auto.out)

pub overflow_add-result : goal.overflow_add-result
overflow_add-result c =
    record {
      fits = omega (
        arith,
        decimal_fits {n = c.args.n} (omega arith),
        c.put_decimal-end.ensures.next_is,
        c.put_decimal-end.auto.out,
        c.requires,
      );
    }

pub returns : goal.returns
returns c =
    let d = c.put_decimal-end in
    let f = decimal_fits {n = c.args.n} (omega arith) in
    record {
      put = put_then d.ensures
          (put_copied d.result (omega (arith, f, d.ensures.next_is, d.auto.out, c.requires)) c.copy_at.ensures);
      most = omega (arith, f, d.ensures.next_is);
    }
