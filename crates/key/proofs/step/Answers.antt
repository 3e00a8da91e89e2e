-- Each way out is one case of the abstract step.
use native.Mathlib.Omega.{arith}
use Rattle.field.proofs.ProductLaws.{product_bound}
use Rattle.key.proofs.RunLaws.{held_within, held_below, missed_below, step_passed, step_kept, step_over, step_renewed}
use Rattle.key.proofs.step.Goals as goal

pub overflow_add-more : goal.overflow_add-more
overflow_add-more c = omega (arith, c.requires.3.gap_within)

pub missed-d-requires : goal.missed-d-requires
missed-d-requires c =
    let h = c.requires.3 in (
      held_within h,
      omega (arith, h.holds.sigma_long, h.short),
      omega (arith, c.requires.1, c.requires.2),
      held_below h,
      λ i k. h.sums_below i (omega (arith, c.requires.2)),
    )

pub returns-then-d-eq0 : goal.returns-then-d-eq0
returns-then-d-eq0 c =
    step_passed c.requires.3 c.requires.2 c.missed-d.ensures c.if-d-eq0.true

pub product-factor-requires : goal.product-factor-requires
product-factor-requires c =
    let h = c.requires.3 in
    (missed_below h c.requires.2 c.missed-d.ensures, h.holds.q_below)

pub overflow_mul-l : goal.overflow_mul-l
overflow_mul-l c =
    omega (arith, c.requires.3.short, c.requires.0)

pub overflow_add-l : goal.overflow_add-l
overflow_add-l c =
    omega (arith, c.requires.3.short, c.requires.0)

pub mend-requires : goal.mend-requires
mend-requires c =
    let h = c.requires.3 in
    let k = h.short in (
      rw c.product-factor.ensures (product_bound h.listed _ _),
      omega (arith, h.holds.b_long),
      omega (arith, h.holds.sigma_long),
      λ i z. h.holds.b_below i (omega arith),
    )

pub shape_of-sigma-then-r-l : goal.shape_of-sigma-then-r-l
shape_of-sigma-then-r-l c = c.mend.ensures.same

pub returns-then-r-l : goal.returns-then-r-l
returns-then-r-l c =
    step_kept c.requires.3 c.requires.2 c.missed-d.ensures c.if-d-eq0.false c.if-r-l.true
    c.product-factor.ensures c.mend.ensures

pub overflow_add-next : goal.overflow_add-next
overflow_add-next c =
    omega (arith, c.requires.2, c.requires.0)

pub overflow_sub-next : goal.overflow_sub-next
overflow_sub-next c =
    omega (arith, held_within c.requires.3)

pub returns-then-t-next : goal.returns-then-t-next
returns-then-t-next c =
    step_over c.requires.3 c.requires.2 c.missed-d.ensures c.if-d-eq0.false c.if-r-l.false c.if-t-next.true

pub overflow_add-next-2 : goal.overflow_add-next-2
overflow_add-next-2 c =
    omega (arith, c.requires.0, c.if-t-next.false)

pub overflow_add-t : goal.overflow_add-t
overflow_add-t c =
    omega (arith, c.requires.0)

pub renew-requires : goal.renew-requires
renew-requires c =
    let h = c.requires.3 in (
      rw c.product-factor.ensures (product_bound h.listed _ _),
      omega (arith, c.if-t-next.false),
      omega (arith, c.requires.0),
      h.holds.b_long,
      h.holds.sigma_long,
      λ i k. h.holds.b_below i (omega (arith, c.if-t-next.false)),
    )

pub inverse-inverse-requires : goal.inverse-inverse-requires
inverse-inverse-requires c =
    (missed_below c.requires.3 c.requires.2 c.missed-d.ensures)

pub shape_of-sigma : goal.shape_of-sigma
shape_of-sigma c = c.renew.ensures.0.same

pub shape_of-b : goal.shape_of-b
shape_of-b c = c.renew.ensures.1.same

pub returns : goal.returns
returns c =
    step_renewed c.requires.3 c.requires.2 c.missed-d.ensures c.if-d-eq0.false c.if-r-l.false
    c.product-factor.ensures c.renew.ensures.0 c.renew.ensures.1 c.inverse-inverse.ensures
