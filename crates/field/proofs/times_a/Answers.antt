-- The shift brings 1 to place m exactly where twice x is above n.
use mathlib.Core.Path.{◌≡◌, ◌∙◌, sym, ap}
use Prim.Native.Nat.{ℕ, ◌*◌, ◌/◌, ◌%◌, ◌^◌, ◌≤◌, ◌<◌}
use native.Mathlib.Nat.{div-eq_of_lt, le-div_iff_mul-le, zero-mul, one-mul}
use native.Mathlib.Omega.{arith}
use lib.Pow.{pow_pos}
use Rattle.field.specs.Sum.{◌⊕◌}
use Rattle.field.specs.Product.{shifted}
use Rattle.field.proofs.Range.{sizes, over_lt}
use Rattle.field.proofs.SumLaws.{sum-zero}
use Rattle.field.proofs.ProductLaws.{times_a}
use Rattle.field.proofs.times_a.Goals as goal

shifted_by : (m p x : ℕ) {over : ℕ} → 2 * x / 2 ^ m ≡ over → 2 * x ⊕ (over % 2 * p) ≡ shifted m p x
unfolding shifted
shifted_by m p x e = ap (λ d. 2 * x ⊕ (d % 2 * p)) (sym e)

over_one : (m x : ℕ) → 2 ^ m ≤ 2 * x → x < 2 ^ m → 2 * x / 2 ^ m ≡ 1
over_one m x h k = omega (arith, over_lt m k, (le-div_iff_mul-le {x = 1} {y = 2 * x} (pow_pos m)).1 (rw (one-mul (2 ^ m)) h))

pub overflow_mul-twice : goal.overflow_mul-twice
overflow_mul-twice c = let s = sizes c.requires.0 in omega arith

pub returns-then-from-n : goal.returns-then-from-n
unfolding ◌⊕◌
returns-then-from-n c =
    let s = sizes c.requires.0 in
    ap (λ (z : ℕ). 2 * c.args.x ⊕ z) (sym (one-mul c.args.p))
    ∙ shifted_by c.args.m c.args.p c.args.x
    (over_one c.args.m c.args.x (omega (arith, c.if-from-n.true, c.from.ensures)) c.requires.2)
    ∙ ap (λ (p : ℕ). shifted c.args.m p c.args.x) c.requires.1
    ∙ times_a c.requires.0 _ c.requires.2

pub returns : goal.returns
returns c =
    let s = sizes c.requires.0 in
    sym (ap (λ (z : ℕ). 2 * c.args.x ⊕ z) (zero-mul c.args.p) ∙ sum-zero _)
    ∙ shifted_by c.args.m c.args.p c.args.x (div-eq_of_lt (omega (arith, c.if-from-n.false, c.from.ensures)))
    ∙ ap (λ (p : ℕ). shifted c.args.m p c.args.x) c.requires.1
    ∙ times_a c.requires.0 _ c.requires.2
