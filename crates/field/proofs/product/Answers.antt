-- A nonzero element is the power whose exponent is its logarithm, and exponents add up.
use mathlib.Core.Path.{◌≡◌, ◌∙◌, sym, ap, ap₂}
use mathlib.Core.List.{List}
use Prim.Native.Nat.{ℕ, ◌+◌}
use native.Mathlib.Omega.{arith}
use lib.ListN.{get_or}
use Rattle.field.specs.Product.{◌⊗⟨◌⟩◌}
use Rattle.field.specs.Power.{a}
use Rattle.field.specs.Tables.{Tables}
use Rattle.field.proofs.Range.{sizes}
use Rattle.field.proofs.ProductLaws.{product-zero, zero-product}
use Rattle.field.proofs.PowerLaws.{power-add}
use Rattle.field.proofs.Exponents.{Logarithm, logarithm}
use Rattle.field.proofs.product.Goals as goal

multiplied : {m x y log_x log_y : ℕ} {powers logs : List ℕ} → Tables m powers logs → Logarithm m logs x → Logarithm m logs y
    → log_x ≡ get_or logs x 0 → log_y ≡ get_or logs y 0 → get_or powers (log_x + log_y) 0 ≡ x ⊗⟨ m ⟩ y
multiplied {m} {powers = powers} t p q e f =
    ap₂ (λ (u v : ℕ). get_or powers (u + v) 0) e f ∙ t.powers_hold.holds _ (omega arith) ∙ power-add t.listed a _ _
    ∙ ap₂ (λ (u v : ℕ). u ⊗⟨ m ⟩ v) p.is q.is

pub returns-then-x-eq0 : goal.returns-then-x-eq0
returns-then-x-eq0 c = sym (ap (λ (z : ℕ). z ⊗⟨ c.args.m ⟩ c.args.y) c.if-x-eq0.true ∙ zero-product _ _)

pub returns-then-y-eq0 : goal.returns-then-y-eq0
returns-then-y-eq0 c = sym (ap (λ (z : ℕ). c.args.x ⊗⟨ c.args.m ⟩ z) c.if-y-eq0.true ∙ product-zero _ _)

pub overflow_add-result : goal.overflow_add-result
overflow_add-result c =
    let p = logarithm c.requires.0 c.requires.1 c.if-x-eq0.false in let q = logarithm c.requires.0 c.requires.2 c.if-y-eq0.false in
    let s = sizes c.requires.0.listed in
    omega arith

pub offset_bounds-powers-log_x : goal.offset_bounds-powers-log_x
offset_bounds-powers-log_x c =
    let p = logarithm c.requires.0 c.requires.1 c.if-x-eq0.false in let q = logarithm c.requires.0 c.requires.2 c.if-y-eq0.false in
    let s = sizes c.requires.0.listed in
    omega arith

pub bounds-powers-log_x : goal.bounds-powers-log_x
bounds-powers-log_x c =
    let p = logarithm c.requires.0 c.requires.1 c.if-x-eq0.false in let q = logarithm c.requires.0 c.requires.2 c.if-y-eq0.false in
    let t = c.requires.0.powers_hold.long in
    let e = (rw c.from.ensures at c.from-log_x.ensures) in
    let f = (rw c.from-2.ensures at c.from-log_y.ensures) in
    omega arith

pub returns : goal.returns
returns c =
    multiplied c.requires.0 (logarithm c.requires.0 c.requires.1 c.if-x-eq0.false) (logarithm c.requires.0 c.requires.2 c.if-y-eq0.false)
    (rw c.from.ensures at c.from-log_x.ensures) (rw c.from-2.ensures at c.from-log_y.ensures)
