-- The halves make the whole: an even power is a square, an odd one a square times x.
use mathlib.Core.Path.{◌≡◌, ◌∙◌, sym, ap}
use Prim.Native.Nat.{ℕ, ◌/◌, ◌%◌}
use native.Mathlib.Omega.{arith}
use Rattle.field.specs.Product.{IsField, ◌⊗⟨◌⟩◌}
use Rattle.field.specs.Power.{power as powerOf}
use Rattle.field.proofs.ProductLaws.{product_bound}
use Rattle.field.proofs.PowerLaws.{power_zero, power_bound, power_half_even, power_half_odd}
use Rattle.field.proofs.+power.Goals as goal

even : (m x e half square : ℕ) → IsField m → half ≡ powerOf m x (e / 2) → square ≡ half ⊗⟨ m ⟩ half → e % 2 ≡ 0 → square ≡ powerOf m x e
even m x e half square l p q z = rw (q, p) (sym (power_half_even l x e z))

odd : (m x e half square : ℕ) → IsField m → half ≡ powerOf m x (e / 2) → square ≡ half ⊗⟨ m ⟩ half → (e % 2 ≡ 0 → ⊥)
    → square ⊗⟨ m ⟩ x ≡ powerOf m x e
odd m x e half square l p q z = rw (q, p) (sym (power_half_odd l x e (omega arith)))

pub returns-then-e-eq0 : goal.returns-then-e-eq0
returns-then-e-eq0 t c = sym (ap (powerOf _ _) c.if-e-eq0.true ∙ power_zero _ _)

pub product-square-requires : goal.product-square-requires
product-square-requires t c =
    let p = c.requires in
    let b = power_bound p.0.listed _ _ in (p.0, rw c.power-half.ensures b, rw c.power-half.ensures b)

pub product-requires : goal.product-requires
product-requires t c = let p = c.requires in (p.0, rw c.product-square.ensures (product_bound p.0.listed _ _), p.1)

pub returns-then-e-eq0-2 : goal.returns-then-e-eq0-2
returns-then-e-eq0-2 t c = even _ _ _ _ _ c.requires.0.listed c.power-half.ensures c.product-square.ensures c.if-e-eq0-2.true

pub returns-else-e-eq0-2 : goal.returns-else-e-eq0-2
returns-else-e-eq0-2 t c =
    c.product.ensures ∙ odd _ _ _ _ _ c.requires.0.listed c.power-half.ensures c.product-square.ensures c.if-e-eq0-2.false
