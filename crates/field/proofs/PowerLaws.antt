-- The laws of powers in the field.
use mathlib.Core.Path.{◌≡◌, ◌∙◌, refl, sym, ap}
use Prim.Native.Nat.{ℕ, zero, suc, ◌+◌, ◌-◌, ◌*◌, ◌/◌, ◌%◌, ◌^◌, ◌<◌}
use native.Mathlib.Nat.{zero-add, suc-add, mul-zero, mul-suc}
use native.Mathlib.Omega.{arith}
use Rattle.field.specs.Product.{IsField, ◌⊗⟨◌⟩◌}
use Rattle.field.specs.Power.{power, inverse}
use Rattle.field.proofs.ProductLaws.{degree, one_below, product_comm, product_bound, product_assoc, product-one}
use Rattle.field.proofs.ProductLaws.{one_product, zero-product, product_rearrange}

pub power_zero : (m x : ℕ) → power m x 0 ≡ 1
unfolding power
power_zero m x = refl

pub power-suc : (m x e : ℕ) → power m x (suc e) ≡ x ⊗⟨ m ⟩ power m x e
unfolding power
power-suc m x e = refl

module _ {m : ℕ} (L : IsField m) where
  pub one_bound : 1 < 2 ^ m
  one_bound = one_below (degree L)

  pub power_bound : (x e : ℕ) → power m x e < 2 ^ m
  power_bound x zero = rw power_zero one_bound
  power_bound x (suc e) = rw power-suc (product_bound L x (power m x e))

  pub power-one : (x : ℕ) → x < 2 ^ m → power m x 1 ≡ x
  power-one x h = power-suc m x 0 ∙ ap (λ z. x ⊗⟨ m ⟩ z) (power_zero m x) ∙ product-one L x h

  pub power-add : (x i j : ℕ) → power m x (i + j) ≡ power m x i ⊗⟨ m ⟩ power m x j
  power-add x zero j = rw (zero-add, power_zero) (sym (one_product L (power m x j) (power_bound x j)))
  power-add x (suc i) j =
      simp (suc-add, power-suc) (ap (λ z. x ⊗⟨ m ⟩ z) (power-add x i j) ∙ sym (product_assoc L x (power m x i) (power m x j)))

  pub one_power : (e : ℕ) → power m 1 e ≡ 1
  one_power zero = power_zero m 1
  one_power (suc e) = power-suc m 1 e ∙ ap (λ z. 1 ⊗⟨ m ⟩ z) (one_power e) ∙ one_product L 1 one_bound

  pub zero-power : (e : ℕ) → 0 < e → power m 0 e ≡ 0
  zero-power zero h = absurd (omega arith)
  zero-power (suc e) h = power-suc m 0 e ∙ zero-product m (power m 0 e)

  -- the power of a power
  pub power-mul : (x i j : ℕ) → power m x (i * j) ≡ power m (power m x i) j
  power-mul x i zero = simp (mul-zero, power_zero)
  power-mul x i (suc j) =
      let e : i * suc j ≡ i + i * j = omega (arith, mul-suc i j) in
      rw e (power-add x i (i * j) ∙ ap (λ z. power m x i ⊗⟨ m ⟩ z) (power-mul x i j) ∙ sym (power-suc m (power m x i) j))

  -- the power of a product
  pub product-power : (x y e : ℕ) → power m (x ⊗⟨ m ⟩ y) e ≡ power m x e ⊗⟨ m ⟩ power m y e
  product-power x y zero = simp power_zero (sym (one_product L 1 one_bound))
  product-power x y (suc e) =
      simp power-suc
      (ap (λ z. x ⊗⟨ m ⟩ y ⊗⟨ m ⟩ z) (product-power x y e) ∙ product_rearrange L x y (power m x e) (power m y e))

  pub power_even : (x e : ℕ) → power m x (2 * e) ≡ power m x e ⊗⟨ m ⟩ power m x e
  power_even x e =
      let d : 2 * e ≡ e + e = omega arith in
      rw d (power-add x e e)

  -- halving, where the exponent is even and where it is odd
  pub power_half_even : (x e : ℕ) → e % 2 ≡ 0 → power m x e ≡ power m x (e / 2) ⊗⟨ m ⟩ power m x (e / 2)
  power_half_even x e h =
      let d : e ≡ 2 * (e / 2) = omega arith in
      ap (power m x) d ∙ power_even x (e / 2)

  pub power_half_odd : (x e : ℕ) → e % 2 ≡ 1 → power m x e ≡ power m x (e / 2) ⊗⟨ m ⟩ power m x (e / 2) ⊗⟨ m ⟩ x
  power_half_odd x e h =
      let d : e ≡ suc (2 * (e / 2)) = omega arith in
      ap (power m x) d ∙ power-suc m x (2 * (e / 2)) ∙ ap (λ z. x ⊗⟨ m ⟩ z) (power_even x (e / 2))
      ∙ product_comm m x (power m x (e / 2) ⊗⟨ m ⟩ power m x (e / 2))

  pub inverse_bound : (x : ℕ) → inverse m x < 2 ^ m
  unfolding inverse
  inverse_bound x = power_bound x (2 ^ m - 2)
