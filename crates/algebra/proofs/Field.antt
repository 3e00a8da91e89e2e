-- Laws of a field: no zero divisors, and what an inverse does.
use mathlib.Core.Path.{◌≡◌, ◌∙◌, sym, ap}
use mathlib.Core.Logic.{◌≢◌}
use Prim.Native.Nat.{ℕ, zero, suc}
use Rattle.algebra.specs.Ring.{Field}
use Rattle.algebra.specs.Series.{power}
use Rattle.algebra.proofs.Ring.{product_assoc, product_comm, one_product, product-zero}
use Rattle.algebra.proofs.Evaluate.{power_zero, power-suc}

module _ (F : Field) where
  open F use {ring as K, inverse, one_not_zero, inverse_law}
  open K use {El, 𝟘, 𝟙, ◌⊗◌}

  infixl 70 ◌⊗◌
  pub inverse-product : (x : El) → x ≢ 𝟘 → inverse x ⊗ x ≡ 𝟙
  inverse-product x n = product_comm K (inverse x) x ∙ inverse_law x n

  -- dividing x ⊗ y by x
  pub divide : (x y : El) → x ≢ 𝟘 → inverse x ⊗ (x ⊗ y) ≡ y
  divide x y n = sym (product_assoc K (inverse x) x y) ∙ ap (λ s. s ⊗ y) (inverse-product x n) ∙ one_product K y

  pub cancel : (x y z : El) → x ≢ 𝟘 → x ⊗ y ≡ x ⊗ z → y ≡ z
  cancel x y z n h = sym (divide x y n) ∙ ap (◌⊗◌ (inverse x)) h ∙ divide x z n

  pub no_zero_divisor : (x y : El) → x ⊗ y ≡ 𝟘 → x ≢ 𝟘 → y ≡ 𝟘
  no_zero_divisor x y h n = cancel x y 𝟘 n (h ∙ sym (product-zero K x))

  pub product_not_zero : (x y : El) → x ≢ 𝟘 → y ≢ 𝟘 → x ⊗ y ≢ 𝟘
  product_not_zero x y m n h = n (no_zero_divisor x y h m)

  pub inverse_not_zero : (x : El) → x ≢ 𝟘 → inverse x ≢ 𝟘
  inverse_not_zero x n h = one_not_zero (sym (inverse_law x n) ∙ ap (◌⊗◌ x) h ∙ product-zero K x)

  -- a factor that makes 𝟙 is the inverse
  pub inverse_unique : (x y : El) → x ≢ 𝟘 → x ⊗ y ≡ 𝟙 → y ≡ inverse x
  inverse_unique x y n h = cancel x y (inverse x) n (h ∙ sym (inverse_law x n))

  -- elements whose product with the same inverse is 𝟙 are equal
  pub equal_of_inverse : (x y : El) → x ≢ 𝟘 → y ⊗ inverse x ≡ 𝟙 → y ≡ x
  equal_of_inverse x y n h =
      cancel (inverse x) y x (inverse_not_zero x n) (product_comm K (inverse x) y ∙ h ∙ sym (inverse-product x n))

  pub power_not_zero : (x : El) (e : ℕ) → x ≢ 𝟘 → power K x e ≢ 𝟘
  power_not_zero x zero n = rw (power_zero K x) one_not_zero
  power_not_zero x (suc e) n = rw (power-suc K x e) (product_not_zero x (power K x e) n (power_not_zero x e n))
