-- Powers, and the value of a polynomial: additive, multiplicative, and free of the bound past the degree.
use mathlib.Core.Path.{◌≡◌, refl}
use Prim.Native.Nat.{ℕ, zero, suc, ◌+◌, ◌≤◌}
use native.Mathlib.Nat.{suc-add}
use native.Mathlib.Omega.{arith}
use Rattle.algebra.specs.Ring.{Ring}
use Rattle.algebra.specs.Series.{Series, tail, shift, scale, zero_series, one_series, ZeroFrom, evaluate, power}
use Rattle.algebra.proofs.Ring.{ring, zero-product}
use Rattle.algebra.proofs.Series.{series, one-zero, tail-one, shift_zero, tail-shift, split_product, monomial, monomial-zero, monomial-suc}
use Rattle.algebra.proofs.Degree.{zero_from_zero}

module _ (K : Ring) where
  open K use {El, 𝟘, 𝟙, ◌⊕◌, ◌⊗◌}
  open series K use {◌⊕◌ as ◌⊕ˢ◌, ◌⊗◌ as ◌⊗ˢ◌}

  infixl 60 ◌⊕◌ ◌⊕ˢ◌
  infixl 70 ◌⊗◌ ◌⊗ˢ◌
  pub power_zero : (y : El) → power K y zero ≡ 𝟙
  unfolding power
  power_zero y = refl

  pub power-suc : (y : El) (e : ℕ) → power K y (suc e) ≡ y ⊗ power K y e
  unfolding power
  power-suc y e = refl

  pub evaluate-zero : (p : Series K) (y : El) → evaluate K zero p y ≡ 𝟘
  unfolding evaluate
  evaluate-zero p y = refl

  pub evaluate-suc : (d : ℕ) (p : Series K) (y : El) → evaluate K (suc d) p y ≡ p zero ⊕ y ⊗ evaluate K d (tail K p) y
  unfolding evaluate
  evaluate-suc d p y = refl

  sum_shape : (a b y u v : El) → a ⊕ b ⊕ y ⊗ (u ⊕ v) ≡ a ⊕ y ⊗ u ⊕ (b ⊕ y ⊗ v)
  sum_shape a b y u v = simp (ring, K)

  pub evaluate-sum : (d : ℕ) (p q : Series K) (y : El) → evaluate K d (p ⊕ˢ q) y ≡ evaluate K d p y ⊕ evaluate K d q y
  evaluate-sum zero p q y = rw (evaluate-zero (p ⊕ˢ q) y, evaluate-zero p y, evaluate-zero q y) (simp (ring, K))
  evaluate-sum (suc d) p q y =
      rw (evaluate-suc d (p ⊕ˢ q) y, evaluate-suc d p y, evaluate-suc d q y, evaluate-sum d (tail K p) (tail K q) y)
      (sum_shape _ _ _ _ _)

  pub evaluate-scale : (d : ℕ) (c : El) (p : Series K) (y : El) → evaluate K d (scale K c p) y ≡ c ⊗ evaluate K d p y
  evaluate-scale zero c p y = rw (evaluate-zero (scale K c p) y, evaluate-zero p y) (simp (ring, K))
  evaluate-scale (suc d) c p y =
      rw (evaluate-suc d (scale K c p) y, evaluate-suc d p y, evaluate-scale d c (tail K p) y) (simp (ring, K))

  pub evaluate-shift : (d : ℕ) (p : Series K) (y : El) → evaluate K (suc d) (shift K p) y ≡ y ⊗ evaluate K d p y
  evaluate-shift d p y = rw (evaluate-suc d (shift K p) y, shift_zero K p, tail-shift K p) (simp (ring, K))

  pub evaluate_null : (d : ℕ) (y : El) → evaluate K d (zero_series K) y ≡ 𝟘
  evaluate_null zero y = evaluate-zero (zero_series K) y
  evaluate_null (suc d) y = rw (evaluate-suc d (zero_series K) y, evaluate_null d y) (simp (ring, K))

  -- past the degree the bound does not matter
  pub evaluate_past : (d e : ℕ) (p : Series K) (y : El) → ZeroFrom K d p → d ≤ e → evaluate K e p y ≡ evaluate K d p y
  evaluate_past zero e p y z l = rw (zero_from_zero K p z, evaluate_null e y, evaluate-zero (zero_series K) y)
  evaluate_past (suc d) zero p y z l = absurd (omega arith)
  evaluate_past (suc d) (suc e) p y z l =
      rw (evaluate-suc e p y, evaluate-suc d p y, evaluate_past d e (tail K p) y (λ n h. z (suc n) (omega arith)) (omega arith))

  product_shape : (a b y c : El) → a ⊗ b ⊕ y ⊗ (c ⊗ b) ≡ (a ⊕ y ⊗ c) ⊗ b
  product_shape a b y c = simp (ring, K)

  pub evaluate-product : (a b : ℕ) (p q : Series K) (y : El) → ZeroFrom K a p → ZeroFrom K b q → evaluate K (a + b) (p ⊗ˢ q) y ≡ evaluate K a p y ⊗ evaluate K b q y
  evaluate-product zero b p q y s z =
      rw (zero_from_zero K p s, zero-product (series K) q, evaluate_null (zero + b) y, evaluate-zero (zero_series K) y) (simp (ring, K))
  evaluate-product (suc a) b p q y s z =
      rw (split_product K p q, suc-add a b, evaluate-sum (suc (a + b)) (scale K (p zero) q) (shift K (tail K p ⊗ˢ q)) y, evaluate-scale (suc (a + b)) (p zero) q y, evaluate_past b (suc (a + b)) q y z (omega arith), evaluate-shift (a + b) (tail K p ⊗ˢ q) y, evaluate-product a b (tail K p) q y (λ n h. s (suc n) (omega arith)) z, evaluate-suc a p y)
      (product_shape _ _ _ _)

  pub evaluate-one : (d : ℕ) (y : El) → evaluate K (suc d) (one_series K) y ≡ 𝟙
  evaluate-one d y = rw (evaluate-suc d (one_series K) y, one-zero K, tail-one K, evaluate_null d y) (simp (ring, K))

  pub evaluate-monomial : (r : ℕ) (y : El) → evaluate K (suc r) (monomial K r) y ≡ power K y r
  evaluate-monomial zero y = rw (monomial-zero K, power_zero y) (evaluate-one zero y)
  evaluate-monomial (suc r) y = rw (monomial-suc K r, evaluate-shift (suc r) (monomial K r) y, power-suc y r, evaluate-monomial r y)
