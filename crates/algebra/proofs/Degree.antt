-- Degree bounds of series, and series that agree below a place.
use mathlib.Core.Path.{◌≡◌, ◌∙◌, refl, sym, ap, ap₂, fun_ext}
use mathlib.Core.Logic.{⊎_elim, by_cases}
use Prim.Native.Nat.{ℕ, zero, suc, ◌+◌, ◌≤◌}
use native.Mathlib.Nat.{eq-or-lt_of_le, le_of_suc-le-suc}
use native.Mathlib.Decide.{dec_lt}
use native.Mathlib.Omega.{arith}
use Rattle.algebra.specs.Ring.{Ring}
use Rattle.algebra.specs.Series.{Series, tail, shift, scale, zero_series, one_series, ZeroFrom, EqualBelow}
use Rattle.algebra.proofs.Ring.{ring, sum-zero, product-zero, zero-product, product_comm}
use Rattle.algebra.proofs.Series.{series, product_at_zero, product_at_suc, one-suc, shift_zero, shift_suc, monomial, monomial-zero, monomial-suc}

module _ (K : Ring) where
  open K use {El, 𝟘, ◌⊕◌, ◌⊗◌}
  open series K use {◌⊕◌ as ◌⊕ˢ◌, ◌⊗◌ as ◌⊗ˢ◌}

  infixl 60 ◌⊕◌ ◌⊕ˢ◌
  infixl 70 ◌⊗◌ ◌⊗ˢ◌
  pub zero_from_weaken : (p : Series K) (a b : ℕ) → a ≤ b → ZeroFrom K a p → ZeroFrom K b p
  zero_from_weaken p a b l z = λ n h. z n (omega arith)

  pub zero_from_sum : (a : ℕ) (p q : Series K) → ZeroFrom K a p → ZeroFrom K a q → ZeroFrom K a (p ⊕ˢ q)
  zero_from_sum a p q y z = λ n h. ap₂ ◌⊕◌ (y n h) (z n h) ∙ sum-zero K 𝟘

  pub zero_from_scale : (a : ℕ) (c : El) (p : Series K) → ZeroFrom K a p → ZeroFrom K a (scale K c p)
  zero_from_scale a c p z = λ n h. ap (◌⊗◌ c) (z n h) ∙ product-zero K c

  pub zero_from_shift : (a : ℕ) (p : Series K) → ZeroFrom K a p → ZeroFrom K (suc a) (shift K p)
  zero_from_shift a p z zero h = shift_zero K p
  zero_from_shift a p z (suc n) h = shift_suc K p n ∙ z n (omega arith)

  pub zero_from_zero : (p : Series K) → ZeroFrom K zero p → p ≡ zero_series K
  zero_from_zero p z = fun_ext (λ n. z n (omega arith))

  pub zero_from_product : (a b : ℕ) (p q : Series K) → ZeroFrom K a p → ZeroFrom K (suc b) q → ZeroFrom K (a + b) (p ⊗ˢ q)
  zero_from_product zero b p q y z n h = rw (zero_from_zero p y, zero-product (series K) q)
  zero_from_product (suc a) b p q y z zero h = absurd (omega arith)
  zero_from_product (suc a) b p q y z (suc n) h =
      rw (product_at_suc K p q n, z (suc n) (omega arith), zero_from_product a b (tail K p) q (λ m l. y (suc m) (omega arith)) z n (omega arith))
      (simp (ring, K))

  pub below_refl : (r : ℕ) (p : Series K) → EqualBelow K r p p
  below_refl r p n h = refl

  pub below_weaken : (r s : ℕ) (p q : Series K) → r ≤ s → EqualBelow K s p q → EqualBelow K r p q
  below_weaken r s p q l e n h = e n (omega arith)

  pub below_shift : (r : ℕ) (p q : Series K) → EqualBelow K r p q → EqualBelow K (suc r) (shift K p) (shift K q)
  below_shift r p q e zero h = shift_zero K p ∙ sym (shift_zero K q)
  below_shift r p q e (suc n) h = rw (shift_suc K p n, shift_suc K q n) (e n (omega arith))

  product_at : (n : ℕ) (p q u : Series K) → EqualBelow K (suc n) p q → (p ⊗ˢ u) n ≡ (q ⊗ˢ u) n
  product_at zero p q u e = rw (product_at_zero K p u, product_at_zero K q u, e zero (omega arith))
  product_at (suc n) p q u e =
      rw (product_at_suc K p u n, product_at_suc K q u n, e zero (omega arith), product_at n (tail K p) (tail K q) u (λ m h. e (suc m) (omega arith)))

  pub below_product : (r : ℕ) (p q u : Series K) → EqualBelow K r p q → EqualBelow K r (p ⊗ˢ u) (q ⊗ˢ u)
  below_product r p q u e n h = product_at n p q u (λ m l. e m (omega arith))

  pub product_below : (r : ℕ) (u p q : Series K) → EqualBelow K r p q → EqualBelow K r (u ⊗ˢ p) (u ⊗ˢ q)
  product_below r u p q e = rw (product_comm (series K) u p, product_comm (series K) u q) (below_product r p q u e)

  -- one place more
  pub below_extend : (r : ℕ) (p q : Series K) → EqualBelow K r p q → p r ≡ q r → EqualBelow K (suc r) p q
  below_extend r p q e f n h = ⊎_elim (λ s. rw s f) (e n) (eq-or-lt_of_le (le_of_suc-le-suc h))

  -- two series of degree below r that agree below r are equal
  pub equal_of_below : (r : ℕ) (p q : Series K) → EqualBelow K r p q → ZeroFrom K r p → ZeroFrom K r q → p ≡ q
  equal_of_below r p q e y z = fun_ext (λ n. by_cases (dec_lt n r) (e n) (λ h. y n (omega arith) ∙ sym (z n (omega arith))))

  pub monomial_below : (r : ℕ) → EqualBelow K r (monomial K r) (zero_series K)
  monomial_below zero n h = absurd (omega arith)
  monomial_below (suc r) zero h = rw (monomial-suc K r) (shift_zero K (monomial K r))
  monomial_below (suc r) (suc n) h = rw (monomial-suc K r, shift_suc K (monomial K r) n) (monomial_below r n (omega arith))

  pub one_from : ZeroFrom K (suc zero) (one_series K)
  one_from zero h = absurd (omega arith)
  one_from (suc n) h = one-suc K n

  pub monomial_from : (r : ℕ) → ZeroFrom K (suc r) (monomial K r)
  monomial_from zero = rw (monomial-zero K) one_from
  monomial_from (suc r) = rw (monomial-suc K r) (zero_from_shift (suc r) (monomial K r) (monomial_from r))

  -- a series that vanishes below r, times one without a first coefficient, vanishes at r too
  pub product_vanishes : (r : ℕ) (b u : Series K) → b zero ≡ 𝟘 → EqualBelow K r u (zero_series K) → (b ⊗ˢ u) r ≡ 𝟘
  product_vanishes zero b u h e = rw (product_at_zero K b u, h) (zero-product K (u zero))
  product_vanishes (suc n) b u h e =
      rw (product_at_suc K b u n, h, product_below (suc n) (tail K b) u (zero_series K) e n (omega arith), product-zero (series K) (tail K b)) (simp (ring, K))
