-- Power series over a ring are again a ring with x ⊕ x = 𝟘.
use mathlib.Core.Path.{◌≡◌, ◌∙◌, refl, fun_ext}
use Prim.Native.Nat.{ℕ, zero, suc}
use Rattle.algebra.specs.Ring.{Ring}
use Rattle.algebra.specs.Series.{Series, tail, shift, scale, zero_series, one_series, sum_series, product_series}
use Rattle.algebra.proofs.Ring.{ring, sum_left_comm, one_product}

module _ (K : Ring) where
  open K use {El, 𝟘, 𝟙, ◌⊕◌, ◌⊗◌, ⊕_assoc, ⊕_comm, ⊕_self, ⊕_zero}

  infixl 60 ◌⊕◌
  infixl 70 ◌⊗◌
  infixl 70 ◌·◌
  abbrev ◌·◌ : Series K → Series K → Series K
  ◌·◌ = product_series K

  pub product_at_zero : (p q : Series K) → product_series K p q zero ≡ p zero ⊗ q zero
  unfolding product_series
  product_at_zero p q = refl

  pub product_at_suc : (p q : Series K) (n : ℕ) → product_series K p q (suc n) ≡ p zero ⊗ q (suc n) ⊕ product_series K (tail K p) q n
  unfolding product_series
  product_at_suc p q n = refl

  product_at_one : (p q : Series K) → (p · q) (suc zero) ≡ p zero ⊗ q (suc zero) ⊕ p (suc zero) ⊗ q zero
  unfolding product_series
  product_at_one p q = refl

  -- the same by the first coefficient of q
  product_at_suc_right : (n : ℕ) (p q : Series K) → (p · q) (suc n) ≡ p (suc n) ⊗ q zero ⊕ (p · tail K q) n
  product_at_suc_right zero p q = rw (product_at_one p q, product_at_zero p (tail K q)) (simp (ring, K))
  product_at_suc_right (suc n) p q = rw (product_at_suc p q (suc n), product_at_suc_right n (tail K p) q, product_at_suc p (tail K q) n) (sum_left_comm K _ _ _)

  commutes : (n : ℕ) (p q : Series K) → (p · q) n ≡ (q · p) n
  commutes zero p q = rw (product_at_zero p q, product_at_zero q p) (simp (ring, K))
  commutes (suc n) p q = rw (product_at_suc p q n, product_at_suc_right n q p, commutes n (tail K p) q) (simp (ring, K))

  adds_shape : (a b c x y : El) → (a ⊕ b) ⊗ c ⊕ (x ⊕ y) ≡ a ⊗ c ⊕ x ⊕ (b ⊗ c ⊕ y)
  adds_shape a b c x y = simp (ring, K)

  adds : (n : ℕ) (p q r : Series K) → (sum_series K p q · r) n ≡ (p · r) n ⊕ (q · r) n
  adds zero p q r = rw (product_at_zero (sum_series K p q) r, product_at_zero p r, product_at_zero q r) (simp (ring, K))
  adds (suc n) p q r =
      rw (product_at_suc (sum_series K p q) r n, product_at_suc p r n, product_at_suc q r n, adds n (tail K p) (tail K q) r) (adds_shape _ _ _ _ _)

  scales : (c : El) (n : ℕ) (p q : Series K) → (scale K c p · q) n ≡ c ⊗ (p · q) n
  scales c zero p q = rw (product_at_zero (scale K c p) q, product_at_zero p q) (simp (ring, K))
  scales c (suc n) p q = rw (product_at_suc (scale K c p) q n, product_at_suc p q n, scales c n (tail K p) q) (simp (ring, K))

  tail-product : (p q : Series K) → tail K (p · q) ≡ sum_series K (scale K (p zero) (tail K q)) (tail K p · q)
  tail-product p q = fun_ext (product_at_suc p q)

  assoc_shape : (a b c x y : El) → a ⊗ b ⊗ c ⊕ (a ⊗ x ⊕ y) ≡ a ⊗ (b ⊗ c ⊕ x) ⊕ y
  assoc_shape a b c x y = simp (ring, K)

  associates : (n : ℕ) (p q r : Series K) → (p · q · r) n ≡ (p · (q · r)) n
  associates zero p q r = rw (product_at_zero (p · q) r, product_at_zero p q, product_at_zero p (q · r), product_at_zero q r) (simp (ring, K))
  associates (suc n) p q r =
      rw (product_at_suc (p · q) r n, product_at_zero p q, product_at_suc p (q · r) n, product_at_suc q r n, tail-product p q, adds n (scale K (p zero) (tail K q)) (tail K p · q) r, scales (p zero) n (tail K q) r, associates n (tail K p) q r)
      (assoc_shape _ _ _ _ _)

  zero_times : (n : ℕ) (p : Series K) → (zero_series K · p) n ≡ 𝟘
  zero_times zero p = rw (product_at_zero (zero_series K) p) (simp (ring, K))
  zero_times (suc n) p = rw (product_at_suc (zero_series K) p n, zero_times n p) (simp (ring, K))

  pub one-zero : one_series K zero ≡ 𝟙
  unfolding one_series
  one-zero = refl

  pub one-suc : (n : ℕ) → one_series K (suc n) ≡ 𝟘
  unfolding one_series
  one-suc n = refl

  pub tail-one : tail K (one_series K) ≡ zero_series K
  unfolding one_series
  tail-one = refl

  one_times : (n : ℕ) (p : Series K) → (one_series K · p) n ≡ p n
  one_times zero p = rw (product_at_zero (one_series K) p, one-zero) (simp (ring, K))
  one_times (suc n) p = rw (product_at_suc (one_series K) p n, one-zero, tail-one, zero_times n p) (simp (ring, K))

  pub product_associates : (p q r : Series K) → p · q · r ≡ p · (q · r)
  product_associates p q r = fun_ext (λ n. associates n p q r)

  pub product_commutes : (p q : Series K) → p · q ≡ q · p
  product_commutes p q = fun_ext (λ n. commutes n p q)

  pub product_with_one : (p : Series K) → p · one_series K ≡ p
  product_with_one p = product_commutes p (one_series K) ∙ fun_ext (λ n. one_times n p)

  pub product_of-sum : (p q r : Series K) → p · sum_series K q r ≡ sum_series K (p · q) (p · r)
  product_of-sum p q r = rw (product_commutes p (sum_series K q r), product_commutes p q, product_commutes p r) (fun_ext (λ n. adds n q r p))

  -- the series are a ring
  abbrev pub series : Ring
  series =
      record {
        El = Series K;
        𝟘 = zero_series K;
        𝟙 = one_series K;
        ◌⊕◌ = sum_series K;
        ◌⊗◌ = product_series K;
        ⊕_assoc = λ p q r. fun_ext (λ n. ⊕_assoc (p n) (q n) (r n));
        ⊕_comm = λ p q. fun_ext (λ n. ⊕_comm (p n) (q n));
        ⊕_self = λ p. fun_ext (λ n. ⊕_self (p n));
        ⊕_zero = λ p. fun_ext (λ n. ⊕_zero (p n));
        ⊗_assoc = product_associates;
        ⊗_comm = product_commutes;
        ⊗_one = product_with_one;
        ⊗_over_⊕ = product_of-sum;
      }

  pub shift_zero : (p : Series K) → shift K p zero ≡ 𝟘
  unfolding shift
  shift_zero p = refl

  pub shift_suc : (p : Series K) (n : ℕ) → shift K p (suc n) ≡ p n
  unfolding shift
  shift_suc p n = refl

  pub tail-shift : (p : Series K) → tail K (shift K p) ≡ p
  unfolding shift
  tail-shift p = refl

  shift_times : (p q : Series K) (n : ℕ) → (shift K p · q) n ≡ shift K (p · q) n
  shift_times p q zero = rw (product_at_zero (shift K p) q, shift_zero p, shift_zero (p · q)) (simp (ring, K))
  shift_times p q (suc n) = rw (product_at_suc (shift K p) q n, shift_zero p, tail-shift p, shift_suc (p · q) n) (simp (ring, K))

  pub shift-product : (p q : Series K) → shift K p · q ≡ shift K (p · q)
  shift-product p q = fun_ext (shift_times p q)

  pub scale-product : (c : El) (p q : Series K) → scale K c p · q ≡ scale K c (p · q)
  scale-product c p q = fun_ext (λ n. scales c n p q)

module _ (K : Ring) where
  open K use {El, 𝟙, ◌⊕◌, ◌⊗◌}
  open series K use {◌⊕◌ as ◌⊕ˢ◌, ◌⊗◌ as ◌⊗ˢ◌}

  infixl 60 ◌⊕◌ ◌⊕ˢ◌
  infixl 70 ◌⊗◌ ◌⊗ˢ◌
  -- the series x, and the series of one coefficient
  abbrev pub indeterminate : Series K
  indeterminate = shift K (one_series K)

  abbrev pub constant : El → Series K
  constant c = scale K c (one_series K)

  pub shift_is_product : (p : Series K) → shift K p ≡ indeterminate ⊗ˢ p
  shift_is_product p = rw (shift-product K (one_series K) p, one_product (series K) p)

  pub scale_is_product : (c : El) (p : Series K) → scale K c p ≡ constant c ⊗ˢ p
  scale_is_product c p = rw (scale-product K c (one_series K) p, one_product (series K) p)

  pub constants_multiply : (c d : El) → constant c ⊗ˢ constant d ≡ constant (c ⊗ d)
  constants_multiply c d = rw (← scale_is_product c (constant d)) (fun_ext (λ n. simp (ring, K)))

  pub constant-one : constant 𝟙 ≡ one_series K
  constant-one = fun_ext (λ n. simp (ring, K))

  -- a product by the first coefficient of p and the rest
  pub split_product : (p q : Series K) → p ⊗ˢ q ≡ scale K (p zero) q ⊕ˢ shift K (tail K p ⊗ˢ q)
  split_product p q = fun_ext at
    where
      at : (n : ℕ) → (p ⊗ˢ q) n ≡ p zero ⊗ q n ⊕ shift K (tail K p ⊗ˢ q) n
      at zero = rw (product_at_zero K p q, shift_zero K (tail K p ⊗ˢ q)) (simp (ring, K))
      at (suc n) = rw (product_at_suc K p q n, shift_suc K (tail K p ⊗ˢ q) n)

  -- x to the r
  unfoldable pub monomial : ℕ → Series K
  monomial zero = one_series K
  monomial (suc r) = shift K (monomial r)

  pub monomial-zero : monomial zero ≡ one_series K
  unfolding monomial
  monomial-zero = refl

  pub monomial-suc : (r : ℕ) → monomial (suc r) ≡ shift K (monomial r)
  unfolding monomial
  monomial-suc r = refl

  -- place r of x^r times p is the first place of p
  pub monomial-product : (r : ℕ) (p : Series K) → (monomial r ⊗ˢ p) r ≡ p zero
  monomial-product zero p = rw (monomial-zero, one_product (series K) p)
  monomial-product (suc r) p =
      rw (monomial-suc r, shift-product K (monomial r) p, shift_suc K (monomial r ⊗ˢ p) r) (monomial-product r p)

  pub monomial_at : (r : ℕ) → monomial r r ≡ 𝟙
  monomial_at zero = rw monomial-zero (one-zero K)
  monomial_at (suc r) = rw (monomial-suc r, shift_suc K (monomial r) r) (monomial_at r)

  pub shift-sum : (p q : Series K) → shift K (p ⊕ˢ q) ≡ shift K p ⊕ˢ shift K q
  shift-sum p q = rw (shift_is_product (p ⊕ˢ q), shift_is_product p, shift_is_product q) (product_of-sum K indeterminate p q)
