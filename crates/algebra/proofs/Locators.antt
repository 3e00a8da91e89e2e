-- The polynomials of a list of elements: Λ, whose roots are their inverses, and Ω, which is Λ times the power sums.
use mathlib.Core.Path.{◌≡◌, ◌∙◌, refl, sym, ap, ap₂, fun_ext}
use mathlib.Core.Logic.{◌≢◌, by_cases}
use mathlib.Core.List.Memᴰ
use mathlib.Core.List.{List, [], ◌∷◌, Memᴰ}
use Prim.Native.Nat.{ℕ, zero, suc}
use native.Mathlib.Omega.{arith}
use lib.ListN.{length}
use Rattle.algebra.specs.Ring.{Ring, Field}
use Rattle.algebra.specs.Series.{Series, shift, scale, zero_series, one_series, ZeroFrom, Distinct, evaluate, power}
use Rattle.algebra.specs.Key.{power_sums}
use Rattle.algebra.proofs.Ring.{ring, zero-sum, sum-zero, product-zero, zero-product, sum_of_equal, equal_of_sum}
use Rattle.algebra.proofs.Series.{series, one-zero, one-suc, shift_zero, shift_suc, indeterminate, constant, shift_is_product, scale_is_product}
use Rattle.algebra.proofs.Degree.{zero_from_weaken, zero_from_sum, zero_from_scale, zero_from_shift, one_from}
use Rattle.algebra.proofs.Evaluate.{power_zero, power-suc, evaluate-sum, evaluate-scale, evaluate-shift, evaluate_past, evaluate-one}
use Rattle.algebra.proofs.Field.{no_zero_divisor, product_not_zero, equal_of_inverse}

-- the identities below, over plain variables
module _ (K : Ring) where
  open K use {El, 𝟙, ◌⊕◌, ◌⊗◌}

  infixl 60 ◌⊕◌
  infixl 70 ◌⊗◌
  key_shape : (l g s c x : El) → (l ⊕ c ⊗ (x ⊗ l)) ⊗ (g ⊕ s) ≡ l ⊗ s ⊕ c ⊗ (x ⊗ (l ⊗ s)) ⊕ (g ⊕ c ⊗ (x ⊗ g)) ⊗ l
  key_shape l g s c x = simp (ring, K)

  factor_shape : (v c y : El) → v ⊕ c ⊗ (y ⊗ v) ≡ (𝟙 ⊕ c ⊗ y) ⊗ v
  factor_shape v c y = simp (ring, K)

module _ (K : Ring) where
  open K use {El, 𝟙, ◌⊕◌, ◌⊗◌}
  open series K use {◌⊕◌ as ◌⊕ˢ◌, ◌⊗◌ as ◌⊗ˢ◌}

  infixl 60 ◌⊕◌ ◌⊕ˢ◌
  infixl 70 ◌⊗◌ ◌⊗ˢ◌
  -- 1 + c x times p
  abbrev pub lengthened : El → Series K → Series K
  lengthened c p = p ⊕ˢ scale K c (shift K p)

  -- the product of 1 + X x over the X of the list
  unfoldable pub locator : List El → Series K
  locator [] = one_series K
  locator (X ∷ E) = lengthened X (locator E)

  -- what the locator times the power sums is
  unfoldable pub evaluator : List El → Series K
  evaluator [] = zero_series K
  evaluator (X ∷ E) = lengthened X (evaluator E) ⊕ˢ scale K X (locator E)

  pub locator-nil : locator [] ≡ one_series K
  unfolding locator
  locator-nil = refl

  pub locator-cons : (X : El) (E : List El) → locator (X ∷ E) ≡ lengthened X (locator E)
  unfolding locator
  locator-cons X E = refl

  pub evaluator-nil : evaluator [] ≡ zero_series K
  unfolding evaluator
  evaluator-nil = refl

  pub evaluator-cons : (X : El) (E : List El) → evaluator (X ∷ E) ≡ lengthened X (evaluator E) ⊕ˢ scale K X (locator E)
  unfolding evaluator
  evaluator-cons X E = refl

  lengthened_from : (a : ℕ) (c : El) (p : Series K) → ZeroFrom K a p → ZeroFrom K (suc a) (lengthened c p)
  lengthened_from a c p z =
      zero_from_sum K (suc a) p (scale K c (shift K p)) (zero_from_weaken K p a (suc a) (omega arith) z) (zero_from_scale K (suc a) c (shift K p) (zero_from_shift K a p z))

  pub locator_from : (E : List El) → ZeroFrom K (suc (length E)) (locator E)
  locator_from [] = rw locator-nil (one_from K)
  locator_from (X ∷ E) = rw (locator-cons X E) (lengthened_from (suc (length E)) X (locator E) (locator_from E))

  pub evaluator_from : (E : List El) → ZeroFrom K (length E) (evaluator E)
  evaluator_from [] = rw evaluator-nil (λ n h. refl)
  evaluator_from (X ∷ E) =
      rw (evaluator-cons X E)
      (zero_from_sum K (suc (length E)) (lengthened X (evaluator E)) (scale K X (locator E))
      (lengthened_from (length E) X (evaluator E) (evaluator_from E))
      (zero_from_scale K (suc (length E)) X (locator E) (locator_from E)))

  pub locator-one : (E : List El) → locator E zero ≡ 𝟙
  locator-one [] = rw locator-nil (one-zero K)
  locator-one (X ∷ E) = rw (locator-cons X E) (ap₂ (λ a b. a ⊕ X ⊗ b) (locator-one E) (shift_zero K (locator E)) ∙ simp (ring, K))

  lengthened_is : (c : El) (p : Series K) → lengthened c p ≡ p ⊕ˢ constant K c ⊗ˢ (indeterminate K ⊗ˢ p)
  lengthened_is c p = ap (◌⊕ˢ◌ p) (scale_is_product K c (shift K p) ∙ ap (◌⊗ˢ◌ (constant K c)) (shift_is_product K p))

  -- X, X², X³, ..
  abbrev pub powers : El → Series K
  powers X = λ j. power K X (suc j)

  lengthened-powers : (X : El) → lengthened X (powers X) ≡ constant K X
  lengthened-powers X = fun_ext at
    where
      at : (n : ℕ) → lengthened X (powers X) n ≡ X ⊗ one_series K n
      at zero = ap₂ (λ a b. a ⊕ X ⊗ b) (power-suc K X zero ∙ ap (◌⊗◌ X) (power_zero K X)) (shift_zero K (powers X)) ∙ rw (one-zero K) (simp (ring, K))
      at (suc n) = ap₂ (λ a b. a ⊕ X ⊗ b) (power-suc K X (suc n)) (shift_suc K (powers X) n) ∙ rw (one-suc K n) (simp (ring, K))

  -- the value of a lengthened polynomial
  lengthened_value : (d : ℕ) (c : El) (p : Series K) (y : El) → ZeroFrom K d p → evaluate K (suc d) (lengthened c p) y ≡ (𝟙 ⊕ c ⊗ y) ⊗ evaluate K d p y
  lengthened_value d c p y z =
      rw (evaluate-sum K (suc d) p (scale K c (shift K p)) y, evaluate-scale K (suc d) c (shift K p) y, evaluate-shift K d p y, evaluate_past K d (suc d) p y z (omega arith))
      (factor_shape K _ _ _)

  locator_value : (X : El) (E : List El) (y : El) → evaluate K (suc (suc (length E))) (locator (X ∷ E)) y ≡ (𝟙 ⊕ X ⊗ y) ⊗ evaluate K (suc (length E)) (locator E) y
  locator_value X E y = rw (locator-cons X E) (lengthened_value (suc (length E)) X (locator E) y (locator_from E))

  evaluator_value : (X : El) (E : List El) (y : El) → evaluate K (suc (length E)) (evaluator (X ∷ E)) y ≡ (𝟙 ⊕ X ⊗ y) ⊗ evaluate K (length E) (evaluator E) y ⊕ X ⊗ evaluate K (suc (length E)) (locator E) y
  evaluator_value X E y =
      rw (evaluator-cons X E, evaluate-sum K (suc (length E)) (lengthened X (evaluator E)) (scale K X (locator E)) y, lengthened_value (length E) X (evaluator E) y (evaluator_from E), evaluate-scale K (suc (length E)) X (locator E) y)

module _ (F : Field) where
  open F use {ring as K, inverse, zero?, one_not_zero, inverse_law}
  open K use {El, 𝟘, 𝟙, ◌⊕◌, ◌⊗◌}
  open series K use {◌⊕◌ as ◌⊕ˢ◌, ◌⊗◌ as ◌⊗ˢ◌}

  infixl 60 ◌⊕◌ ◌⊕ˢ◌
  infixl 70 ◌⊗◌ ◌⊗ˢ◌
  pub power_sums-nil : power_sums F [] ≡ zero_series K
  unfolding power_sums
  power_sums-nil = refl

  pub power_sums-cons : (X : El) (E : List El) → power_sums F (X ∷ E) ≡ powers K X ⊕ˢ power_sums F E
  unfolding power_sums
  power_sums-cons X E = refl

  -- the locator times the power sums is the evaluator
  pub locator_sums : (E : List El) → locator K E ⊗ˢ power_sums F E ≡ evaluator K E
  locator_sums [] = rw (power_sums-nil, evaluator-nil K) (product-zero (series K) (locator K []))
  locator_sums (X ∷ E) =
      rw (locator-cons K X E, power_sums-cons X E, evaluator-cons K X E, lengthened_is K X (locator K E), key_shape (series K) (locator K E) (powers K X) (power_sums F E) (constant K X) (indeterminate K), locator_sums E, ← lengthened_is K X (evaluator K E), ← lengthened_is K X (powers K X), lengthened-powers K X, ← scale_is_product K X (locator K E))

  -- 1 + Z / X is 𝟘 exactly if Z is X
  factor_zero : (X Z : El) → X ≢ 𝟘 → X ≡ Z → 𝟙 ⊕ Z ⊗ inverse X ≡ 𝟘
  factor_zero X Z n e = sum_of_equal K 𝟙 (Z ⊗ inverse X) (rw (← e) (sym (inverse_law X n)))

  factor_equal : (X Z : El) → X ≢ 𝟘 → 𝟙 ⊕ Z ⊗ inverse X ≡ 𝟘 → Z ≡ X
  factor_equal X Z n h = equal_of_inverse F X Z n (sym (equal_of_sum K 𝟙 (Z ⊗ inverse X) h))

  -- at the inverse of X the locator is zero exactly if X is in the list
  pub locator_rooted : (X : El) (E : List El) → X ≢ 𝟘 → Memᴰ X E → evaluate K (suc (length E)) (locator K E) (inverse X) ≡ 𝟘
  locator_rooted X [] n x = elim x [ ]
  locator_rooted X (Z ∷ E) n (Memᴰ.head e) = rw (locator_value K Z E (inverse X), factor_zero X Z n e) (zero-product K _)
  locator_rooted X (Z ∷ E) n (Memᴰ.tail m) = rw (locator_value K Z E (inverse X), locator_rooted X E n m) (product-zero K _)

  pub locator_root : (X : El) (E : List El) → X ≢ 𝟘 → evaluate K (suc (length E)) (locator K E) (inverse X) ≡ 𝟘 → Memᴰ X E
  locator_root X [] n h = absurd (one_not_zero (sym (evaluate-one K zero (inverse X)) ∙ (rw (locator-nil K) at h)))
  locator_root X (Z ∷ E) n h =
      by_cases (zero? (𝟙 ⊕ Z ⊗ inverse X))
      (λ e. Memᴰ.head (sym (factor_equal X Z n e)))
      (λ f. Memᴰ.tail (locator_root X E n (no_zero_divisor F (𝟙 ⊕ Z ⊗ inverse X) _ (sym (locator_value K Z E (inverse X)) ∙ h) f)))

  evaluator_head : (X Z : El) (E : List El) → X ≢ 𝟘 → X ≡ Z → evaluate K (suc (length E)) (evaluator K (Z ∷ E)) (inverse X) ≡ Z ⊗ evaluate K (suc (length E)) (locator K E) (inverse X)
  evaluator_head X Z E n e = rw (evaluator_value K Z E (inverse X), factor_zero X Z n e, zero-product K) (zero-sum K _)

  evaluator-tail : (X Z : El) (E : List El) → X ≢ 𝟘 → Memᴰ X E → evaluate K (suc (length E)) (evaluator K (Z ∷ E)) (inverse X) ≡ (𝟙 ⊕ Z ⊗ inverse X) ⊗ evaluate K (length E) (evaluator K E) (inverse X)
  evaluator-tail X Z E n m = rw (evaluator_value K Z E (inverse X), locator_rooted X E n m, product-zero K Z) (sum-zero K _)

  -- and there the evaluator is not zero
  pub evaluator_not_zero : (X : El) (E : List El) → Distinct K E → ((Z : El) → Memᴰ Z E → Z ≢ 𝟘) → Memᴰ X E → evaluate K (length E) (evaluator K E) (inverse X) ≢ 𝟘
  evaluator_not_zero X [] u n x h = elim x [ ]
  evaluator_not_zero X (Z ∷ E) u n (Memᴰ.head e) h =
      let x : X ≢ 𝟘 = n X (Memᴰ.head e) in
      let r : evaluate K (suc (length E)) (locator K E) (inverse X) ≡ 𝟘 = no_zero_divisor F Z _ (sym (evaluator_head X Z E x e) ∙ h) (n Z (Memᴰ.head refl)) in
      u.0 (Memᴰ.cast (sym e) (locator_root X E x r))
  evaluator_not_zero X (Z ∷ E) u n (Memᴰ.tail m) h =
      let x : X ≢ 𝟘 = n X (Memᴰ.tail m) in
      product_not_zero F (𝟙 ⊕ Z ⊗ inverse X) (evaluate K (length E) (evaluator K E) (inverse X))
      (λ q. u.0 (Memᴰ.cast (factor_equal X Z x q) m))
      (evaluator_not_zero X E u.1 (λ Y y. n Y (Memᴰ.tail y)) m)
      (sym (evaluator-tail X Z E x m) ∙ h)
