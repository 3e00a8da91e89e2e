-- The root bound: d coefficients that vanish at d distinct points are all zero.
use mathlib.Core.Path.{◌≡◌, ◌∙◌, refl, sym}
use mathlib.Core.List.Memᴰ
use mathlib.Core.List.{List, [], ◌∷◌, Memᴰ}
use Prim.Native.Nat.{ℕ, zero, suc, ◌<◌}
use native.Mathlib.Omega.{arith}
use lib.ListN.{length}
use Rattle.algebra.specs.Ring.{Ring, Field}
use Rattle.algebra.specs.Series.{Series, tail, zero_series, EqualBelow, Distinct, evaluate}
use Rattle.algebra.proofs.Ring.{ring, zero-sum, equal_of_sum}
use Rattle.algebra.proofs.Evaluate.{evaluate-zero, evaluate-suc}
use Rattle.algebra.proofs.Field.{no_zero_divisor}

module _ (K : Ring) where
  open K use {El, 𝟘, ◌⊕◌, ◌⊗◌}

  infixl 60 ◌⊕◌
  infixl 70 ◌⊗◌
  -- synthetic division of the first e + 1 coefficients of p by x ⊕ y
  quotient : ℕ → Series K → El → Series K
  quotient e p y zero = evaluate K e (tail K p) y
  quotient zero p y (suc n) = 𝟘
  quotient (suc e) p y (suc n) = quotient e (tail K p) y n

  quotient_zero : (e : ℕ) (p : Series K) (y : El) → quotient e p y zero ≡ evaluate K e (tail K p) y
  unfolding quotient
  quotient_zero zero p y = refl
  quotient_zero (suc e) p y = refl

  tail_quotient : (e : ℕ) (p : Series K) (y : El) → tail K (quotient (suc e) p y) ≡ quotient e (tail K p) y
  unfolding quotient
  tail_quotient e p y = refl

  nothing_shape : (a y z : El) → a ⊕ z ⊗ 𝟘 ≡ a ⊕ y ⊗ 𝟘 ⊕ (z ⊕ y) ⊗ 𝟘
  nothing_shape a y z = simp (ring, K)

  division_shape : (a y z u v : El) → a ⊕ z ⊗ (u ⊕ (z ⊕ y) ⊗ v) ≡ a ⊕ y ⊗ u ⊕ (z ⊕ y) ⊗ (u ⊕ z ⊗ v)
  division_shape a y z u v = simp (ring, K)

  division : (e : ℕ) (p : Series K) (y z : El) → evaluate K (suc e) p z ≡ evaluate K (suc e) p y ⊕ (z ⊕ y) ⊗ evaluate K e (quotient e p y) z
  division zero p y z =
      rw (evaluate-suc K zero p z, evaluate-suc K zero p y, evaluate-zero K (tail K p) z, evaluate-zero K (tail K p) y, evaluate-zero K (quotient zero p y) z)
      (nothing_shape _ _ _)
  division (suc e) p y z =
      rw (evaluate-suc K (suc e) p z, evaluate-suc K (suc e) p y, evaluate-suc K e (quotient (suc e) p y) z, quotient_zero (suc e) p y, tail_quotient e p y, division e (tail K p) y z)
      (division_shape _ _ _ _ _)

  -- at a second zero the quotient times z ⊕ y is zero
  divided : (e : ℕ) (p : Series K) (y z : El) → evaluate K (suc e) p y ≡ 𝟘 → evaluate K (suc e) p z ≡ 𝟘 → (z ⊕ y) ⊗ evaluate K e (quotient e p y) z ≡ 𝟘
  divided e p y z h k = sym (zero-sum K _) ∙ (rw (division e p y z, h) at k)

  rest_shape : (a y : El) → a ≡ a ⊕ y ⊗ 𝟘
  rest_shape a y = simp (ring, K)

  first_coefficient : (e : ℕ) (p : Series K) (y : El) → evaluate K (suc e) p y ≡ 𝟘 → evaluate K e (tail K p) y ≡ 𝟘 → p zero ≡ 𝟘
  first_coefficient e p y h k = rest_shape (p zero) y ∙ (rw (evaluate-suc K e p y, k) at h)

  -- no remainder and no quotient: all coefficients are zero
  undivided : (e : ℕ) (p : Series K) (y : El) → evaluate K (suc e) p y ≡ 𝟘 → EqualBelow K e (quotient e p y) (zero_series K) → EqualBelow K (suc e) p (zero_series K)
  undivided zero p y h q zero l = first_coefficient zero p y h (evaluate-zero K (tail K p) y)
  undivided zero p y h q (suc n) l = absurd (omega arith)
  undivided (suc e) p y h q zero l = first_coefficient (suc e) p y h (sym (quotient_zero (suc e) p y) ∙ q zero (omega arith))
  undivided (suc e) p y h q (suc n) l =
      undivided e (tail K p) y (sym (quotient_zero (suc e) p y) ∙ q zero (omega arith)) (rw (← tail_quotient e p y) (λ m k. q (suc m) (omega arith))) n (omega arith)

module _ (F : Field) where
  open F use {ring as K}
  open K use {El, 𝟘, ◌⊕◌}

  infixl 60 ◌⊕◌
  vanish : (ys : List El) (p : Series K) → Distinct K ys → ((y : El) → Memᴰ y ys → evaluate K (length ys) p y ≡ 𝟘) → EqualBelow K (length ys) p (zero_series K)
  vanish [] p d h = λ n l. absurd (omega arith)
  vanish (y ∷ ys) p d h =
      undivided K (length ys) p y (h y (Memᴰ.head refl)) (vanish ys (quotient K (length ys) p y) d.1 at)
    where
      at : (z : El) → Memᴰ z ys → evaluate K (length ys) (quotient K (length ys) p y) z ≡ 𝟘
      at z m =
          no_zero_divisor F (z ⊕ y) (evaluate K (length ys) (quotient K (length ys) p y) z)
          (divided K (length ys) p y z (h y (Memᴰ.head refl)) (h z (Memᴰ.tail m)))
          (λ e. d.0 (Memᴰ.cast (sym (equal_of_sum K z y e)) m))

  pub vanishing : (d : ℕ) (p : Series K) (ys : List El) → Distinct K ys → length ys ≡ d → ((y : El) → Memᴰ y ys → evaluate K d p y ≡ 𝟘) → (i : ℕ) → i < d → p i ≡ 𝟘
  vanishing d p ys u e h = rw (← e) (vanish ys p u (rw e h))
