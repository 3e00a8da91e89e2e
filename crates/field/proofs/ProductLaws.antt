-- The laws of the polynomial product, of the remainder and of the field's product.
use mathlib.Core.Path.{◌≡◌, ◌∙◌, refl, sym, ap, ap₂}
use mathlib.Core.Bool.{Bool}
use Prim.Native.Nat.{ℕ, suc, ◌*◌, ◌/◌, ◌%◌, ◌^◌, ◌≤◌, ◌<◌}
use native.Mathlib.Nat.{zero-div, zero-mul, one-mul, mul-one, pow-suc, div-eq_of_lt, div-eq_of_lt-le, div-lt_iff_lt-mul, mod-eq_of_lt}
use native.Mathlib.Omega.{arith}
use lib.Arith.{bin_ind}
use lib.Dec.{T, leb, ltb, leb→le, ltb→lt}
use lib.Pow.{pow-lt, pow_pos}
use Rattle.field.specs.Sum.{◌⊕◌}
use Rattle.field.specs.Product.{polynomials, polynomial, IsField, horner, carryless, shifted, remainder, ◌⊗⟨◌⟩◌}
use Rattle.field.proofs.SumLaws.{sum, sum-zero, zero-sum, sum_self, sum_bound, sum_above, sum_exchange, sum_double, digit_cases, digit_times, digits_sum}
use Rattle.field.proofs.Tests.{both, both_left, both_right, passes, at_listed}
use Rattle.field.proofs.Horner.{Additive, double_additive, horner-digits, horner-zero, horner-one, horner_double}
use Rattle.field.proofs.Horner.{horner_carry, sum-horner, digit_horner, zero-horner, start_additive, digits_additive}

pub shifted_additive : (m p : ℕ) → Additive (shifted m p)
unfolding shifted
shifted_additive m p =
    record {
      at_zero = simp (zero-div, zero-mul, zero-sum);
      at_sum = λ x y.
          ap₂ (λ s t. s ⊕ t) (sum_double x y)
          (ap (λ s. s / 2 ^ m % 2 * p) (sum_double x y)
          ∙ ap (λ s. s % 2 * p) (sum_above (2 * x) (2 * y) m)
          ∙ digit_times (2 * x / 2 ^ m) (2 * y / 2 ^ m) p)
          ∙ sum_exchange (2 * x) (2 * y) (2 * x / 2 ^ m % 2 * p) (2 * y / 2 ^ m % 2 * p);
    }

-- the polynomial product

pub one-carryless : (x : ℕ) → carryless 1 x ≡ x
unfolding carryless
one-carryless =
    bin_ind (λ x. carryless 1 x ≡ x) (horner-zero (λ z. 2 * z) 1)
    (λ x ih. horner-digits (λ z. 2 * z) refl 1 x ∙ ap₂ (λ s t. s ⊕ 2 * t) (mul-one (x % 2)) ih ∙ digits_sum x)

pub digit_carryless : (d y : ℕ) → carryless (d % 2) y ≡ d % 2 * y
unfolding carryless
digit_carryless d y =
    ap (λ z. carryless z y) (sym (mul-one (d % 2))) ∙ digit_horner double_additive d 1 y ∙ ap (λ z. d % 2 * z) (one-carryless y)

pub double_carryless : (x y : ℕ) → carryless (2 * x) y ≡ 2 * carryless x y
unfolding carryless
double_carryless x y = sym (horner_carry double_additive double_additive double_additive (λ z. refl) x y)

pub sum-carryless : (x z y : ℕ) → carryless (x ⊕ z) y ≡ carryless x y ⊕ carryless z y
unfolding carryless
sum-carryless = sum-horner double_additive

pub zero-carryless : (y : ℕ) → carryless 0 y ≡ 0
unfolding carryless
zero-carryless = zero-horner double_additive

pub carryless-zero : (x : ℕ) → carryless x 0 ≡ 0
unfolding carryless
carryless-zero x = horner-zero (λ z. 2 * z) x

-- by the digits of y
carryless-digits : (x y : ℕ) → carryless x y ≡ (y % 2 * x) ⊕ 2 * carryless x (y / 2)
unfolding carryless
carryless-digits = horner-digits (λ z. 2 * z) refl

-- and by those of x
digits-carryless : (x y : ℕ) → carryless x y ≡ (x % 2 * y) ⊕ 2 * carryless (x / 2) y
digits-carryless x y =
    ap (λ z. carryless z y) (sym (digits_sum x))
    ∙ sum-carryless (x % 2) (2 * (x / 2)) y
    ∙ ap₂ (λ s t. s ⊕ t) (digit_carryless x y) (double_carryless (x / 2) y)

pub carryless_comm : (x y : ℕ) → carryless x y ≡ carryless y x
carryless_comm x =
    bin_ind (λ y. carryless x y ≡ carryless y x) (carryless-zero x ∙ sym (zero-carryless x))
    (λ y ih. carryless-digits x y ∙ ap (λ z. (y % 2 * x) ⊕ 2 * z) ih ∙ sym (digits-carryless y x))

-- the remainder, of any p

module _ (m p : ℕ) where
  pub remainder_additive : Additive (remainder m p)
  unfolding remainder
  remainder_additive = digits_additive (shifted_additive m p) 1

  -- one step of the long division
  pub remainder-digits : (x : ℕ) → remainder m p x ≡ (x % 2) ⊕ shifted m p (remainder m p (x / 2))
  unfolding remainder
  remainder-digits x =
      horner-digits (shifted m p) (shifted_additive m p).at_zero 1 x
      ∙ ap (λ z. z ⊕ shifted m p (remainder m p (x / 2))) (mul-one (x % 2))

  pub remainder_double : (x : ℕ) → remainder m p (2 * x) ≡ shifted m p (remainder m p x)
  unfolding remainder
  remainder_double = horner_double (shifted_additive m p) 1

  remainder-carryless : (x y : ℕ) → remainder m p (carryless x y) ≡ horner (shifted m p) (remainder m p x) y
  unfolding carryless
  remainder-carryless = horner_carry remainder_additive double_additive (shifted_additive m p) remainder_double

  pub shifted_clause : (z : ℕ) → shifted m p z ≡ 2 * z ⊕ (2 * z / 2 ^ m % 2 * p)
  unfolding shifted
  shifted_clause z = refl

  regroup : (x y z w : ℕ) → z ⊕ (y ⊕ w) ≡ x ⊕ y ⊕ (z ⊕ (w ⊕ x))
  regroup x y z w = simp sum

  -- what is taken away is a multiple of p
  pub quotient : (x : ℕ) → (q : ℕ) × (x ≡ carryless q p ⊕ remainder m p x)
  quotient =
      bin_ind (λ x. (q : ℕ) × (x ≡ carryless q p ⊕ remainder m p x))
      (0, sym (simp (zero-carryless, remainder_additive.at_zero, zero-sum)))
      (λ x ih.
      let q : ℕ = ih.0 in
      let r : ℕ = remainder m p (x / 2) in
      let d : ℕ = 2 * r / 2 ^ m in (
        d % 2 ⊕ 2 * q,
        sym (digits_sum x)
            ∙ ap (λ z. x % 2 ⊕ z) (ap (λ z. 2 * z) ih.1 ∙ sum_double (carryless q p) r)
            ∙ regroup (d % 2 * p) (2 * carryless q p) (x % 2) (2 * r)
            ∙ sym (ap₂ (λ s t. s ⊕ t)
            (sum-carryless (d % 2) (2 * q) p ∙ ap₂ (λ s t. s ⊕ t) (digit_carryless d p) (double_carryless q p))
            (remainder-digits x ∙ ap (λ z. x % 2 ⊕ z) (shifted_clause r))),
      ))

  pub shifted_below : (z : ℕ) → 2 * z < 2 ^ m → shifted m p z ≡ 2 * z
  shifted_below z h = simp (shifted_clause, div-eq_of_lt h, zero-mul, sum-zero)

  -- below 2 ^ m nothing is taken away
  pub remainder_below : (x : ℕ) → x < 2 ^ m → remainder m p x ≡ x
  remainder_below =
      bin_ind (λ x. x < 2 ^ m → remainder m p x ≡ x) (λ h. remainder_additive.at_zero)
      (λ x ih h.
      remainder-digits x
      ∙ ap (λ z. x % 2 ⊕ z) (ap (shifted m p) (ih (omega arith)) ∙ shifted_below (x / 2) (omega arith))
      ∙ digits_sum x)

below_of_top : (m : ℕ) {x : ℕ} → x / 2 ^ m ≡ 0 → x < 2 ^ m
below_of_top m {x} h = simp one-mul at ((div-lt_iff_lt-mul {x = x} {y = 1} (pow_pos m)).0 (omega arith))

-- the degree of p is m, and m is not 0
pub record Degree (m p : ℕ) : Type 0 where
  pub positive : 0 < m
  pub least : 2 ^ m ≤ p
  pub most : p < 2 ^ suc m

module _ {m p : ℕ} (D : Degree m p) where
  pub one_below : 1 < 2 ^ m
  one_below = pow-lt D.positive

  top_digit : p / 2 ^ m ≡ 1
  top_digit = div-eq_of_lt-le (2 ^ m) (omega (arith, D.least)) (omega (arith, D.most, pow-suc 2 m))

  taken_digit : (d : ℕ) → d % 2 * p / 2 ^ m ≡ d % 2
  taken_digit = digit_cases (λ d. d * p / 2 ^ m ≡ d) (simp (zero-mul, zero-div)) (simp one-mul top_digit)

  pub shifted_bound : (z : ℕ) → z < 2 ^ m → shifted m p z < 2 ^ m
  shifted_bound z h =
      let d : ℕ = 2 * z / 2 ^ m in
      let small : d < 2 = (div-lt_iff_lt-mul (pow_pos m)).1 (omega arith) in
      below_of_top m
      (ap (λ s. s / 2 ^ m) (shifted_clause m p z)
      ∙ sum_above (2 * z) (d % 2 * p) m
      ∙ ap (λ s. d ⊕ s) (taken_digit d ∙ mod-eq_of_lt small)
      ∙ sum_self d)

  pub remainder_bound : (x : ℕ) → remainder m p x < 2 ^ m
  remainder_bound =
      bin_ind (λ x. remainder m p x < 2 ^ m) (rw (remainder_additive m p).at_zero (pow_pos m))
      (λ x ih. rw (remainder-digits m p x)
      (sum_bound m (omega (arith, one_below)) (shifted_bound (remainder m p (x / 2)) ih)))

  pub remainder_idle : (x : ℕ) → remainder m p (remainder m p x) ≡ remainder m p x
  remainder_idle x = remainder_below m p (remainder m p x) (remainder_bound x)

-- each listed polynomial has degree m

degree_test : ℕ → Bool
degree_test m = both (leb (2 ^ m) (polynomial m)) (ltb (polynomial m) (2 ^ suc m))

degree_tested : T (passes degree_test 3 8)
unfolding degree_test polynomial polynomials
degree_tested = tt

pub degree : {m : ℕ} → IsField m → Degree m (polynomial m)
unfolding degree_test
degree {m} L =
    let t : T (both (leb (2 ^ m) (polynomial m)) (ltb (polynomial m) (2 ^ suc m))) = at_listed degree_test degree_tested L in
    record {
      positive = omega arith;
      least = leb→le (2 ^ m) (polynomial m) (both_left (leb (2 ^ m) (polynomial m)) (ltb (polynomial m) (2 ^ suc m)) t);
      most = ltb→lt (polynomial m) (2 ^ suc m) (both_right (leb (2 ^ m) (polynomial m)) (ltb (polynomial m) (2 ^ suc m)) t);
    }

-- the field's product, on all numbers

pub product_comm : (m x y : ℕ) → x ⊗⟨ m ⟩ y ≡ y ⊗⟨ m ⟩ x
unfolding ◌⊗⟨◌⟩◌
product_comm m x y = ap (remainder m (polynomial m)) (carryless_comm x y)

pub over_product : (m x y z : ℕ) → (x ⊕ y) ⊗⟨ m ⟩ z ≡ x ⊗⟨ m ⟩ z ⊕ y ⊗⟨ m ⟩ z
unfolding ◌⊗⟨◌⟩◌
over_product m x y z =
    ap (remainder m (polynomial m)) (sum-carryless x y z) ∙ (remainder_additive m (polynomial m)).at_sum (carryless x z) (carryless y z)

pub product_over : (m x y z : ℕ) → x ⊗⟨ m ⟩ (y ⊕ z) ≡ x ⊗⟨ m ⟩ y ⊕ x ⊗⟨ m ⟩ z
product_over m x y z =
    product_comm m x (y ⊕ z) ∙ over_product m y z x ∙ ap₂ (λ s t. s ⊕ t) (product_comm m y x) (product_comm m z x)

pub zero-product : (m x : ℕ) → 0 ⊗⟨ m ⟩ x ≡ 0
unfolding ◌⊗⟨◌⟩◌
zero-product m x = ap (remainder m (polynomial m)) (zero-carryless x) ∙ (remainder_additive m (polynomial m)).at_zero

pub product-zero : (m x : ℕ) → x ⊗⟨ m ⟩ 0 ≡ 0
product-zero m x = product_comm m x 0 ∙ zero-product m x

pub product-horner : (m x y : ℕ) → x ⊗⟨ m ⟩ y ≡ horner (shifted m (polynomial m)) (remainder m (polynomial m) x) y
unfolding ◌⊗⟨◌⟩◌
product-horner m x y = remainder-carryless m (polynomial m) x y

-- the digits of y and of z change places
horner_exchange : {f : ℕ → ℕ} → Additive f → (x y z : ℕ) → horner f (horner f x y) z ≡ horner f (horner f x z) y
horner_exchange {f} F x y z = horner_carry (start_additive F z) F F (λ u. sym (horner_carry F F F (λ v. refl) u z)) x y

module _ {m : ℕ} (L : IsField m) where
  product-remainder : (x y : ℕ) → remainder m (polynomial m) (x ⊗⟨ m ⟩ y) ≡ x ⊗⟨ m ⟩ y
  unfolding ◌⊗⟨◌⟩◌
  product-remainder x y = remainder_idle (degree L) (carryless x y)

  pub product_bound : (x y : ℕ) → x ⊗⟨ m ⟩ y < 2 ^ m
  unfolding ◌⊗⟨◌⟩◌
  product_bound x y = remainder_bound (degree L) (carryless x y)

  product_twice : (x y z : ℕ) → x ⊗⟨ m ⟩ y ⊗⟨ m ⟩ z ≡ horner (shifted m (polynomial m)) (horner (shifted m (polynomial m)) (remainder m (polynomial m) x) y) z
  product_twice x y z =
      product-horner m (x ⊗⟨ m ⟩ y) z ∙ ap (λ u. horner (shifted m (polynomial m)) u z) (product-remainder x y ∙ product-horner m x y)

  product_exchange : (x y z : ℕ) → x ⊗⟨ m ⟩ y ⊗⟨ m ⟩ z ≡ x ⊗⟨ m ⟩ z ⊗⟨ m ⟩ y
  product_exchange x y z =
      product_twice x y z
      ∙ horner_exchange (shifted_additive m (polynomial m)) (remainder m (polynomial m) x) y z
      ∙ sym (product_twice x z y)

  pub product_assoc : (x y z : ℕ) → x ⊗⟨ m ⟩ y ⊗⟨ m ⟩ z ≡ x ⊗⟨ m ⟩ (y ⊗⟨ m ⟩ z)
  product_assoc x y z = ap (λ s. s ⊗⟨ m ⟩ z) (product_comm m x y) ∙ product_exchange y x z ∙ product_comm m (y ⊗⟨ m ⟩ z) x

  pub product_left_comm : (x y z : ℕ) → x ⊗⟨ m ⟩ (y ⊗⟨ m ⟩ z) ≡ y ⊗⟨ m ⟩ (x ⊗⟨ m ⟩ z)
  product_left_comm x y z = sym (product_assoc x y z) ∙ ap (λ s. s ⊗⟨ m ⟩ z) (product_comm m x y) ∙ product_assoc y x z

  pub product-one : (x : ℕ) → x < 2 ^ m → x ⊗⟨ m ⟩ 1 ≡ x
  product-one x h = product-horner m x 1 ∙ horner-one (shifted_additive m (polynomial m)) _ ∙ remainder_below m (polynomial m) x h

  pub one_product : (x : ℕ) → x < 2 ^ m → 1 ⊗⟨ m ⟩ x ≡ x
  one_product x h = product_comm m 1 x ∙ product-one x h

  -- the function "times a"
  pub times_a : (x : ℕ) → x < 2 ^ m → shifted m (polynomial m) x ≡ 2 ⊗⟨ m ⟩ x
  times_a x h =
      sym (product_comm m 2 x
      ∙ product-horner m x 2
      ∙ horner_double (shifted_additive m (polynomial m)) (remainder m (polynomial m) x) 1
      ∙ ap (shifted m (polynomial m)) (horner-one (shifted_additive m (polynomial m)) _ ∙ remainder_below m (polynomial m) x h))

pub ruleset product =
    (sum, product_assoc, product_comm, product_left_comm, product-one, one_product, product_over, over_product, product-zero, zero-product)

pub product_rearrange : {m : ℕ} → IsField m → (x y z w : ℕ) → x ⊗⟨ m ⟩ y ⊗⟨ m ⟩ (z ⊗⟨ m ⟩ w) ≡ x ⊗⟨ m ⟩ z ⊗⟨ m ⟩ (y ⊗⟨ m ⟩ w)
product_rearrange L x y z w = simp product

-- squaring is additive
pub square_sum : {m : ℕ} → IsField m → (x y : ℕ) → (x ⊕ y) ⊗⟨ m ⟩ (x ⊕ y) ≡ x ⊗⟨ m ⟩ x ⊕ y ⊗⟨ m ⟩ y
square_sum L x y = simp product
