-- Horner's rule over the digits of a number, at an additive function.
use mathlib.Core.Path.{◌≡◌, ◌∙◌, refl, sym, ap, ap₂}
use Prim.Native.Nat.{ℕ, zero, suc, ◌*◌, ◌/◌, ◌%◌, ◌≤◌}
use native.Mathlib.Nat.{le_refl, not-suc-le-zero, mul-zero, zero-mul, one-mul}
use native.Mathlib.Decide.{le_ind}
use native.Mathlib.Omega.{arith}
use lib.Arith.{bin_ind, half_le}
use Rattle.field.specs.Sum.{◌⊕◌}
use Rattle.field.specs.Product.{digits, horner}
use Rattle.field.proofs.SumLaws.{sum-zero, zero-sum, sum_half, sum_exchange, sum_double, digit_cases, digit_times}

pub record Additive (f : ℕ → ℕ) : Type 0 where
  pub at_zero : f 0 ≡ 0
  pub at_sum : (x y : ℕ) → f (x ⊕ y) ≡ f x ⊕ f y

pub double_additive : Additive (λ z. 2 * z)
double_additive = record { at_zero = refl; at_sum = sum_double }

-- a lowest digit times x
pub digit_additive : (x : ℕ) → Additive (λ z. x % 2 * z)
digit_additive x =
    record {
      at_zero = mul-zero (x % 2);
      at_sum = λ y z. digit_cases (λ d. d * (y ⊕ z) ≡ d * y ⊕ d * z) (simp (zero-mul, zero-sum)) (simp one-mul) x;
    }

-- an additive function and a digit change places
pub at_digit : {f : ℕ → ℕ} → Additive f → (x z : ℕ) → f (x % 2 * z) ≡ x % 2 * f z
at_digit {f} F x z = digit_cases (λ d. f (d * z) ≡ d * f z) (simp zero-mul F.at_zero) (simp one-mul) x

module _ (f : ℕ → ℕ) (x : ℕ) where
  more : (n y : ℕ) → y ≤ n → digits f x (suc n) y ≡ digits f x n y
  unfolding digits
  more zero zero h = refl
  more zero (suc y) h = absurd (not-suc-le-zero h)
  more (suc n) zero h = refl
  more (suc n) (suc y) h = ap (λ z. (suc y % 2 * x) ⊕ f z) (more n (suc y / 2) (half_le h))

  enough : (n y : ℕ) → y ≤ n → digits f x n y ≡ digits f x y y
  enough n y h = le_ind (λ m. digits f x m y ≡ digits f x y y) refl (λ m k e. more m y k ∙ e) n h

pub horner-zero : (f : ℕ → ℕ) (x : ℕ) → horner f x 0 ≡ 0
unfolding horner digits
horner-zero f x = refl

pub horner-digits : (f : ℕ → ℕ) → f 0 ≡ 0 → (x y : ℕ) → horner f x y ≡ (y % 2 * x) ⊕ f (horner f x (y / 2))
unfolding horner digits
horner-digits f h x zero = sym (simp (zero-mul, h, zero-sum))
horner-digits f h x (suc y) = ap (λ z. (suc y % 2 * x) ⊕ f z) (enough f x y (suc y / 2) (half_le (le_refl (suc y))))

module _ {f : ℕ → ℕ} (F : Additive f) where
  horner_step : (x y : ℕ) → horner f x y ≡ (y % 2 * x) ⊕ f (horner f x (y / 2))
  horner_step = horner-digits f F.at_zero

  pub horner-one : (x : ℕ) → horner f x 1 ≡ x
  horner-one x = simp (horner_step x 1, horner-zero f x, F.at_zero, one-mul, sum-zero)

  -- a factor 2 of the digits is f
  pub horner_double : (x y : ℕ) → horner f x (2 * y) ≡ f (horner f x y)
  horner_double x y =
      let even : 2 * y % 2 ≡ 0 = omega arith in
      let half : 2 * y / 2 ≡ y = omega arith in
      simp (horner_step x (2 * y), even, half, zero-mul, zero-sum)

  pub horner-sum : (x y z : ℕ) → horner f x (y ⊕ z) ≡ horner f x y ⊕ horner f x z
  horner-sum x =
      bin_ind (λ y. (z : ℕ) → horner f x (y ⊕ z) ≡ horner f x y ⊕ horner f x z) (λ z. simp (zero-sum, horner-zero f x))
      (λ y ih z.
      horner_step x (y ⊕ z)
      ∙ ap₂ (λ s t. s ⊕ f t) (digit_times y z x) (ap (horner f x) (sum_half y z) ∙ ih (z / 2))
      ∙ ap (λ t. (y % 2 * x) ⊕ (z % 2 * x) ⊕ t) (F.at_sum (horner f x (y / 2)) (horner f x (z / 2)))
      ∙ sum_exchange (y % 2 * x) (z % 2 * x) (f (horner f x (y / 2))) (f (horner f x (z / 2)))
      ∙ sym (ap₂ (λ s t. s ⊕ t) (horner_step x y) (horner_step x z)))

-- an additive l that turns g into f carries a sum of g's into a sum of f's
pub horner_carry : {l g f : ℕ → ℕ} → Additive l → Additive g → Additive f → ((z : ℕ) → l (g z) ≡ f (l z))
    → (x y : ℕ) → l (horner g x y) ≡ horner f (l x) y
horner_carry {l} {g} {f} L G F e x =
    bin_ind (λ y. l (horner g x y) ≡ horner f (l x) y) (simp horner-zero L.at_zero)
    (λ y ih.
    ap l (horner_step G x y)
    ∙ L.at_sum (y % 2 * x) (g (horner g x (y / 2)))
    ∙ ap₂ (λ s t. s ⊕ t) (at_digit L y x) (e (horner g x (y / 2)) ∙ ap f ih)
    ∙ sym (horner_step F (l x) y))

-- the sum of two starts
pub sum-horner : {f : ℕ → ℕ} → Additive f → (x z y : ℕ) → horner f (x ⊕ z) y ≡ horner f x y ⊕ horner f z y
sum-horner {f} F x z =
    bin_ind (λ y. horner f (x ⊕ z) y ≡ horner f x y ⊕ horner f z y) (simp (horner-zero, zero-sum))
    (λ y ih.
    horner_step F (x ⊕ z) y
    ∙ ap₂ (λ s t. s ⊕ f t) ((digit_additive y).at_sum x z) ih
    ∙ ap (λ t. (y % 2 * x) ⊕ (y % 2 * z) ⊕ t) (F.at_sum (horner f x (y / 2)) (horner f z (y / 2)))
    ∙ sum_exchange (y % 2 * x) (y % 2 * z) (f (horner f x (y / 2))) (f (horner f z (y / 2)))
    ∙ sym (ap₂ (λ s t. s ⊕ t) (horner_step F x y) (horner_step F z y)))

-- the digit d times the start
pub digit_horner : {f : ℕ → ℕ} → Additive f → (d x y : ℕ) → horner f (d % 2 * x) y ≡ d % 2 * horner f x y
digit_horner {f} F d x y = sym (horner_carry (digit_additive d) F F (λ z. sym (at_digit F d z)) x y)

pub zero-horner : {f : ℕ → ℕ} → Additive f → (y : ℕ) → horner f 0 y ≡ 0
zero-horner F y = digit_horner F 0 0 y ∙ zero-mul _

pub start_additive : {f : ℕ → ℕ} → Additive f → (y : ℕ) → Additive (λ x. horner f x y)
start_additive F y = record { at_zero = zero-horner F y; at_sum = λ x z. sum-horner F x z y }

pub digits_additive : {f : ℕ → ℕ} → Additive f → (x : ℕ) → Additive (horner f x)
digits_additive {f} F x = record { at_zero = horner-zero f x; at_sum = horner-sum F x }
