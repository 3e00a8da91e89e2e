-- The laws of the field's sum, on all numbers.
use mathlib.Core.Path.{◌≡◌, ◌∙◌, refl, sym, ap}
use Prim.Native.Nat.{ℕ, zero, suc, ◌*◌, ◌/◌, ◌%◌, ◌^◌, ◌<◌}
use native.Mathlib.Nat.{mod-lt, zero-lt-suc, zero-mul}
use native.Mathlib.Omega.{arith}
use lib.Arith.{bin_ind}
use lib.Bits.{bit_xor, xor_comm, xor_self, xor_zero_r, xor_lt, xor_shr, xor_mod}
use Rattle.field.specs.Sum.{◌⊕◌}

-- the code's `^`
pub xor-sum : (x y : ℕ) → bit_xor x y ≡ x ⊕ y
unfolding ◌⊕◌
xor-sum x y = refl

pub sum_comm : (x y : ℕ) → x ⊕ y ≡ y ⊕ x
unfolding ◌⊕◌
sum_comm = xor_comm

pub sum_self : (x : ℕ) → x ⊕ x ≡ 0
unfolding ◌⊕◌
sum_self = xor_self

pub sum-zero : (x : ℕ) → x ⊕ 0 ≡ x
unfolding ◌⊕◌
sum-zero = xor_zero_r

pub zero-sum : (x : ℕ) → 0 ⊕ x ≡ x
unfolding ◌⊕◌
zero-sum x = refl

pub sum_bound : {x y : ℕ} (k : ℕ) → x < 2 ^ k → y < 2 ^ k → x ⊕ y < 2 ^ k
unfolding ◌⊕◌
sum_bound {x} {y} k h l = xor_lt k x y h l

pub sum_above : (x y k : ℕ) → (x ⊕ y) / 2 ^ k ≡ x / 2 ^ k ⊕ y / 2 ^ k
unfolding ◌⊕◌
sum_above = xor_shr

pub sum_half : (x y : ℕ) → (x ⊕ y) / 2 ≡ x / 2 ⊕ y / 2
sum_half x y = sum_above x y 1

pub sum_lowest : (x y : ℕ) → (x ⊕ y) % 2 ≡ x % 2 ⊕ y % 2
unfolding ◌⊕◌
sum_lowest x y = xor_mod x y 1

-- two numbers are equal if their halves and their lowest digits are
pub same_digits : {x y : ℕ} → x / 2 ≡ y / 2 → x % 2 ≡ y % 2 → x ≡ y
same_digits h l = omega arith

-- what holds of 0 and of 1 holds of a lowest digit
pub digit_cases : (P : ℕ → Type 0) → P 0 → P 1 → (x : ℕ) → P (x % 2)
digit_cases P h l x = pick (x % 2) (mod-lt x (zero-lt-suc 1))
  where
    pick : (d : ℕ) → d < 2 → P d
    pick zero k = h
    pick (suc zero) k = l
    pick (suc (suc d)) k = absurd (omega arith)

digit_assoc : (x y z : ℕ) → x % 2 ⊕ y % 2 ⊕ z % 2 ≡ x % 2 ⊕ (y % 2 ⊕ z % 2)
unfolding ◌⊕◌
digit_assoc x y z =
    digit_cases (λ d. d ⊕ y % 2 ⊕ z % 2 ≡ d ⊕ (y % 2 ⊕ z % 2)) refl
    (digit_cases (λ d. 1 ⊕ d ⊕ z % 2 ≡ 1 ⊕ (d ⊕ z % 2)) refl
    (digit_cases (λ d. 1 ⊕ 1 ⊕ d ≡ 1 ⊕ (1 ⊕ d)) refl refl z) y) x

pub sum_assoc : (x y z : ℕ) → x ⊕ y ⊕ z ≡ x ⊕ (y ⊕ z)
sum_assoc =
    bin_ind (λ x. (y z : ℕ) → x ⊕ y ⊕ z ≡ x ⊕ (y ⊕ z)) (λ y z. simp zero-sum)
    (λ x ih y z. same_digits (simp sum_half (ih (y / 2) (z / 2))) (simp sum_lowest (digit_assoc x y z)))

pub sum_left_comm : (x y z : ℕ) → x ⊕ (y ⊕ z) ≡ y ⊕ (x ⊕ z)
sum_left_comm x y z = sym (sum_assoc x y z) ∙ ap (λ s. s ⊕ z) (sum_comm x y) ∙ sum_assoc y x z

pub sum_cancel : (x y : ℕ) → x ⊕ (x ⊕ y) ≡ y
sum_cancel x y = sym (sum_assoc x x y) ∙ ap (λ s. s ⊕ y) (sum_self x) ∙ zero-sum y

pub ruleset sum = (sum_assoc, sum_comm, sum_left_comm, sum_self, sum-zero, zero-sum, sum_cancel)

pub sum_exchange : (x y z w : ℕ) → x ⊕ y ⊕ (z ⊕ w) ≡ x ⊕ z ⊕ (y ⊕ w)
sum_exchange x y z w = simp sum

pub equal_of_sum : {x y : ℕ} → x ⊕ y ≡ 0 → x ≡ y
equal_of_sum {x} {y} h = sym (sum-zero x) ∙ ap (λ s. x ⊕ s) (sym h) ∙ sum_cancel x y

double_half : (x : ℕ) → 2 * x / 2 ≡ x
double_half x = omega arith

double_lowest : (x : ℕ) → 2 * x % 2 ≡ 0
double_lowest x = omega arith

pub sum_double : (x y : ℕ) → 2 * (x ⊕ y) ≡ 2 * x ⊕ 2 * y
sum_double x y = same_digits (simp (sum_half, double_half)) (simp (sum_lowest, double_lowest, zero-sum))

-- the digit x mod 2 times p is additive in x
pub digit_times : (x y p : ℕ) → (x ⊕ y) % 2 * p ≡ x % 2 * p ⊕ y % 2 * p
digit_times x y p =
    ap (λ d. d * p) (sum_lowest x y)
    ∙ digit_cases (λ d. (d ⊕ y % 2) * p ≡ d * p ⊕ y % 2 * p) (simp (zero-mul, zero-sum))
    (digit_cases (λ d. (1 ⊕ d) * p ≡ 1 * p ⊕ d * p) (simp (zero-mul, sum-zero)) (simp (sum_self, zero-mul)) y) x

digit_half : (x : ℕ) → x % 2 / 2 ≡ 0
digit_half x = omega arith

digit_lowest : (x : ℕ) → x % 2 % 2 ≡ x % 2
digit_lowest x = omega arith

-- a number is its lowest digit and twice its half
pub digits_sum : (x : ℕ) → x % 2 ⊕ 2 * (x / 2) ≡ x
digits_sum x =
    same_digits (simp (sum_half, double_half, digit_half, zero-sum)) (simp (sum_lowest, double_lowest, digit_lowest, sum-zero))
