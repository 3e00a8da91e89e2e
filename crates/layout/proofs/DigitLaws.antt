-- Numbers and their binary digits: one more digit, and that the digits determine the number.
use mathlib.Core.Path.{◌≡◌, ◌∙◌, sym, ap}
use Prim.Native.Nat.{ℕ, zero, suc, ◌+◌, ◌-◌, ◌*◌, ◌/◌, ◌%◌, ◌^◌, ◌≤◌, ◌<◌}
use native.Mathlib.Decide.{dec_lt}
use native.Mathlib.Nat.{pow-succ', div-div-eq-div-mul, div-eq_of_eq-mul_left, div-one}
use native.Mathlib.Omega.{arith}
use lib.Pow.{pow_pos, pow-add, pow_mono}
use Rattle.layout.specs.Work.{Digits}

-- 128 shifted right by k
pub weight : {k : ℕ} → k < 8 → 128 / 2 ^ k ≡ 2 ^ (7 - k)
weight {k} h =
    let e : 7 - k + k ≡ 7 = omega arith in
    div-eq_of_eq-mul_left (pow_pos k) (sym (sym (pow-add 2 (7 - k) k) ∙ ap (λ (n : ℕ). 2 ^ n) e))

-- the digits of a number are those of its half, moved up by one
pub half_digit : (x e : ℕ) → x / 2 ^ suc e ≡ x / 2 / 2 ^ e
half_digit x e = ap (λ (y : ℕ). x / y) (pow-succ' 2 e) ∙ sym (div-div-eq-div-mul x 2 (2 ^ e))

pub same_digits : (n x y : ℕ) → x < 2 ^ n → y < 2 ^ n → ((i : ℕ) → i < n → x / 2 ^ i % 2 ≡ y / 2 ^ i % 2) → x ≡ y
same_digits zero x y h l d = omega arith
same_digits (suc n) x y h l d =
    let p = pow-succ' 2 n in
    let e : x / 2 ≡ y / 2 = same_digits n (x / 2) (y / 2) (omega arith) (omega arith)
    (λ i k. ap (λ (z : ℕ). z % 2) (sym (half_digit x i)) ∙ d (suc i) (omega arith) ∙ ap (λ (z : ℕ). z % 2) (half_digit y i)) in
    let b : x % 2 ≡ y % 2 = ap (λ (z : ℕ). z % 2) (sym (div-one x)) ∙ d 0 (omega arith) ∙ ap (λ (z : ℕ). z % 2) (div-one y) in
    omega arith

module _ {f : ℕ → ℕ} {n v : ℕ} (d : Digits f n v) (bit : f n ≤ 1) where
  last_digit : (2 * v + f n) / 2 ^ (n + 1 - 1 - n) % 2 ≡ f n
  last_digit =
      let e : n + 1 - 1 - n ≡ 0 = omega arith in
      ap (λ (z : ℕ). (2 * v + f n) / 2 ^ z % 2) e ∙ ap (λ (z : ℕ). z % 2) (div-one (2 * v + f n)) ∙ omega arith

  earlier_digit : (j : ℕ) → j < n → (2 * v + f n) / 2 ^ (n + 1 - 1 - j) % 2 ≡ f j
  earlier_digit j h =
      let e : n + 1 - 1 - j ≡ suc (n - 1 - j) = omega arith in
      let q : (2 * v + f n) / 2 ≡ v = omega arith in
      ap (λ (z : ℕ). (2 * v + f n) / 2 ^ z % 2) e ∙ ap (λ (z : ℕ). z % 2) (half_digit (2 * v + f n) (n - 1 - j))
      ∙ ap (λ (z : ℕ). z / 2 ^ (n - 1 - j) % 2) q ∙ d.at j h

  pub digits_more : Digits f (n + 1) (2 * v + f n)
  digits_more =
      let p : 2 ^ (n + 1) ≡ 2 ^ n * 2 = pow-add 2 n 1 in
      record { below = omega (arith, d.below); at = λ j h. pick j h (dec_lt j n) }
    where
      pick : (j : ℕ) → j < n + 1 → Dec (j < n) → (2 * v + f n) / 2 ^ (n + 1 - 1 - j) % 2 ≡ f j
      pick j h (yes l) = earlier_digit j l
      pick j h (no l) =
          let e : j ≡ n = omega arith in
          rw e last_digit

-- fewer than 64 digits, and one more, fit into 64 bits
pub digits_fit : {f : ℕ → ℕ} {n v b : ℕ} → Digits f n v → n < 64 → b ≤ 1 → 2 * v + b < 2 ^ 64
digits_fit {n = n} d h l =
    let p : 2 ^ (n + 1) ≡ 2 ^ n * 2 = pow-add 2 n 1 in
    let q : 2 ^ (n + 1) ≤ 2 ^ 64 = pow_mono {j = 64} (omega arith) in
    omega (arith, d.below)
