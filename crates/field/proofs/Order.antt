-- The order of a: its powers are all the numbers below 2 ^ m but 0, each once.
use mathlib.Core.Path.{◌≡◌, ◌∙◌, sym, ap, ap₂, subst}
use mathlib.Core.Logic.{◌≢◌, ◌⊎◌, inl, inr}
use mathlib.Core.Bool.{Bool}
use mathlib.Core.List.Memᴰ
use mathlib.Core.List.{List, ◌∷◌, Memᴰ}
use Prim.Native.Nat.{ℕ, suc, ◌+◌, ◌-◌, ◌*◌, ◌/◌, ◌%◌, ◌^◌, ◌≤◌, ◌<◌}
use native.Mathlib.Nat.{mul_comm, le-mul_of_pos_right, div-add-mod'}
use native.Mathlib.Decide.{ℕ_discrete, dec_le}
use native.Mathlib.Omega.{arith}
use lib.Dec.{T}
use lib.Pow.{pow_mono}
use Rattle.field.specs.Sum.{◌⊕◌}
use Rattle.field.specs.Product.{polynomials, polynomial, IsField, shifted, ◌⊗⟨◌⟩◌}
use Rattle.field.specs.Power.{a, n_of, power, inverse}
use Rattle.field.proofs.Tests.{both, both_left, both_right, passes, at_listed}
use Rattle.field.proofs.ProductLaws.{one_product, zero-product, times_a}
use Rattle.field.proofs.PowerLaws.{power_zero, power-suc, power_bound, power-add, power-mul, one_power}
use Rattle.field.proofs.Orbit.{orbit, first_one_last, covers, covered, orbit_end, orbit_before, orbit_place}

-- the first n numbers that z becomes under "times a"
abbrev walk : ℕ → ℕ → List ℕ
walk m z = orbit (shifted m (polynomial m)) (n_of m) z

abbrev walk_test : ℕ → List ℕ → Bool
walk_test m xs = both (first_one_last xs) (covers m (0 ∷ xs))

order_test : ℕ → Bool
order_test m = walk_test m (walk m (shifted m (polynomial m) 1))

-- the one test: the n-th power of a is 1, no smaller one is, and the powers with 0 are all numbers below 2 ^ m
order_tested : T (passes order_test 3 8)
unfolding order_test polynomial polynomials shifted ◌⊕◌
order_tested = tt

-- a power that is 1, taken any number of times
power_wrapped : {m : ℕ} → IsField m → (x n e : ℕ) → power m x n ≡ 1 → power m x (e * n) ≡ 1
power_wrapped {m} L x n e h = ap (power m x) (mul_comm e n) ∙ power-mul L x n e ∙ ap (λ z. power m z e) h ∙ one_power L e

module _ {m : ℕ} (L : IsField m) where
  pub eight_bound : 8 ≤ 2 ^ m
  eight_bound = pow_mono L.least

  -- the next power
  pub power_step : (i : ℕ) → shifted m (polynomial m) (power m a i) ≡ power m a (suc i)
  power_step i = times_a L (power m a i) (power_bound L a i) ∙ sym (power-suc m a i)

  walked : T (walk_test m (walk m (power m a 1)))
  unfolding order_test
  walked =
      subst (λ z. T (walk_test m (walk m z))) (ap (shifted m (polynomial m)) (sym (power_zero m a)) ∙ power_step 0)
      (at_listed order_test order_tested L)

  walked_once : T (first_one_last (walk m (power m a 1)))
  walked_once = both_left (first_one_last (walk m (power m a 1))) (covers m (0 ∷ walk m (power m a 1))) walked

  walked_all : T (covers m (0 ∷ walk m (power m a 1)))
  walked_all = both_right (first_one_last (walk m (power m a 1))) (covers m (0 ∷ walk m (power m a 1))) walked

  pub a_order : power m a (n_of m) ≡ 1
  a_order = orbit_end (shifted m (polynomial m)) (power m a) power_step (n_of m) walked_once

  pub a_order_least : (i : ℕ) → 0 < i → i < n_of m → power m a i ≢ 1
  a_order_least = orbit_before (shifted m (polynomial m)) (power m a) power_step (n_of m) walked_once

  -- any number of times around
  pub power_rounds : (e : ℕ) → power m a (n_of m * e) ≡ 1
  power_rounds e = ap (power m a) (mul_comm (n_of m) e) ∙ power_wrapped L a (n_of m) e a_order

  pub every_power : (x : ℕ) → x < 2 ^ m → x ≢ 0 → (i : ℕ) × (i < n_of m) × (power m a i ≡ x)
  every_power x h k = found (Memᴰ.cases_cons (covered m (0 ∷ walk m (power m a 1)) walked_all x h))
    where
      wrapped : (i : ℕ) → i ≤ n_of m → power m a i ≡ x → Dec (i ≡ n_of m) → (i : ℕ) × (i < n_of m) × (power m a i ≡ x)
      wrapped i l e (yes d) = (0, omega (arith, eight_bound), power_zero m a ∙ sym a_order ∙ ap (power m a) (sym d) ∙ e)
      wrapped i l e (no d) = (i, omega arith, e)

      found : (x ≡ 0) ⊎ Memᴰ x (walk m (power m a 1)) → (i : ℕ) × (i < n_of m) × (power m a i ≡ x)
      found (inl e) = absurd (k e)
      found (inr q) =
          let (i, l, u, e) = orbit_place (shifted m (polynomial m)) (power m a) power_step (n_of m) x q in
          wrapped i u e (ℕ_discrete i (n_of m))

  -- a^i times a^(i * n - i) is 1
  power_completed : (i : ℕ) → power m a i ⊗⟨ m ⟩ power m a (i * n_of m - i) ≡ 1
  power_completed i =
      let l : i ≤ i * n_of m = le-mul_of_pos_right i (omega (arith, eight_bound)) in
      let d : i + (i * n_of m - i) ≡ i * n_of m = omega arith in
      sym (power-add L a i (i * n_of m - i)) ∙ ap (power m a) d ∙ power_wrapped L a (n_of m) i a_order

  pub power_nonzero : (i : ℕ) → power m a i ≢ 0
  power_nonzero i h =
      let rest : ℕ = power m a (i * n_of m - i) in
      let e : ◌≡◌ {A = ℕ} 1 0 = sym (power_completed i) ∙ ap (λ z. z ⊗⟨ m ⟩ rest) h ∙ zero-product m rest in
      omega arith

  powers_differ : (i j : ℕ) → i < j → j < n_of m → power m a i ≢ power m a j
  powers_differ i j l u h =
      let n : ℕ = n_of m in
      let d : n - i + i ≡ n = omega arith in
      let e : n - i + j ≡ n + (j - i) = omega arith in
      a_order_least (j - i) (omega arith) (omega arith)
      (sym (one_product L (power m a (j - i)) (power_bound L a (j - i)))
      ∙ ap (λ z. z ⊗⟨ m ⟩ power m a (j - i)) (sym a_order)
      ∙ sym (power-add L a n (j - i))
      ∙ ap (power m a) (sym e)
      ∙ power-add L a (n - i) j
      ∙ ap (λ z. power m a (n - i) ⊗⟨ m ⟩ z) (sym h)
      ∙ sym (power-add L a (n - i) i)
      ∙ ap (power m a) d
      ∙ a_order)

  pub power_injective : (i j : ℕ) → i < n_of m → j < n_of m → power m a i ≡ power m a j → i ≡ j
  power_injective i j h l e = pick (dec_le i j) (ℕ_discrete i j)
    where
      pick : Dec (i ≤ j) → Dec (i ≡ j) → i ≡ j
      pick d (yes q) = q
      pick (yes p) (no q) = absurd (powers_differ i j (omega arith) l e)
      pick (no p) (no q) = absurd (powers_differ j i (omega arith) h (sym e))

  -- exponents count modulo n
  pub nonzero_order : (x : ℕ) → x < 2 ^ m → x ≢ 0 → power m x (n_of m) ≡ 1
  nonzero_order x h k =
      let (i, l, e) = every_power x h k in
      ap (λ z. power m z (n_of m)) (sym e) ∙ sym (power-mul L a i (n_of m)) ∙ power_wrapped L a (n_of m) i a_order

  pub nonzero_power-mod : (x : ℕ) → x < 2 ^ m → x ≢ 0 → (e : ℕ) → power m x (e % n_of m) ≡ power m x e
  nonzero_power-mod x h k e =
      let n : ℕ = n_of m in
      sym (one_product L (power m x (e % n)) (power_bound L x (e % n)))
      ∙ ap (λ z. z ⊗⟨ m ⟩ power m x (e % n)) (sym (power_wrapped L x n (e / n) (nonzero_order x h k)))
      ∙ sym (power-add L x (e / n * n) (e % n))
      ∙ ap (power m x) (div-add-mod' e n)

  pub power-mod : (e : ℕ) → power m a (e % n_of m) ≡ power m a e
  power-mod = nonzero_power-mod a (omega (arith, eight_bound)) (omega arith)

  pub no_zero_divisors : (x y : ℕ) → x < 2 ^ m → y < 2 ^ m → x ≢ 0 → y ≢ 0 → x ⊗⟨ m ⟩ y ≢ 0
  no_zero_divisors x y h l k q e =
      let (i, u, c) = every_power x h k in
      let (j, v, d) = every_power y l q in
      power_nonzero (i + j) (power-add L a i j ∙ ap₂ (λ s t. s ⊗⟨ m ⟩ t) c d ∙ e)

  pub inverse_law : (x : ℕ) → x < 2 ^ m → x ≢ 0 → x ⊗⟨ m ⟩ inverse m x ≡ 1
  unfolding inverse
  inverse_law x h k =
      let d : suc (2 ^ m - 2) ≡ n_of m = omega (arith, eight_bound) in
      sym (power-suc m x (2 ^ m - 2)) ∙ ap (power m x) d ∙ nonzero_order x h k
