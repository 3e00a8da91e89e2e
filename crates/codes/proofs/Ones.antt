-- The sums of a word of ones: a row of powers of a^j, which is 0 once it has gone around.
use mathlib.Core.Path.{◌≡◌, ◌∙◌, sym, ap, ap₂}
use mathlib.Core.Logic.{◌≢◌}
use mathlib.Core.List.{List}
use Prim.Native.Nat.{ℕ, zero, suc, ◌*◌, ◌^◌, ◌<◌}
use native.Mathlib.Decide.{ℕ_discrete}
use lib.ListN.{replicate}
use Rattle.bits.proofs.BitLaws.{bits_ones}
use Rattle.field.specs.Sum.{◌⊕◌}
use Rattle.field.specs.Product.{IsField, ◌⊗⟨◌⟩◌}
use Rattle.field.specs.Power.{a, n_of, power}
use Rattle.field.proofs.SumLaws.{sum, sum_self, sum_bound, equal_of_sum}
use Rattle.field.proofs.ProductLaws.{product-zero, product-one, product_over, product_left_comm}
use Rattle.field.proofs.PowerLaws.{one_bound, power_bound}
use Rattle.field.proofs.Order.{a_order_least, power_rounds, no_zero_divisors}
use Rattle.codes.specs.Sums.{sum_of}
use Rattle.codes.proofs.SumLaws.{sum_of-nil, sum-cons, sum_bounded, first_power, next_power}

module _ {m : ℕ} (L : IsField m) where
  pair_shape : (x p r : ℕ) → x ⊕ p ⊕ (p ⊕ r) ≡ x ⊕ r
  pair_shape x p r = simp sum

  ones_shape : (p s q : ℕ) → p < 2 ^ m → (1 ⊕ p) ⊗⟨ m ⟩ s ≡ 1 ⊕ q → (1 ⊕ p) ⊗⟨ m ⟩ (1 ⊕ p ⊗⟨ m ⟩ s) ≡ 1 ⊕ p ⊗⟨ m ⟩ q
  ones_shape p s q h e =
      product_over m (1 ⊕ p) 1 (p ⊗⟨ m ⟩ s)
      ∙ ap₂ (λ y z. y ⊕ z) (product-one L (1 ⊕ p) (sum_bound m (one_bound L) h))
      (product_left_comm L (1 ⊕ p) p s
      ∙ ap (λ z. p ⊗⟨ m ⟩ z) e
      ∙ product_over m p 1 q
      ∙ ap (λ z. z ⊕ p ⊗⟨ m ⟩ q) (product-one L p h))
      ∙ pair_shape 1 p (p ⊗⟨ m ⟩ q)

  -- the sum of s ones, times 1 ⊕ a^j
  sum_row : (j s : ℕ) → (1 ⊕ power m a j) ⊗⟨ m ⟩ sum_of m j (replicate s 1) ≡ 1 ⊕ power m a (s * j)
  sum_row j zero = rw (sum_of-nil m j, first_power L j, product-zero m (1 ⊕ power m a j)) (sym (sum_self 1))
  sum_row j (suc s) =
      ap (λ z. (1 ⊕ power m a j) ⊗⟨ m ⟩ z) (sum-cons L j 1 (replicate s 1) (bits_ones (suc s)))
      ∙ ones_shape (power m a j) (sum_of m j (replicate s 1)) (power m a (s * j)) (power_bound L a j) (sum_row j s)
      ∙ ap (λ z. 1 ⊕ z) (sym (next_power L s j))

  pub sum_ones : (j : ℕ) → 0 < j → j < n_of m → sum_of m j (replicate (n_of m) 1) ≡ 0
  sum_ones j l h = pick (ℕ_discrete (sum_of m j ones) 0)
    where
      ones : List ℕ
      ones = replicate (n_of m) 1

      not_one : 1 ⊕ power m a j ≢ 0
      not_one e = a_order_least L j l h (sym (equal_of_sum e))

      pick : Dec (sum_of m j ones ≡ 0) → sum_of m j ones ≡ 0
      pick (yes e) = e
      pick (no e) =
          absurd (no_zero_divisors L (1 ⊕ power m a j) (sum_of m j ones) (sum_bound m (one_bound L) (power_bound L a j))
          (sum_bounded L j ones (bits_ones (n_of m))) not_one e
          (sum_row j (n_of m) ∙ ap (λ z. 1 ⊕ z) (power_rounds L j) ∙ sum_self 1))
