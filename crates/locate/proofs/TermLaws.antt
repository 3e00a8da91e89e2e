-- The term of one coefficient at all places: place i is tried at a^(n-i).
use mathlib.Core.Path.{◌≡◌, ◌∙◌, sym, ap}
use mathlib.Core.List.{List}
use Prim.Native.Nat.{ℕ, ◌+◌, ◌-◌, ◌*◌, ◌%◌, ◌<◌}
use native.Mathlib.Nat.{mul_comm, mod-lt}
use native.Mathlib.Omega.{arith}
use lib.ListN.{get_or}
use Rattle.entries.specs.Entries.{Filled}
use Rattle.entries.proofs.FillLaws.{fill_as}
use Rattle.field.specs.Sum.{◌⊕◌}
use Rattle.field.specs.Product.{IsField, ◌⊗⟨◌⟩◌}
use Rattle.field.specs.Power.{a, n_of, power}
use Rattle.walks.specs.Multiples.{plus_multiple}
use Rattle.field.proofs.ProductLaws.{product_comm, product_assoc, product-one, one_product}
use Rattle.field.proofs.PowerLaws.{one_power, power-add, power-mul, product-power, power_bound}
use Rattle.field.proofs.Order.{eight_bound, power-mod, a_order}
use Rattle.locate.specs.Work.{plus_term}

module _ {m : ℕ} (L : IsField m) where
  -- a step down by j is a step up by n - j, and i steps down are a step of n - i
  term_power : (j i : ℕ) → i < n_of m → power m a ((n_of m - j % n_of m) * i) ≡ power m (power m a (n_of m - i)) j
  term_power j i h =
      power-mul L a step i
      ∙ sym (product-one L (power m up i) (power_bound L up i))
      ∙ ap (λ z. power m up i ⊗⟨ m ⟩ z) (sym whole)
      ∙ sym (product_assoc L (power m up i) (power m x i) (power m y j))
      ∙ ap (λ z. z ⊗⟨ m ⟩ power m y j) (sym (product-power L up x i) ∙ ap (λ z. power m z i) back ∙ one_power L i)
      ∙ one_product L (power m y j) (power_bound L y j)
    where
      step : ℕ
      step = n_of m - j % n_of m

      up : ℕ
      up = power m a step

      x : ℕ
      x = power m a j

      y : ℕ
      y = power m a (n_of m - i)

      -- the step up and the step down
      back : up ⊗⟨ m ⟩ x ≡ 1
      back =
          let l : j % n_of m < n_of m = mod-lt j (omega (arith, eight_bound L)) in
          let d : step + j % n_of m ≡ n_of m = omega arith in
          ap (λ z. up ⊗⟨ m ⟩ z) (sym (power-mod L j)) ∙ sym (power-add L a step (j % n_of m)) ∙ ap (power m a) d ∙ a_order L

      -- a^(ij) and its inverse
      whole : power m x i ⊗⟨ m ⟩ power m y j ≡ 1
      whole =
          let d : i + (n_of m - i) ≡ n_of m = omega arith in
          ap (λ z. z ⊗⟨ m ⟩ power m y j) (sym (power-mul L a j i) ∙ ap (power m a) (mul_comm j i) ∙ power-mul L a i j)
          ∙ sym (product-power L (power m a i) y j)
          ∙ ap (λ z. power m z j) (sym (power-add L a i (n_of m - i)) ∙ ap (power m a) d ∙ a_order L)
          ∙ one_power L j

  pub term_added : {n : ℕ} {before after : List ℕ} (s j : ℕ) → n ≡ n_of m
      → Filled (plus_multiple m s (n - j % n) before) n before after → Filled (plus_term m s j before) (n_of m) before after
  term_added {n} {before} {after} s j is u =
      fill_as (rw is at u)
      (λ i h. ap (λ z. get_or before i 0 ⊕ z)
      (ap (λ z. s ⊗⟨ m ⟩ z) (term_power j i h) ∙ product_comm m s (power m (power m a (n_of m - i)) j)))
