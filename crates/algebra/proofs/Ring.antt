-- The rule set that normalises an equation of a ring with x ⊕ x = 𝟘.
use mathlib.Core.Path.{◌≡◌, ◌∙◌, sym, ap}
use Rattle.algebra.specs.Ring.{Ring}

module _ (K : Ring) where
  open K use {El, 𝟘, 𝟙, ◌⊕◌, ◌⊗◌, ⊕_assoc, ⊕_comm, ⊕_self, ⊕_zero, ⊗_assoc, ⊗_comm, ⊗_one, ⊗_over_⊕}

  infixl 60 ◌⊕◌
  infixl 70 ◌⊗◌
  pub sum_assoc : (x y z : El) → x ⊕ y ⊕ z ≡ x ⊕ (y ⊕ z)
  sum_assoc = ⊕_assoc

  pub sum_comm : (x y : El) → x ⊕ y ≡ y ⊕ x
  sum_comm = ⊕_comm

  pub sum_left_comm : (x y z : El) → x ⊕ (y ⊕ z) ≡ y ⊕ (x ⊕ z)
  sum_left_comm x y z = sym (⊕_assoc x y z) ∙ ap (λ s. s ⊕ z) (⊕_comm x y) ∙ ⊕_assoc y x z

  pub sum_self : (x : El) → x ⊕ x ≡ 𝟘
  sum_self = ⊕_self

  pub sum-zero : (x : El) → x ⊕ 𝟘 ≡ x
  sum-zero = ⊕_zero

  pub zero-sum : (x : El) → 𝟘 ⊕ x ≡ x
  zero-sum x = ⊕_comm 𝟘 x ∙ ⊕_zero x

  pub sum_cancel : (x y : El) → x ⊕ (x ⊕ y) ≡ y
  sum_cancel x y = sym (⊕_assoc x x y) ∙ ap (λ s. s ⊕ y) (⊕_self x) ∙ zero-sum y

  pub product_assoc : (x y z : El) → x ⊗ y ⊗ z ≡ x ⊗ (y ⊗ z)
  product_assoc = ⊗_assoc

  pub product_comm : (x y : El) → x ⊗ y ≡ y ⊗ x
  product_comm = ⊗_comm

  pub product_left_comm : (x y z : El) → x ⊗ (y ⊗ z) ≡ y ⊗ (x ⊗ z)
  product_left_comm x y z = sym (⊗_assoc x y z) ∙ ap (λ s. s ⊗ z) (⊗_comm x y) ∙ ⊗_assoc y x z

  pub product-one : (x : El) → x ⊗ 𝟙 ≡ x
  product-one = ⊗_one

  pub one_product : (x : El) → 𝟙 ⊗ x ≡ x
  one_product x = ⊗_comm 𝟙 x ∙ ⊗_one x

  pub product_over : (x y z : El) → x ⊗ (y ⊕ z) ≡ x ⊗ y ⊕ x ⊗ z
  product_over = ⊗_over_⊕

  pub over_product : (x y z : El) → (x ⊕ y) ⊗ z ≡ x ⊗ z ⊕ y ⊗ z
  over_product x y z = rw (⊗_comm (x ⊕ y) z, ⊗_over_⊕ z x y, ⊗_comm z x, ⊗_comm z y)

  pub product-zero : (x : El) → x ⊗ 𝟘 ≡ 𝟘
  product-zero x = ap (λ s. x ⊗ s) (sym (⊕_self 𝟘)) ∙ ⊗_over_⊕ x 𝟘 𝟘 ∙ ⊕_self (x ⊗ 𝟘)

  pub zero-product : (x : El) → 𝟘 ⊗ x ≡ 𝟘
  zero-product x = ⊗_comm 𝟘 x ∙ product-zero x

  pub equal_of_sum : (x y : El) → x ⊕ y ≡ 𝟘 → x ≡ y
  equal_of_sum x y h = sym (sum_cancel y x) ∙ ap (λ s. y ⊕ s) (sum_comm y x ∙ h) ∙ ⊕_zero y

  pub sum_of_equal : (x y : El) → x ≡ y → x ⊕ y ≡ 𝟘
  sum_of_equal x y h = ap (λ s. s ⊕ y) h ∙ ⊕_self y

pub ruleset ring =
    (sum_assoc, sum_comm, sum_left_comm, sum_self, sum-zero, zero-sum, sum_cancel, product_assoc, product_comm, product_left_comm, product-one, one_product, product_over, over_product, product-zero, zero-product)
