-- What a commutative ring with x ⊕ x = 𝟘 is, and a field of that kind; no promise rests on it.
use Rattle.std.specs.Prelude.{◌≡◌, ◌≢◌}

pub record Ring : Type 1 where
  infixl 60 ◌⊕◌
  infixl 70 ◌⊗◌
  pub El : Type 0
  pub 𝟘 : El
  pub 𝟙 : El
  pub ◌⊕◌ : El → El → El
  pub ◌⊗◌ : El → El → El
  pub ⊕_assoc : (x y z : El) → x ⊕ y ⊕ z ≡ x ⊕ (y ⊕ z)
  pub ⊕_comm : (x y : El) → x ⊕ y ≡ y ⊕ x
  pub ⊕_self : (x : El) → x ⊕ x ≡ 𝟘
  pub ⊕_zero : (x : El) → x ⊕ 𝟘 ≡ x
  pub ⊗_assoc : (x y z : El) → x ⊗ y ⊗ z ≡ x ⊗ (y ⊗ z)
  pub ⊗_comm : (x y : El) → x ⊗ y ≡ y ⊗ x
  pub ⊗_one : (x : El) → x ⊗ 𝟙 ≡ x
  pub ⊗_over_⊕ : (x y z : El) → x ⊗ (y ⊕ z) ≡ x ⊗ y ⊕ x ⊗ z

-- a ring in which 𝟙 is not 𝟘, zero can be told, and every other element has an inverse
pub record Field : Type 1 where
  pub ring : Ring
  pub inverse : ring.El → ring.El
  pub zero? : (x : ring.El) → Dec (x ≡ ring.𝟘)
  pub one_not_zero : ring.𝟙 ≢ ring.𝟘
  pub inverse_law : (x : ring.El) → x ≢ ring.𝟘 → ring.◌⊗◌ x (inverse x) ≡ ring.𝟙
