-- The numbers below 2 ^ m as a field in the sense of algebra: an element meets its number at `.0`.
use mathlib.Core.Path.{◌≡◌, ◌∙◌, sym, ap, fst_path}
use mathlib.Core.Logic.{◌≢◌}
use mathlib.Core.HLevel.{Σ_prop_path}
use Prim.Native.Nat.{ℕ, zero, suc, ◌^◌, ◌<◌}
use native.Mathlib.Bridge.{le_prop}
use native.Mathlib.Decide.{ℕ_discrete}
use native.Mathlib.Omega.{arith}
use lib.Pow.{pow_pos}
use Rattle.algebra.specs.Ring.{Ring, Field}
use Rattle.algebra.specs.Series as Series
use Rattle.field.specs.Sum as Sum
use Rattle.field.specs.Product.{IsField, ◌⊗⟨◌⟩◌}
use Rattle.field.specs.Power.{power}
use Rattle.field.specs.Power as Power
use Rattle.field.proofs.SumLaws.{sum_comm, sum_assoc, sum_self, sum-zero, sum_bound}
use Rattle.field.proofs.ProductLaws.{product_comm, product_assoc, product-one, product_over, product_bound}
use Rattle.field.proofs.PowerLaws.{one_bound, power_zero, power-suc, inverse_bound}
use Rattle.field.proofs.Order.{inverse_law}

abbrev pub Element : ℕ → Type 0
Element m = (x : ℕ) × (x < 2 ^ m)

pub el_path : {b : ℕ} {x y : (n : ℕ) × (n < b)} → x.0 ≡ y.0 → x ≡ y
el_path = Σ_prop_path (λ x. le_prop)

abbrev pub element : {b : ℕ} (x : ℕ) → x < b → (n : ℕ) × (n < b)
element x h = (x, h)

abbrev pub ring_of : (m : ℕ) → IsField m → Ring
ring_of m L = record {
  El = Element m;
  𝟘 = (0, pow_pos m);
  𝟙 = (1, one_bound L);
  ◌⊕◌ = λ x y. (Sum.◌⊕◌ x.0 y.0, sum_bound m x.1 y.1);
  ◌⊗◌ = λ x y. (x.0 ⊗⟨ m ⟩ y.0, product_bound L x.0 y.0);
  ⊕_assoc = λ x y z. el_path (sum_assoc x.0 y.0 z.0);
  ⊕_comm = λ x y. el_path (sum_comm x.0 y.0);
  ⊕_self = λ x. el_path (sum_self x.0);
  ⊕_zero = λ x. el_path (sum-zero x.0);
  ⊗_assoc = λ x y z. el_path (product_assoc L x.0 y.0 z.0);
  ⊗_comm = λ x y. el_path (product_comm m x.0 y.0);
  ⊗_one = λ x. el_path (product-one L x.0 x.1);
  ⊗_over_⊕ = λ x y z. el_path (product_over m x.0 y.0 z.0);
}

-- it can be decided whether an element is 0
unfoldable pub zero? : {m : ℕ} (L : IsField m) (x : Element m) → Dec (x ≡ (ring_of m L).𝟘)
zero? {m} L x = pick (ℕ_discrete x.0 0)
  where
    pick : Dec (x.0 ≡ 0) → Dec (x ≡ (ring_of m L).𝟘)
    pick (yes e) = yes (el_path e)
    pick (no n) = no (λ e. n (fst_path e))

pub one_not_zero : {m : ℕ} (L : IsField m) → (ring_of m L).𝟙 ≢ (ring_of m L).𝟘
one_not_zero L e =
    let n : ◌≡◌ {A = ℕ} 1 0 = fst_path e in
    omega arith

abbrev pub field : (m : ℕ) → IsField m → Field
field m L = record {
  ring = ring_of m L;
  inverse = λ x. (Power.inverse m x.0, inverse_bound L x.0);
  zero? = zero? L;
  one_not_zero = one_not_zero L;
  inverse_law = λ x h. el_path (inverse_law L x.0 x.1 (λ e. h (el_path e)));
}

-- a power in the field is the power of the number
pub power_number : {m : ℕ} (L : IsField m) (x : Element m) (e : ℕ) → (Series.power (ring_of m L) x e).0 ≡ power m x.0 e
unfolding Series.power
power_number {m} L x zero = sym (power_zero m x.0)
power_number {m} L x (suc e) = ap (λ z. x.0 ⊗⟨ m ⟩ z) (power_number L x e) ∙ sym (power-suc m x.0 e)
