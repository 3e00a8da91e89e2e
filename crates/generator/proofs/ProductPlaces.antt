-- The places of a product of bit polynomials: one more coefficient of the first factor, and which places of the second factor count for a place.
use mathlib.Core.Path.{◌≡◌, ◌∙◌, sym, ap, ap₂}
use mathlib.Core.List.{List, [], ◌∷◌, ◌++◌}
use Prim.Native.Nat.{ℕ, zero, suc, ◌*◌, ◌≤◌}
use native.Mathlib.Nat.{mul-zero}
use native.Mathlib.Omega.{arith}
use lib.ListN.{length, get_or, replicate}
use Rattle.bits.specs.Polynomial.{product_bits}
use Rattle.bits.proofs.BitLaws.{product-nil, zeros_at}
use Rattle.bits.proofs.BitLaws as BitLaws
use Rattle.field.specs.Sum.{◌⊕◌}
use Rattle.field.proofs.SumLaws.{sum, sum-zero}

pub product_none : (ys : List ℕ) (i : ℕ) → get_or (product_bits [] ys) i 0 ≡ 0
product_none ys i = ap (λ (l : List ℕ). get_or l i 0) (product-nil ys) ∙ zeros_at (length ys) i

pub product_place : (x : ℕ) (xs ys : List ℕ) (i : ℕ) → get_or (product_bits (x ∷ xs) ys) i 0 ≡ get_or (0 ∷ product_bits xs ys) i 0 ⊕ x * get_or ys i 0
unfolding ◌⊕◌
product_place x xs ys i = BitLaws.product_place x xs ys i

exchange : (x y z : ℕ) → x ⊕ y ⊕ z ≡ x ⊕ z ⊕ y
exchange x y z = simp sum

pub product_snoc : (xs : List ℕ) (b : ℕ) (ys : List ℕ) (i : ℕ)
    → get_or (product_bits (xs ++ (b ∷ [])) ys) i 0 ≡ get_or (product_bits xs ys) i 0 ⊕ b * get_or (replicate (length xs) 0 ++ ys) i 0
product_snoc [] b ys i =
    product_place b [] ys i ∙ ap (λ (z : ℕ). z ⊕ b * get_or ys i 0) (shifted_none i)
  where
    shifted_none : (i : ℕ) → get_or (0 ∷ product_bits [] ys) i 0 ≡ get_or (product_bits [] ys) i 0
    shifted_none zero = sym (product_none ys 0)
    shifted_none (suc i) = product_none ys i ∙ sym (product_none ys (suc i))
product_snoc (x ∷ xs) b ys zero =
    product_place x (xs ++ (b ∷ [])) ys 0
    ∙ sym (ap₂ (λ (y z : ℕ). y ⊕ z) (product_place x xs ys 0) (mul-zero b) ∙ sum-zero (0 ⊕ x * get_or ys 0 0))
product_snoc (x ∷ xs) b ys (suc i) =
    product_place x (xs ++ (b ∷ [])) ys (suc i)
    ∙ ap (λ (z : ℕ). z ⊕ x * get_or ys (suc i) 0) (product_snoc xs b ys i)
    ∙ exchange (get_or (product_bits xs ys) i 0) (b * get_or (replicate (length xs) 0 ++ ys) i 0) (x * get_or ys (suc i) 0)
    ∙ ap (λ (z : ℕ). z ⊕ b * get_or (replicate (length xs) 0 ++ ys) i 0) (sym (product_place x xs ys (suc i)))

-- place i of the product depends only on the places 0 to i of the second factor
pub product_local : (xs ys zs : List ℕ) (i : ℕ) → ((j : ℕ) → j ≤ i → get_or ys j 0 ≡ get_or zs j 0)
    → get_or (product_bits xs ys) i 0 ≡ get_or (product_bits xs zs) i 0
product_local [] ys zs i h = product_none ys i ∙ sym (product_none zs i)
product_local (x ∷ xs) ys zs zero h =
    product_place x xs ys 0 ∙ ap (λ (z : ℕ). 0 ⊕ x * z) (h 0 (omega arith)) ∙ sym (product_place x xs zs 0)
product_local (x ∷ xs) ys zs (suc i) h =
    product_place x xs ys (suc i)
    ∙ ap₂ (λ (y z : ℕ). y ⊕ x * z) (product_local xs ys zs i (λ j l. h j (omega arith))) (h (suc i) (omega arith))
    ∙ sym (product_place x xs zs (suc i))
