-- Two polynomials over bits that divide each other are the same.
use mathlib.Core.Path.{◌≡◌, ◌∙◌, ap, ap₂}
use mathlib.Core.Logic.{◌⊎◌, inl, inr}
use mathlib.Core.List.{List, [], ◌∷◌}
use Prim.Native.Nat.{ℕ, suc, ◌*◌, ◌≤◌, ◌<◌}
use native.Mathlib.Nat.{mul-zero, one-mul}
use native.Mathlib.Decide.{dec_lt}
use native.Mathlib.Omega.{arith}
use lib.ListN.{length, get_or, get_or-eq_default}
use Rattle.bits.specs.Bits.{AreBits}
use Rattle.bits.specs.Polynomial.{product_bits}
use Rattle.field.specs.Sum.{◌⊕◌}
use Rattle.field.proofs.SumLaws.{zero-sum}
use Rattle.generator.proofs.Degrees.{HasDegree, zero_or_degree, product_none, zero_before, product_degree}
use Rattle.generator.proofs.ProductPlaces as Places

-- 0, or of some degree
of_some_degree : (p : List ℕ) → AreBits p → ((i : ℕ) → get_or p i 0 ≡ 0) ⊎ ((d : ℕ) × HasDegree d p)
of_some_degree p B = zero_or_degree (length p) p B (λ i l. get_or-eq_default p 0 {n = i} l)

-- one degree, and that of what stands at every place
no_lower : {d e : ℕ} {p : List ℕ} → HasDegree d p → HasDegree e p → e ≤ d
no_lower {d} {e} D E = pick (dec_lt d e)
  where
    pick : Dec (d < e) → e ≤ d
    pick (yes h) = absurd (omega (arith, D.above e h, E.top))
    pick (no n) = omega arith

same_degree : {d : ℕ} {p : List ℕ} (q : List ℕ) → ((i : ℕ) → get_or q i 0 ≡ get_or p i 0) → HasDegree d p → HasDegree d q
same_degree {d} q h D = record { top = h d ∙ D.top; above = λ i l. h i ∙ D.above i l }

-- the product with 0 on the right, and with 1 on the left
none_product : (xs ys : List ℕ) → ((i : ℕ) → get_or ys i 0 ≡ 0) → (i : ℕ) → get_or (product_bits xs ys) i 0 ≡ 0
none_product [] ys z i = Places.product_none ys i
none_product (x ∷ xs) ys z i =
    Places.product_place x xs ys i
    ∙ ap₂ (λ (y w : ℕ). y ⊕ x * w) (zero_before (product_bits xs ys) (none_product xs ys z) i) (z i)
    ∙ ap (λ (y : ℕ). 0 ⊕ y) (mul-zero x)
    ∙ zero-sum 0

one_product : (xs ys : List ℕ) → HasDegree 0 xs → (i : ℕ) → get_or (product_bits xs ys) i 0 ≡ get_or ys i 0
one_product [] ys D i = absurd (omega (arith, D.top))
one_product (x ∷ xs) ys D i =
    Places.product_place x xs ys i
    ∙ ap₂ (λ (y w : ℕ). y ⊕ w * get_or ys i 0)
    (zero_before (product_bits xs ys) (product_none xs ys (λ k. D.above (suc k) (omega arith))) i) D.top
    ∙ ap (λ (y : ℕ). 0 ⊕ y) (one-mul (get_or ys i 0))
    ∙ zero-sum (get_or ys i 0)

-- h is q times g and g is r times h
pub divisors_same : {e : ℕ} {g q r : List ℕ} (h : List ℕ) → HasDegree e g → AreBits q → AreBits r → ((i : ℕ) → get_or h i 0 ≡ get_or (product_bits q g) i 0)
    → ((i : ℕ) → get_or g i 0 ≡ get_or (product_bits r h) i 0) → (i : ℕ) → get_or h i 0 ≡ get_or g i 0
divisors_same {e} {g} {q} {r} h E Q R a b = pick (of_some_degree q Q) (of_some_degree r R)
  where
    not_zero : get_or g e 0 ≡ 0 → ⊥
    not_zero z = omega (arith, E.top)

    pick : ((i : ℕ) → get_or q i 0 ≡ 0) ⊎ ((d : ℕ) × HasDegree d q) → ((i : ℕ) → get_or r i 0 ≡ 0) ⊎ ((d : ℕ) × HasDegree d r)
        → (i : ℕ) → get_or h i 0 ≡ get_or g i 0
    pick (inl z) y = absurd (not_zero (b e ∙ none_product r h (λ i. a i ∙ product_none q g z i) e))
    pick (inr x) (inl z) = absurd (not_zero (b e ∙ product_none r h z e))
    pick (inr (c, C)) (inr (f, F)) =
        let H = same_degree h a (product_degree C E) in
        let G = same_degree g b (product_degree F H) in
        let none : c ≡ 0 = omega (arith, no_lower E G) in
        λ i. a i ∙ one_product q g (rw none at C) i
