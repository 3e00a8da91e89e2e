-- The degree of a polynomial over bits: what stands above the top can be cut off, and degrees add up in a product.
use mathlib.Core.Path.{◌≡◌, ◌∙◌, refl, sym, ap, ap₂}
use mathlib.Core.Logic.{◌⊎◌, inl, inr}
use mathlib.Core.List.{List, [], ◌∷◌}
use Prim.Native.Nat.{ℕ, zero, suc, ◌+◌, ◌*◌, ◌≤◌, ◌<◌}
use native.Mathlib.Nat.{mul-zero, zero-mul, zero-add, suc-add}
use native.Mathlib.Decide.{dec_lt, ℕ_discrete}
use native.Mathlib.Omega.{arith}
use lib.Bits.{bit_xor}
use lib.ListN.{length, get_or, take, get_or-eq_default}
use lib.Seq.{length-take-le, get_or-take}
use Rattle.bits.specs.Bits.{AreBits}
use Rattle.bits.specs.Polynomial.{product_bits}
use Rattle.bits.proofs.BitLaws.{product_place, product-nil, zeros_at}

pub record HasDegree (d : ℕ) (p : List ℕ) : Type 0 where
  pub top : get_or p d 0 ≡ 1
  pub above : (i : ℕ) → d < i → get_or p i 0 ≡ 0

pub degree_of-one : HasDegree 0 (1 ∷ [])
degree_of-one = record { top = refl; above = above }
  where
    above : (i : ℕ) → 0 < i → get_or {A = ℕ} (1 ∷ []) i 0 ≡ 0
    above zero h = absurd (omega arith)
    above (suc i) h = refl

-- what is 0 from some place on is 0, or of some degree
pub zero_or_degree : (b : ℕ) (p : List ℕ) → AreBits p → ((i : ℕ) → b ≤ i → get_or p i 0 ≡ 0) → ((i : ℕ) → get_or p i 0 ≡ 0) ⊎ ((d : ℕ) × HasDegree d p)
zero_or_degree zero p B z = inl (λ i. z i (omega arith))
zero_or_degree (suc b) p B z = pick (ℕ_discrete (get_or p b 0) 0) (zero_or_degree b p B)
  where
    place : get_or p b 0 ≡ 0 → (i : ℕ) → b ≤ i → Dec (i ≡ b) → get_or p i 0 ≡ 0
    place e i l (yes s) = ap (λ (k : ℕ). get_or p k 0) s ∙ e
    place e i l (no s) = z i (omega arith)

    pick : Dec (get_or p b 0 ≡ 0) → (((i : ℕ) → b ≤ i → get_or p i 0 ≡ 0) → ((i : ℕ) → get_or p i 0 ≡ 0) ⊎ ((d : ℕ) × HasDegree d p))
        → ((i : ℕ) → get_or p i 0 ≡ 0) ⊎ ((d : ℕ) × HasDegree d p)
    pick (yes e) rest = rest (λ i l. place e i l (ℕ_discrete i b))
    pick (no n) rest = inr (b, record { top = omega (arith, B.at b); above = λ i l. z i (omega arith) })

-- a list with something at place d reaches beyond it
pub reaches : (p : List ℕ) (d : ℕ) → get_or p d 0 ≡ 1 → d + 1 ≤ length p
reaches p d e = pick (dec_lt d (length p))
  where
    pick : Dec (d < length p) → d + 1 ≤ length p
    pick (yes h) = omega arith
    pick (no n) =
        let z : get_or p d 0 ≡ 0 = get_or-eq_default p 0 {n = d} (omega arith) in
        absurd (omega arith)

-- a polynomial without the zeros above its top
module _ {d : ℕ} {p : List ℕ} (D : HasDegree d p) where
  pub cut_long : length (take (d + 1) p) ≡ d + 1
  cut_long = length-take-le (d + 1) p (reaches p d D.top)

  pub cut_at : (i : ℕ) → get_or (take (d + 1) p) i 0 ≡ get_or p i 0
  cut_at i = pick (dec_lt i (d + 1))
    where
      pick : Dec (i < d + 1) → get_or (take (d + 1) p) i 0 ≡ get_or p i 0
      pick (yes h) = get_or-take (d + 1) p i 0 h
      pick (no h) = get_or-eq_default (take (d + 1) p) 0 {n = i} (omega (arith, cut_long)) ∙ sym (D.above i (omega arith))

pub product_none : (xs ys : List ℕ) → ((i : ℕ) → get_or xs i 0 ≡ 0) → (i : ℕ) → get_or (product_bits xs ys) i 0 ≡ 0
product_none [] ys h i = rw (product-nil ys) (zeros_at (length ys) i)
product_none (x ∷ xs) ys h zero = product_place x xs ys zero ∙ ap (λ z. bit_xor 0 (z * get_or ys 0 0)) (h 0) ∙ ap (bit_xor 0) (zero-mul (get_or ys 0 0))
product_none (x ∷ xs) ys h (suc i) =
    product_place x xs ys (suc i)
    ∙ ap₂ (λ y z. bit_xor y (z * get_or ys (suc i) 0)) (product_none xs ys (λ k. h (suc k)) i) (h 0)
    ∙ ap (bit_xor 0) (zero-mul (get_or ys (suc i) 0))

product_above : (d e : ℕ) (xs ys : List ℕ) → ((i : ℕ) → d < i → get_or xs i 0 ≡ 0) → ((i : ℕ) → e < i → get_or ys i 0 ≡ 0)
    → (i : ℕ) → d + e < i → get_or (product_bits xs ys) i 0 ≡ 0
product_above d e [] ys h k i l = rw (product-nil ys) (zeros_at (length ys) i)
product_above d e (x ∷ xs) ys h k zero l = absurd (omega arith)
product_above zero e (x ∷ xs) ys h k (suc i) l =
    product_place x xs ys (suc i)
    ∙ ap₂ (λ y z. bit_xor y (x * z)) (product_none xs ys (λ j. h (suc j) (omega arith)) i) (k (suc i) (omega arith))
    ∙ ap (bit_xor 0) (mul-zero x)
product_above (suc d) e (x ∷ xs) ys h k (suc i) l =
    product_place x xs ys (suc i)
    ∙ ap₂ (λ y z. bit_xor y (x * z)) (product_above d e xs ys (λ j u. h (suc j) (omega arith)) k i (omega arith)) (k (suc i) (omega arith))
    ∙ ap (bit_xor 0) (mul-zero x)

pub zero_before : (xs : List ℕ) → ((i : ℕ) → get_or xs i 0 ≡ 0) → (i : ℕ) → get_or (0 ∷ xs) i 0 ≡ 0
zero_before xs h zero = refl
zero_before xs h (suc i) = h i

product_top : (d e : ℕ) (xs ys : List ℕ) → HasDegree d xs → HasDegree e ys → get_or (product_bits xs ys) (d + e) 0 ≡ 1
product_top d e [] ys D E = absurd (omega (arith, D.top))
product_top zero e (x ∷ xs) ys D E =
    rw (zero-add e)
    (product_place x xs ys e
    ∙ ap₂ (λ y z. bit_xor y (x * z)) (zero_before (product_bits xs ys) (product_none xs ys (λ i. D.above (suc i) (omega arith))) e) E.top
    ∙ ap (λ z. bit_xor 0 (z * 1)) D.top)
product_top (suc d) e (x ∷ xs) ys D E =
    rw (suc-add d e)
    (product_place x xs ys (suc (d + e))
    ∙ ap₂ (λ y z. bit_xor y (x * z)) (product_top d e xs ys (record { top = D.top; above = λ i u. D.above (suc i) (omega arith) }) E)
    (E.above (suc (d + e)) (omega arith))
    ∙ ap (bit_xor 1) (mul-zero x))

pub product_degree : {d e : ℕ} {xs ys : List ℕ} → HasDegree d xs → HasDegree e ys → HasDegree (d + e) (product_bits xs ys)
product_degree {d} {e} {xs} {ys} D E = record { top = product_top d e xs ys D E; above = product_above d e xs ys D.above E.above }
