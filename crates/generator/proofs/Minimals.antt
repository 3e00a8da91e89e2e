-- The computed test of the table of minimal polynomials: a walk down the rows of m that carries a^(2s+1) along, and what it tells of each row.
use mathlib.Core.Path.{◌≡◌, ◌∙◌, sym, ap, ap₂, subst}
use mathlib.Core.Bool.{Bool, true, false}
use mathlib.Core.List.{List, [], ◌∷◌}
use Prim.Native.Nat.{ℕ, zero, suc, ◌+◌, ◌-◌, ◌*◌, ◌/◌, ◌%◌, ◌^◌, ◌≤◌, ◌<◌}
use native.Mathlib.Nat.{not-suc-le-zero, mul-one, le_trans, pow-suc}
use native.Mathlib.Omega.{arith}
use lib.Dec.{T, eqb, leb, ltb, eqb→eq, leb→le, ltb→lt}
use lib.ListN.{get_or, drop}
use lib.Pow.{pow_mono}
use lib.Seq.{get_or-drop}
use Rattle.bits.specs.Bits.{AreBits}
use Rattle.bits.proofs.BitLaws.{bits_cons}
use Rattle.field.specs.Sum.{◌⊕◌}
use Rattle.field.specs.Product.{IsField, polynomials, polynomial, digits, horner, shifted, ◌⊗⟨◌⟩◌}
use Rattle.field.specs.Power.{a, n_of, power}
use Rattle.field.proofs.Horner.{horner-zero, horner-digits}
use Rattle.field.proofs.ProductLaws.{product-horner, remainder_below}
use Rattle.field.proofs.PowerLaws.{power_bound, power-one}
use Rattle.field.proofs.Order.{power_step, eight_bound}
use Rattle.field.proofs.Tests.{both, both_left, both_right, at_listed, all, All, done, also, all_passed}
use Rattle.codes.specs.Table.{ks, ts, firsts, first, listed_codes}
use Rattle.codes.specs.Rows.{RowOf, before_k, before_t}
use Rattle.codes.specs.Sums.{sum_of}
use Rattle.codes.proofs.Rows.{row_facts}
use Rattle.codes.proofs.SumLaws.{sum_of-nil, sum-cons}
use Rattle.generator.specs.Minimals.{minimals}
use Rattle.generator.specs.Factors.{binary, minimal_of}
use Rattle.generator.proofs.Degrees.{HasDegree}
use Rattle.generator.proofs.Binary.{binary-zero, binary-suc, binary_bits, binary_top, binary_above}

-- the number p as a polynomial, evaluated at z
abbrev value : ℕ → ℕ → ℕ → ℕ
value m z p = horner (horner (shifted m (polynomial m)) z) 1 p

-- so many times "times a"
abbrev shifts : ℕ → ℕ → ℕ → ℕ
shifts m zero z = z
shifts m (suc c) z = shifts m c (shifted m (polynomial m) z)

-- the minimal polynomial p of the row (k, t) after the row (kb, s), where z is a^(2s+1)
abbrev minimal_tests : ℕ → ℕ → ℕ → ℕ → ℕ → ℕ → ℕ → List Bool
minimal_tests m kb s z k t p =
    leb s t ∷ leb (2 ^ (kb - k)) p ∷ ltb p (2 ^ suc (kb - k)) ∷ eqb (p % 2) 1 ∷ eqb (value m z p) 0 ∷ []

-- so many rows, z shifted on from a^(2s+1) to a^(2t+1) after each
abbrev walk : ℕ → ℕ → ℕ → ℕ → ℕ → List ℕ → List ℕ → List ℕ → Bool
walk m zero kb s z kl tl pl = true
walk m (suc left) kb s z [] tl pl = false
walk m (suc left) kb s z (k ∷ kl) [] pl = false
walk m (suc left) kb s z (k ∷ kl) (t ∷ tl) [] = false
walk m (suc left) kb s z (k ∷ kl) (t ∷ tl) (p ∷ pl) =
    both (all (minimal_tests m kb s z k t p)) (walk m left k t (shifts m (2 * (t - s)) z) kl tl pl)

abbrev walk_of : ℕ → Bool
walk_of m = walk m (first (suc m) - first m) (n_of m) 0 2 (drop (first m) ks) (drop (first m) ts) (drop (first m) minimals)

-- the one test of the whole table
walked : {m : ℕ} → IsField m → T (walk_of m)
unfolding ks ts listed_codes minimals firsts first polynomials polynomial digits horner shifted ◌⊕◌
walked = at_listed walk_of tt

-- what the walk tells of the minimal polynomial p of a row
record RightMinimal (m kb s k t p : ℕ) : Type 0 where
  ascending : s ≤ t
  least : 2 ^ (kb - k) ≤ p
  most : p < 2 ^ suc (kb - k)
  odd : p % 2 ≡ 1
  root : value m (power m a (2 * s + 1)) p ≡ 0

module _ {m : ℕ} (L : IsField m) where
  shifts-power : (c i : ℕ) → shifts m c (power m a i) ≡ power m a (c + i)
  shifts-power zero i = ap (power m a) (omega arith)
  shifts-power (suc c) i =
      let e : c + suc i ≡ suc c + i = omega arith in
      ap (shifts m c) (power_step L i) ∙ shifts-power c (suc i) ∙ ap (power m a) e

  right_minimal : (kb s k t p : ℕ) → All (minimal_tests m kb s (power m a (2 * s + 1)) k t p) → RightMinimal m kb s k t p
  right_minimal kb s k t p (also up (also least (also most (also odd (also root done))))) =
      record {
        ascending = leb→le s t up;
        least = leb→le (2 ^ (kb - k)) p least;
        most = ltb→lt p (2 ^ suc (kb - k)) most;
        odd = eqb→eq (p % 2) 1 odd;
        root = eqb→eq (value m (power m a (2 * s + 1)) p) 0 root;
      }

  next_root : (s t : ℕ) → s ≤ t → shifts m (2 * (t - s)) (power m a (2 * s + 1)) ≡ power m a (2 * t + 1)
  next_root s t h =
      let e : 2 * (t - s) + (2 * s + 1) ≡ 2 * t + 1 = omega arith in
      shifts-power (2 * (t - s)) (2 * s + 1) ∙ ap (power m a) e

  walk_head : (left kb s k t p : ℕ) (kl tl pl : List ℕ)
      → T (walk m (suc left) kb s (power m a (2 * s + 1)) (k ∷ kl) (t ∷ tl) (p ∷ pl)) → RightMinimal m kb s k t p
  walk_head left kb s k t p kl tl pl w =
      let z : ℕ = power m a (2 * s + 1) in
      right_minimal kb s k t p
      (all_passed (minimal_tests m kb s z k t p)
      (both_left (all (minimal_tests m kb s z k t p)) (walk m left k t (shifts m (2 * (t - s)) z) kl tl pl) w))

  walk-tail : (left kb s k t p : ℕ) (kl tl pl : List ℕ) → T (walk m (suc left) kb s (power m a (2 * s + 1)) (k ∷ kl) (t ∷ tl) (p ∷ pl))
      → T (walk m left k t (power m a (2 * t + 1)) kl tl pl)
  walk-tail left kb s k t p kl tl pl w =
      let z : ℕ = power m a (2 * s + 1) in
      subst (λ y. T (walk m left k t y kl tl pl)) (next_root s t (walk_head left kb s k t p kl tl pl w).ascending)
      (both_right (all (minimal_tests m kb s z k t p)) (walk m left k t (shifts m (2 * (t - s)) z) kl tl pl) w)

  walk_at : (left kb s : ℕ) (kl tl pl : List ℕ) → T (walk m left kb s (power m a (2 * s + 1)) kl tl pl) → (i : ℕ) → i < left
      → RightMinimal m (get_or (kb ∷ kl) i 0) (get_or (s ∷ tl) i 0) (get_or kl i 0) (get_or tl i 0) (get_or pl i 0)
  walk_at zero kb s kl tl pl w i h = absurd (not-suc-le-zero h)
  walk_at (suc left) kb s [] tl pl w i h = absurd w
  walk_at (suc left) kb s (k ∷ kl) [] pl w i h = absurd w
  walk_at (suc left) kb s (k ∷ kl) (t ∷ tl) [] w i h = absurd w
  walk_at (suc left) kb s (k ∷ kl) (t ∷ tl) (p ∷ pl) w zero h = walk_head left kb s k t p kl tl pl w
  walk_at (suc left) kb s (k ∷ kl) (t ∷ tl) (p ∷ pl) w (suc i) h = walk_at left k t kl tl pl (walk-tail left kb s k t p kl tl pl w) i (omega arith)

  -- a binary number's sum is its value
  sum_value : (i c p : ℕ) → p < 2 ^ c → sum_of m i (binary c p) ≡ value m (power m a i) p
  sum_value i zero p h =
      let e : p ≡ 0 = omega arith in
      rw (binary-zero p, sum_of-nil m i, e) (sym (horner-zero (horner (shifted m (polynomial m)) (power m a i)) 1))
  sum_value i (suc c) p h =
      let z : ℕ = power m a i in
      let b : AreBits (p % 2 ∷ binary c (p / 2)) = bits_cons (omega arith) (binary_bits c (p / 2)) in
      ap (sum_of m i) (binary-suc c p)
      ∙ sum-cons L i (p % 2) (binary c (p / 2)) b
      ∙ ap₂ (λ x y. x ⊕ y) (sym (mul-one (p % 2)))
      (ap (λ y. z ⊗⟨ m ⟩ y) (sum_value i c (p / 2) (omega (arith, pow-suc 2 c)))
      ∙ product-horner m z (value m z (p / 2))
      ∙ ap (λ x. horner (shifted m (polynomial m)) x (value m z (p / 2))) (remainder_below m (polynomial m) z (power_bound L a i)))
      ∙ sym (horner-digits (horner (shifted m (polynomial m)) z) (horner-zero (shifted m (polynomial m)) z) 1 p)

right_minimal_at : {m r : ℕ} → RowOf m r → RightMinimal m (before_k m r) (before_t m r) (get_or ks r 0) (get_or ts r 0) (get_or minimals r 0)
unfolding before_k before_t
right_minimal_at {m} {r} w =
    let e : first m + (r - first m) ≡ r = omega arith in
    let at : (xs : List ℕ) → get_or (drop (first m) xs) (r - first m) 0 ≡ get_or xs r 0 =
    λ xs. get_or-drop (first m) xs (r - first m) 0 ∙ ap (λ i. get_or xs i 0) e in
    let one : ◌≡◌ {A = ℕ} 2 (power m a (2 * 0 + 1)) = sym (power-one w.listed a (omega (arith, eight_bound w.listed))) in
    rw (← at ks, ← at ts, ← at minimals)
    (walk_at w.listed (first (suc m) - first m) (n_of m) 0 (drop (first m) ks) (drop (first m) ts) (drop (first m) minimals)
    (subst (λ z. T (walk m (first (suc m) - first m) (n_of m) 0 z (drop (first m) ks) (drop (first m) ts) (drop (first m) minimals))) one (walked w.listed))
    (r - first m) (omega arith))

-- the degree is at most 10
degree_below : {m r : ℕ} → RowOf m r → before_k m r - get_or ks r 0 < 11
degree_below w = omega (arith, (row_facts w).one_class)

pub minimal_bits : (r : ℕ) → AreBits (minimal_of r)
unfolding minimal_of
minimal_bits r = binary_bits 11 (get_or minimals r 0)

pub minimal_root : {m r : ℕ} → RowOf m r → sum_of m (2 * before_t m r + 1) (minimal_of r) ≡ 0
unfolding minimal_of
minimal_root {m} {r} w =
    let R = right_minimal_at w in
    sum_value w.listed (2 * before_t m r + 1) 11 (get_or minimals r 0) (le_trans R.most (pow_mono (degree_below w))) ∙ R.root

pub minimal_degree : {m r : ℕ} → RowOf m r → HasDegree (before_k m r - get_or ks r 0) (minimal_of r)
unfolding minimal_of
minimal_degree {m} {r} w =
    let R = right_minimal_at w in
    let p : ℕ = get_or minimals r 0 in
    let d : ℕ = before_k m r - get_or ks r 0 in
    record { top = binary_top 11 p d R.least R.most (degree_below w); above = binary_above 11 p d R.most }
