-- Two computed tests of a list and what they prove: that 1 stands at its end and nowhere before, and that it holds every number below 2 ^ k.
use mathlib.Core.Path.{◌≡◌, ◌∙◌, refl, sym, ap, subst}
use mathlib.Core.Logic.{◌≢◌}
use mathlib.Core.Bool.{Bool, true, false, not}
use mathlib.Core.List.Memᴰ
use mathlib.Core.List.{List, [], ◌∷◌, Memᴰ}
use Prim.Native.Nat.{ℕ, zero, suc, ◌+◌, ◌*◌, ◌/◌, ◌%◌, ◌^◌, ◌≤◌, ◌<◌}
use native.Mathlib.Nat.{pow-suc}
use native.Mathlib.Decide.{ℕ_discrete}
use native.Mathlib.Omega.{arith}
use lib.Dec.{T, T_not, eqb, eqb→eq, eqb_refl}
use Rattle.field.proofs.SumLaws.{digit_cases}
use Rattle.field.proofs.Tests.{both, both_left, both_right}

-- z and what f makes of it, n numbers in all
abbrev pub orbit : (ℕ → ℕ) → ℕ → ℕ → List ℕ
orbit f zero z = []
orbit f (suc n) z = z ∷ orbit f n (f z)

-- 1 stands at the end and nowhere before
abbrev pub first_one_last : List ℕ → Bool
first_one_last [] = false
first_one_last (x ∷ []) = eqb x 1
first_one_last (x ∷ y ∷ ys) = both (not (eqb x 1)) (first_one_last (y ∷ ys))

-- every number below 2 ^ k stands in the list: the halves of the even ones and those of the odd ones are tested alike
abbrev pub keep : Bool → ℕ → List ℕ → List ℕ
keep true x xs = x ∷ xs
keep false x xs = xs

abbrev pub halved : ℕ → List ℕ → List ℕ
halved d [] = []
halved d (x ∷ xs) = keep (eqb (x % 2) d) (x / 2) (halved d xs)

abbrev pub zero_first : List ℕ → Bool
zero_first [] = false
zero_first (x ∷ xs) = eqb x 0

abbrev pub covers : ℕ → List ℕ → Bool
covers zero xs = zero_first xs
covers (suc k) xs = both (covers k (halved 0 xs)) (covers k (halved 1 xs))

kept_member : (y d x : ℕ) (xs : List ℕ) (b : Bool) → (T b → x % 2 ≡ d) → (Memᴰ y (halved d xs) → Memᴰ (2 * y + d) xs)
    → Memᴰ y (keep b (x / 2) (halved d xs)) → Memᴰ (2 * y + d) (x ∷ xs)
kept_member y d x xs true e rest (Memᴰ.head p) =
    let q : x % 2 ≡ d = e tt in
    let r : 2 * y + d ≡ x = omega arith in
    Memᴰ.head r
kept_member y d x xs true e rest (Memᴰ.tail h) = Memᴰ.tail (rest h)
kept_member y d x xs false e rest h = Memᴰ.tail (rest h)

halved_member : (y d : ℕ) (xs : List ℕ) → Memᴰ y (halved d xs) → Memᴰ (2 * y + d) xs
halved_member y d [] h = absurd (Memᴰ.not-nil h)
halved_member y d (x ∷ xs) h = kept_member y d x xs (eqb (x % 2) d) (eqb→eq (x % 2) d) (halved_member y d xs) h

zero_member : (xs : List ℕ) → T (zero_first xs) → Memᴰ 0 xs
zero_member [] t = absurd t
zero_member (x ∷ xs) t = Memᴰ.head (sym (eqb→eq x 0 t))

pub covered : (k : ℕ) (xs : List ℕ) → T (covers k xs) → (x : ℕ) → x < 2 ^ k → Memᴰ x xs
covered zero xs t x h = Memᴰ.cast (omega arith) (zero_member xs t)
covered (suc k) xs t x h =
    let half : x / 2 < 2 ^ k = omega (arith, pow-suc 2 k) in
    let even : T (covers k (halved 0 xs)) = both_left (covers k (halved 0 xs)) (covers k (halved 1 xs)) t in
    let odd : T (covers k (halved 1 xs)) = both_right (covers k (halved 0 xs)) (covers k (halved 1 xs)) t in
    Memᴰ.cast (omega arith)
    (digit_cases (λ d. Memᴰ (2 * (x / 2) + d) xs)
    (halved_member (x / 2) 0 xs (covered k (halved 0 xs) even (x / 2) half))
    (halved_member (x / 2) 1 xs (covered k (halved 1 xs) odd (x / 2) half)) x)

-- the list of g s, g (s + 1) and so on, n numbers in all
abbrev values : (ℕ → ℕ) → ℕ → ℕ → List ℕ
values g s zero = []
values g s (suc n) = g s ∷ values g (suc s) n

module _ (g : ℕ → ℕ) where
  values_end : (s n e : ℕ) → s + n ≡ suc e → T (first_one_last (values g s n)) → g e ≡ 1
  values_end s zero e h t = absurd t
  values_end s (suc zero) e h t =
      let i : e ≡ s = omega arith in
      rw i (eqb→eq (g s) 1 t)
  values_end s (suc (suc n)) e h t =
      values_end (suc s) (suc n) e (omega arith) (both_right (not (eqb (g s) 1)) (first_one_last (values g (suc s) (suc n))) t)

  values_before : (s n e : ℕ) → s + n ≡ suc e → T (first_one_last (values g s n)) → (i : ℕ) → s ≤ i → i < e → g i ≢ 1
  values_before s zero e h t i l k = absurd t
  values_before s (suc zero) e h t i l k = absurd (omega arith)
  values_before s (suc (suc n)) e h t i l k =
      pick (ℕ_discrete i s)
      (values_before (suc s) (suc n) e (omega arith) (both_right (not (eqb (g s) 1)) (first_one_last (values g (suc s) (suc n))) t) i)
    where
      pick : Dec (i ≡ s) → (suc s ≤ i → i < e → g i ≢ 1) → g i ≢ 1
      pick (yes p) rest q =
          T_not (eqb (g s) 1) (both_left (not (eqb (g s) 1)) (first_one_last (values g (suc s) (suc n))) t)
          (subst (λ z. T (eqb z 1)) (sym q ∙ ap g p) (eqb_refl 1))
      pick (no p) rest q = rest (omega arith) k q

  values_place : (s n x : ℕ) → Memᴰ x (values g s n) → (i : ℕ) × (s ≤ i) × (i < s + n) × (g i ≡ x)
  values_place s zero x h = absurd (Memᴰ.not-nil h)
  values_place s (suc n) x (Memᴰ.head p) = (s, omega arith, omega arith, sym p)
  values_place s (suc n) x (Memᴰ.tail h) =
      let (i, l, u, e) = values_place (suc s) n x h in
      (i, omega arith, omega arith, e)

-- what the two tests of an orbit tell, where g counts it
module _ (f g : ℕ → ℕ) (step : (i : ℕ) → f (g i) ≡ g (suc i)) where
  orbit-values : (s n : ℕ) → orbit f n (g s) ≡ values g s n
  orbit-values s zero = refl
  orbit-values s (suc n) = ap (λ xs. g s ∷ xs) (ap (orbit f n) (step s) ∙ orbit-values (suc s) n)

  pub orbit_end : (n : ℕ) → T (first_one_last (orbit f n (g 1))) → g n ≡ 1
  orbit_end n t = values_end g 1 n n (omega arith) (rw (orbit-values 1 n) at t)

  pub orbit_before : (n : ℕ) → T (first_one_last (orbit f n (g 1))) → (i : ℕ) → 0 < i → i < n → g i ≢ 1
  orbit_before n t i l k = values_before g 1 n n (omega arith) (rw (orbit-values 1 n) at t) i l k

  pub orbit_place : (n x : ℕ) → Memᴰ x (orbit f n (g 1)) → (i : ℕ) × (0 < i) × (i ≤ n) × (g i ≡ x)
  orbit_place n x h =
      let (i, l, u, e) = values_place g 1 n x (rw (orbit-values 1 n) at h) in
      (i, l, omega arith, e)
