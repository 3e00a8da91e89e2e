-- A search through all sets of at most t places, by which a table can show that none has given sums.
use mathlib.Core.Path.{◌≡◌, ◌∙◌, refl, sym, ap, subst}
use mathlib.Core.Bool.{Bool, true, not}
use mathlib.Core.List.Memᴰ
use mathlib.Core.List.{List, [], ◌∷◌, Memᴰ}
use Prim.Native.Nat.{ℕ, zero, suc, ◌+◌, ◌*◌, ◌≤◌, ◌<◌}
use native.Mathlib.Decide.{ℕ_discrete}
use native.Mathlib.Omega.{arith}
use lib.Dec.{T, eqb}
use borrow.Author.Tests.{eq-eqb}
use lib.ListN.{length, get_or}
use Rattle.bits.specs.Differences.{Ascending}
use Rattle.field.specs.Sum.{◌⊕◌}
use Rattle.field.specs.Power.{a, n_of, power}
use Rattle.field.proofs.SumLaws.{sum_self, sum_assoc, zero-sum}
use Rattle.field.proofs.Tests.{both, both_left, both_right}
use Rattle.codes.specs.Sums.{sum_over}
use Rattle.locate.specs.Located.{Located}
use Rattle.codes.proofs.SumLaws.{sum_over-nil, sum_over-cons}

-- all are 0
unfoldable pub zeroes : List ℕ → Bool
zeroes [] = true
zeroes (x ∷ xs) = both (eqb x 0) (zeroes xs)

-- a^(ij), a^(i(j+2)), .. added
unfoldable pub plus_place : ℕ → ℕ → ℕ → List ℕ → List ℕ
plus_place m i j [] = []
plus_place m i j (s ∷ ss) = (power m a (i * j) ⊕ s) ∷ plus_place m i (j + 2) ss

-- no set of at most t of the f places from i on has these odd sums: none without place i, and none with it
unfoldable pub no_set : ℕ → ℕ → ℕ → ℕ → List ℕ → Bool
no_set m zero i t sums = not (zeroes sums)
no_set m (suc f) i zero sums = not (zeroes sums)
no_set m (suc f) i (suc t) sums = both (no_set m f (suc i) (suc t) sums) (no_set m f (suc i) t (plus_place m i 1 sums))

no_set_more : (m f i t : ℕ) (sums : List ℕ)
    → no_set m (suc f) i (suc t) sums ≡ both (no_set m f (suc i) (suc t) sums) (no_set m f (suc i) t (plus_place m i 1 sums))
unfolding no_set
no_set_more m f i t sums = refl

no_set_end : (m i t : ℕ) (sums : List ℕ) → no_set m 0 i t sums ≡ not (zeroes sums)
unfolding no_set
no_set_end m i t sums = refl

no_set_full : (m f i : ℕ) (sums : List ℕ) → no_set m (suc f) i 0 sums ≡ not (zeroes sums)
unfolding no_set
no_set_full m f i sums = refl

plus_long : (m i j : ℕ) (sums : List ℕ) → length (plus_place m i j sums) ≡ length sums
unfolding plus_place
plus_long m i j [] = refl
plus_long m i j (s ∷ ss) = ap suc (plus_long m i (j + 2) ss)

plus_at_lem : (m i j : ℕ) (sums : List ℕ) (k : ℕ) → k < length sums → get_or (plus_place m i j sums) k 0 ≡ power m a (i * (2 * k + j)) ⊕ get_or sums k 0
unfolding plus_place
plus_at_lem m i j [] k h = absurd (omega arith)
plus_at_lem m i j (s ∷ ss) zero h =
    let e : j ≡ 2 * 0 + j = omega arith in
    ap (λ (n : ℕ). power m a (i * n) ⊕ s) e
plus_at_lem m i j (s ∷ ss) (suc k) h =
    let e : 2 * k + (j + 2) ≡ 2 * suc k + j = omega arith in
    plus_at_lem m i (j + 2) ss k (omega arith) ∙ ap (λ (n : ℕ). power m a (i * n) ⊕ get_or ss k 0) e

all-zeroes : (sums : List ℕ) → ((k : ℕ) → k < length sums → get_or sums k 0 ≡ 0) → zeroes sums ≡ true
unfolding zeroes
all-zeroes [] z = refl
all-zeroes (s ∷ ss) z = ap (λ (b : Bool). both b (zeroes ss)) (eq-eqb s 0 (z 0 (omega arith))) ∙ all-zeroes ss (λ k h. z (suc k) (omega arith))

-- a list of places with these sums
record Has (m f i t : ℕ) (sums ps : List ℕ) : Type 0 where
  ascending : Ascending ps
  from : (p : ℕ) → Memᴰ p ps → i ≤ p
  below : (p : ℕ) → Memᴰ p ps → p < i + f
  few : length ps ≤ t
  same : (k : ℕ) → k < length sums → sum_over m (2 * k + 1) ps ≡ get_or sums k 0

nothing_has : {m f i t : ℕ} {sums : List ℕ} → T (not (zeroes sums)) → Has m f i t sums [] → ⊥
nothing_has {m} {sums = sums} n s =
    subst (λ (b : Bool). T (not b)) (all-zeroes sums (λ k h. sym (s.same k h) ∙ sum_over-nil m (2 * k + 1))) n

-- without place i
skipped : {m f i t : ℕ} {sums ps : List ℕ} → Has m (suc f) i t sums ps → ((p : ℕ) → Memᴰ p ps → suc i ≤ p) → Has m f (suc i) t sums ps
skipped s later = record { ascending = s.ascending; from = later; below = λ p k. omega (arith, s.below p k); few = s.few; same = s.same }

-- with it
taken : {m f i t : ℕ} {sums qs : List ℕ} → Has m (suc f) i (suc t) sums (i ∷ qs) → Has m f (suc i) t (plus_place m i 1 sums) qs
taken {m} {f} {i} {t} {sums} {qs} s =
    record {
      ascending = s.ascending.1;
      from = λ p k. s.ascending.0 p k;
      below = λ p k. omega (arith, s.below p (Memᴰ.tail k));
      few = omega (arith, s.few);
      same = same;
    }
  where
    same : (k : ℕ) → k < length (plus_place m i 1 sums) → sum_over m (2 * k + 1) qs ≡ get_or (plus_place m i 1 sums) k 0
    same k h =
        let l : k < length sums = omega (arith, plus_long m i 1 sums) in
        let x : ℕ = power m a (i * (2 * k + 1)) in
        sym (zero-sum (sum_over m (2 * k + 1) qs))
        ∙ ap (λ (z : ℕ). z ⊕ sum_over m (2 * k + 1) qs) (sym (sum_self x))
        ∙ sum_assoc x x (sum_over m (2 * k + 1) qs)
        ∙ ap (λ (z : ℕ). x ⊕ z) (sym (sum_over-cons m (2 * k + 1) i qs) ∙ s.same k l)
        ∙ sym (plus_at_lem m i 1 sums k l)

-- no list of places has the sums
none_has : (m f i t : ℕ) (sums ps : List ℕ) → T (no_set m f i t sums) → Has m f i t sums ps → ⊥
none_has m zero i t sums [] n s = nothing_has (subst T (no_set_end m i t sums) n) s
none_has m zero i t sums (p ∷ ps) n s = omega (arith, s.from p (Memᴰ.head refl), s.below p (Memᴰ.head refl))
none_has m (suc f) i zero sums [] n s = nothing_has (subst T (no_set_full m f i sums) n) s
none_has m (suc f) i zero sums (p ∷ ps) n s = omega (arith, s.few)
none_has m (suc f) i (suc t) sums [] n s =
    none_has m f (suc i) (suc t) sums []
    (both_left (no_set m f (suc i) (suc t) sums) (no_set m f (suc i) t (plus_place m i 1 sums)) (subst T (no_set_more m f i t sums) n))
    (skipped s (λ p k. absurd (Memᴰ.not-nil k)))
none_has m (suc f) i (suc t) sums (p ∷ ps) n s =
    pick (none_has m f (suc i) (suc t) sums (p ∷ ps)) (none_has m f (suc i) t (plus_place m i 1 sums) ps) (ℕ_discrete p i)
  where
    without : Bool
    without = no_set m f (suc i) (suc t) sums

    with : Bool
    with = no_set m f (suc i) t (plus_place m i 1 sums)

    halves : T (both without with)
    halves = subst T (no_set_more m f i t sums) n

    later : (p ≡ i → ⊥) → (q : ℕ) → Memᴰ q (p ∷ ps) → suc i ≤ q
    later d q (Memᴰ.head e) = omega (arith, s.from p (Memᴰ.head refl))
    later d q (Memᴰ.tail k) = omega (arith, s.ascending.0 q k, s.from p (Memᴰ.head refl))

    pick : (T without → Has m f (suc i) (suc t) sums (p ∷ ps) → ⊥) → (T with → Has m f (suc i) t (plus_place m i 1 sums) ps → ⊥) → Dec (p ≡ i) → ⊥
    pick skip take (yes e) = take (both_right without with halves) (taken (subst (λ (q : ℕ). Has m (suc f) i (suc t) sums (q ∷ ps)) e s))
    pick skip take (no d) = skip (both_left without with halves) (skipped s (later d))

-- nothing is located where the search finds nothing
pub nothing_located : {m t : ℕ} {sums : List ℕ} → length sums ≡ t → T (no_set m (n_of m) 0 t sums) → (ps : List ℕ) → Located m t sums ps → ⊥
nothing_located {m} {t} {sums} long n ps s =
    none_has m (n_of m) 0 t sums ps n
    record {
      ascending = s.ascending;
      from = λ p k. omega arith;
      below = λ p k. omega (arith, s.below p k);
      few = s.few;
      same = λ k h. s.same k (omega (arith, long));
    }
