-- What the key equation's run keeps: σ and B, times the sums, are short modulo the place reached, and together make x^r.
use mathlib.Core.Path.{◌≡◌, ◌∙◌, refl, sym, ap, ap₂}
use mathlib.Core.Logic.{◌≢◌}
use mathlib.Core.Bool.{Bool, true, false, not}
use Prim.Native.Nat.{ℕ, zero, suc, ◌+◌, ◌-◌, ◌*◌, ◌≤◌, ◌<◌}
use native.Mathlib.Omega.{arith}
use lib.Dec.{T, leb, leb→le, nleb→lt}
use Rattle.algebra.specs.Ring.{Ring, Field}
use Rattle.algebra.specs.Series.{Series, shift, scale, zero_series, one_series, ZeroFrom, EqualBelow}
use Rattle.algebra.specs.Key.{State, start, discrepancy, passed, mended, corrected, step_by, step, run}
use Rattle.algebra.proofs.Ring.{ring, sum_self, one_product, over_product}
use Rattle.algebra.proofs.Series.{series, one-zero, shift_zero, shift-product, scale-product, shift-sum, indeterminate, constant}
use Rattle.algebra.proofs.Series.{shift_is_product, scale_is_product, constants_multiply, constant-one}
use Rattle.algebra.proofs.Series.{monomial, monomial-zero, monomial-suc, monomial_at}
use Rattle.algebra.proofs.Degree
use Rattle.algebra.proofs.Field.{inverse-product}

-- the identities of one turn, over plain variables
module _ (K : Ring) where
  open K use {El, 𝟘, 𝟙, ◌⊕◌, ◌⊗◌}

  infixl 60 ◌⊕◌
  infixl 70 ◌⊗◌
  unmissed : (w d : El) → w ≡ w ⊕ d ⊗ 𝟘
  unmissed w d = simp (ring, K)

  renewed_shape : (w m d i : El) → i ⊗ (w ⊕ d ⊗ m) ≡ i ⊗ w ⊕ i ⊗ d ⊗ m
  renewed_shape w m d i = simp (ring, K)

  mended_shape : (w g m d : El) → w ⊕ d ⊗ m ⊕ d ⊗ (g ⊕ m) ≡ w ⊕ d ⊗ g
  mended_shape w g m d = simp (ring, K)

  mended_pair : (s w b g d : El) → (s ⊕ d ⊗ b) ⊗ g ⊕ b ⊗ (w ⊕ d ⊗ g) ≡ s ⊗ g ⊕ b ⊗ w
  mended_pair s w b g d = simp (ring, K)

  renewed_pair : (s w b g d i : El) → (s ⊕ d ⊗ b) ⊗ (i ⊗ w) ⊕ i ⊗ s ⊗ (w ⊕ d ⊗ g) ≡ i ⊗ d ⊗ (s ⊗ g ⊕ b ⊗ w)
  renewed_pair s w b g d i = simp (ring, K)

  start_makes : (x : El) → 𝟙 ⊗ 𝟙 ⊕ x ⊗ 𝟘 ≡ 𝟙
  start_makes x = simp (ring, K)

  shifted_pair : (s w b g x : El) → s ⊗ (x ⊗ g) ⊕ x ⊗ b ⊗ w ≡ x ⊗ (s ⊗ g ⊕ b ⊗ w)
  shifted_pair s w b g x = simp (ring, K)

module _ (K : Ring) where
  open K use {El, 𝟙, ◌⊗◌}
  open series K use {◌⊕◌ as ◌⊕ˢ◌, ◌⊗◌ as ◌⊗ˢ◌}

  infixl 60 ◌⊕ˢ◌
  infixl 70 ◌⊗◌ ◌⊗ˢ◌
  -- the two pairs, mended and shifted, make the same power of x, or the next
  mended_makes : (d : El) (s w b g : Series K) → (s ⊕ˢ scale K d b) ⊗ˢ g ⊕ˢ b ⊗ˢ (w ⊕ˢ scale K d g) ≡ s ⊗ˢ g ⊕ˢ b ⊗ˢ w
  mended_makes d s w b g = rw (scale_is_product K d b, scale_is_product K d g) (mended_pair (series K) s w b g (constant K d))

  renewed_makes : (d i : El) (s w b g : Series K) → i ⊗ d ≡ 𝟙 → (s ⊕ˢ scale K d b) ⊗ˢ scale K i w ⊕ˢ scale K i s ⊗ˢ (w ⊕ˢ scale K d g) ≡ s ⊗ˢ g ⊕ˢ b ⊗ˢ w
  renewed_makes d i s w b g u =
      rw (
        scale_is_product K d b,
        scale_is_product K d g,
        scale_is_product K i s,
        scale_is_product K i w,
        renewed_pair (series K) s w b g (constant K d) (constant K i),
        constants_multiply K i d,
        u,
        constant-one K,
      )
      (one_product (series K) _)

  shifted_makes : (s w b g : Series K) → s ⊗ˢ shift K g ⊕ˢ shift K b ⊗ˢ w ≡ shift K (s ⊗ˢ g ⊕ˢ b ⊗ˢ w)
  shifted_makes s w b g =
      rw (shift_is_product K g, shift_is_product K b, shift_is_product K (s ⊗ˢ g ⊕ˢ b ⊗ˢ w)) (shifted_pair (series K) s w b g (indeterminate K))

module _ (K : Ring) (S : Series K) where
  open K use {El, 𝟘, 𝟙, ◌⊕◌, ◌⊗◌}
  open series K use {◌⊕◌ as ◌⊕ˢ◌, ◌⊗◌ as ◌⊗ˢ◌}

  infixl 60 ◌⊕◌ ◌⊕ˢ◌
  infixl 70 ◌⊗◌ ◌⊗ˢ◌
  -- one place further, σ S is ω plus what it misses at r
  missed : (r : ℕ) (s w : Series K) → EqualBelow K r (s ⊗ˢ S) w → w r ≡ 𝟘 → EqualBelow K (suc r) (s ⊗ˢ S) (w ⊕ˢ scale K ((s ⊗ˢ S) r) (monomial K r))
  missed r s w e z = Degree.below_extend K r _ _ below here
    where
      below : EqualBelow K r (s ⊗ˢ S) (w ⊕ˢ scale K ((s ⊗ˢ S) r) (monomial K r))
      below n h = e n h ∙ unmissed K (w n) _ ∙ ap (λ x. w n ⊕ (s ⊗ˢ S) r ⊗ x) (sym (Degree.monomial_below K r n h))

      here : (s ⊗ˢ S) r ≡ w r ⊕ (s ⊗ˢ S) r ⊗ monomial K r r
      here = rw (z, monomial_at K r) (simp (ring, K))

  mends : (k : ℕ) (d : El) (s w b g m : Series K) → EqualBelow K k (s ⊗ˢ S) (w ⊕ˢ scale K d m) → EqualBelow K k (b ⊗ˢ S) (g ⊕ˢ m)
      → EqualBelow K k ((s ⊕ˢ scale K d b) ⊗ˢ S) (w ⊕ˢ scale K d g)
  mends k d s w b g m e f n h =
      ap (λ p. p n) (over_product (series K) s (scale K d b) S ∙ ap (◌⊕ˢ◌ (s ⊗ˢ S)) (scale-product K d b S))
      ∙ ap₂ (λ x y. x ⊕ d ⊗ y) (e n h) (f n h)
      ∙ mended_shape K (w n) (g n) (m n) d

  renews : (k : ℕ) (d i : El) (s w m : Series K) → i ⊗ d ≡ 𝟙 → EqualBelow K k (s ⊗ˢ S) (w ⊕ˢ scale K d m) → EqualBelow K k (scale K i s ⊗ˢ S) (scale K i w ⊕ˢ m)
  renews k d i s w m u e n h =
      ap (λ p. p n) (scale-product K i s S)
      ∙ ap (◌⊗◌ i) (e n h)
      ∙ renewed_shape K (w n) (m n) d i
      ∙ ap (λ x. i ⊗ w n ⊕ x ⊗ m n) u
      ∙ ap (◌⊕◌ (i ⊗ w n)) (one_product K (m n))

  shifts : (r : ℕ) (b g : Series K) → EqualBelow K (suc r) (b ⊗ˢ S) (g ⊕ˢ monomial K r)
      → EqualBelow K (suc (suc r)) (shift K b ⊗ˢ S) (shift K g ⊕ˢ monomial K (suc r))
  shifts r b g e =
      rw (shift-product K b S, monomial-suc K r, ← shift-sum K g (monomial K r)) (Degree.below_shift K (suc r) (b ⊗ˢ S) (g ⊕ˢ monomial K r) e)

module _ (F : Field) (S : Series F.ring) where
  open F use {ring as K, inverse, zero?}
  open K use {El, 𝟘, 𝟙, ◌⊕◌, ◌⊗◌}
  open series K use {◌⊕◌ as ◌⊕ˢ◌, ◌⊗◌ as ◌⊗ˢ◌}

  infixl 60 ◌⊕◌ ◌⊕ˢ◌
  infixl 70 ◌⊗◌ ◌⊗ˢ◌
  -- σ S is ω below k, B S is γ + x^r through place r, and the two pairs make x^r; L and M bound the degrees
  pub record Linked (k r : ℕ) (s : State F) : Type 0 where
    pub ω : Series K
    pub γ : Series K
    pub M : ℕ
    pub lengths : s.L + M ≡ suc r
    pub σ_below : EqualBelow K k (s.σ ⊗ˢ S) ω
    pub B_below : EqualBelow K (suc r) (s.B ⊗ˢ S) (γ ⊕ˢ monomial K r)
    pub σ_from : ZeroFrom K (suc s.L) s.σ
    pub ω_from : ZeroFrom K s.L ω
    pub B_from : ZeroFrom K (suc M) s.B
    pub γ_from : ZeroFrom K M γ
    pub σ_one : s.σ zero ≡ 𝟙
    pub makes : s.σ ⊗ˢ γ ⊕ˢ s.B ⊗ˢ ω ≡ monomial K r

  -- the invariant after r steps
  pub record Kept (r : ℕ) (s : State F) : Type 0 where
    pub linked : Linked r r s
    pub B_zero : s.B zero ≡ 𝟘
    pub short : s.L ≤ r

  -- B moves on
  advance : (r : ℕ) (s : State F) → Linked (suc r) r s → Kept (suc r) (passed F s)
  advance r s l = record { linked = moved; B_zero = shift_zero K s.B; short = omega arith }
    where
      moved : Linked (suc r) (suc r) (passed F s)
      moved =
          record {
            ω = l.ω;
            γ = shift K l.γ;
            M = suc l.M;
            lengths = omega arith;
            σ_below = l.σ_below;
            B_below = shifts K S r s.B l.γ l.B_below;
            σ_from = l.σ_from;
            ω_from = l.ω_from;
            B_from = Degree.zero_from_shift K (suc l.M) s.B l.B_from;
            γ_from = Degree.zero_from_shift K l.M l.γ l.γ_from;
            σ_one = l.σ_one;
            makes = rw (monomial-suc K r) (shifted_makes K s.σ l.ω s.B l.γ ∙ ap (shift K) l.makes);
          }

  module _ (r : ℕ) (s : State F) (kept : Kept r s) where
    open kept.linked use {ω, γ, M, lengths, σ_below, B_below, σ_from, ω_from, B_from, γ_from, σ_one, makes}
    open kept use {B_zero, short}

    -- by how much σ S misses at r
    abbrev d : El
    d = discrepancy F S r s

    misses : EqualBelow K (suc r) (s.σ ⊗ˢ S) (ω ⊕ˢ scale K d (monomial K r))
    misses = missed K S r s.σ ω σ_below (ω_from r short)

    -- σ mended, and its ω, with any bound that holds for both parts
    mended_below : EqualBelow K (suc r) (mended F d s ⊗ˢ S) (ω ⊕ˢ scale K d γ)
    mended_below = mends K S (suc r) d s.σ ω s.B γ (monomial K r) misses B_below

    mended_one : mended F d s zero ≡ 𝟙
    mended_one = ap₂ (λ x y. x ⊕ d ⊗ y) σ_one B_zero ∙ sym (unmissed K 𝟙 d)

    mended_from : (k : ℕ) → s.L ≤ k → M ≤ k → ZeroFrom K (suc k) (mended F d s)
    mended_from k l m =
        Degree.zero_from_sum K (suc k) s.σ (scale K d s.B)
        (Degree.zero_from_weaken K s.σ (suc s.L) (suc k) (omega arith) σ_from)
        (Degree.zero_from_scale K (suc k) d s.B (Degree.zero_from_weaken K s.B (suc M) (suc k) (omega arith) B_from))

    mended_ω_from : (k : ℕ) → s.L ≤ k → M ≤ k → ZeroFrom K k (ω ⊕ˢ scale K d γ)
    mended_ω_from k l m =
        Degree.zero_from_sum K k ω (scale K d γ)
        (Degree.zero_from_weaken K ω s.L k l ω_from)
        (Degree.zero_from_scale K k d γ (Degree.zero_from_weaken K γ M k m γ_from))

    nothing_missed : d ≡ 𝟘 → Linked (suc r) r s
    nothing_missed h =
        record {
          ω = ω;
          γ = γ;
          M = M;
          lengths = lengths;
          σ_below = Degree.below_extend K r (s.σ ⊗ˢ S) ω σ_below (h ∙ sym (ω_from r short));
          B_below = B_below;
          σ_from = σ_from;
          ω_from = ω_from;
          B_from = B_from;
          γ_from = γ_from;
          σ_one = σ_one;
          makes = makes;
        }

    -- L stays
    stays : r < 2 * s.L → Linked (suc r) r (record { σ = mended F d s; B = s.B; L = s.L })
    stays h =
        record {
          ω = ω ⊕ˢ scale K d γ;
          γ = γ;
          M = M;
          lengths = lengths;
          σ_below = mended_below;
          B_below = B_below;
          σ_from = mended_from s.L (omega arith) (omega arith);
          ω_from = mended_ω_from s.L (omega arith) (omega arith);
          B_from = B_from;
          γ_from = γ_from;
          σ_one = mended_one;
          makes = mended_makes K d s.σ ω s.B γ ∙ makes;
        }

    -- L grows, and the old pair, divided by d, becomes the second
    grows : d ≢ 𝟘 → 2 * s.L ≤ r → Linked (suc r) r (record { σ = mended F d s; B = scale K (inverse d) s.σ; L = suc r - s.L })
    grows n h =
        record {
          ω = ω ⊕ˢ scale K d γ;
          γ = scale K (inverse d) ω;
          M = s.L;
          lengths = omega arith;
          σ_below = mended_below;
          B_below = renews K S (suc r) d (inverse d) s.σ ω (monomial K r) (inverse-product F d n) misses;
          σ_from = mended_from (suc r - s.L) (omega arith) (omega arith);
          ω_from = mended_ω_from (suc r - s.L) (omega arith) (omega arith);
          B_from = Degree.zero_from_scale K (suc s.L) (inverse d) s.σ σ_from;
          γ_from = Degree.zero_from_scale K s.L (inverse d) ω ω_from;
          σ_one = mended_one;
          makes = renewed_makes K d (inverse d) s.σ ω s.B γ (inverse-product F d n) ∙ makes;
        }

    corrected_keeps : (b : Bool) → (T b → 2 * s.L ≤ r) → (T (not b) → r < 2 * s.L) → d ≢ 𝟘 → Kept (suc r) (corrected F b d r s)
    corrected_keeps true t f n = advance r _ (grows n (t tt))
    corrected_keeps false t f n = advance r _ (stays (f tt))

    step_by_keeps : (e : Dec (d ≡ 𝟘)) → Kept (suc r) (step_by F d e r s)
    step_by_keeps (yes h) = advance r s (nothing_missed h)
    step_by_keeps (no h) = corrected_keeps (leb (2 * s.L) r) (leb→le (2 * s.L) r) (nleb→lt (2 * s.L) r) h

  pub step_is : (r : ℕ) (s : State F) → step F S r s ≡ step_by F (discrepancy F S r s) (zero? (discrepancy F S r s)) r s
  unfolding step
  step_is r s = refl

  pub step_keeps : (r : ℕ) (s : State F) → Kept r s → Kept (suc r) (step F S r s)
  step_keeps r s k = rw (step_is r s) (step_by_keeps r s k (zero? (discrepancy F S r s)))

  start_below : EqualBelow K (suc zero) (shift K (one_series K) ⊗ˢ S) (one_series K ⊕ˢ monomial K zero)
  start_below zero h = rw (shift-product K (one_series K) S, shift_zero K (one_series K ⊗ˢ S), monomial-zero K) (sym (sum_self K _))
  start_below (suc n) h = absurd (omega arith)

  start_keeps : Kept zero (start F)
  start_keeps = record { linked = linked; B_zero = shift_zero K (one_series K); short = omega arith }
    where
      linked : Linked zero zero (start F)
      linked =
          record {
            ω = zero_series K;
            γ = one_series K;
            M = suc zero;
            lengths = omega arith;
            σ_below = λ n h. absurd (omega arith);
            B_below = start_below;
            σ_from = Degree.one_from K;
            ω_from = λ n h. refl;
            B_from = Degree.zero_from_shift K (suc zero) (one_series K) (Degree.one_from K);
            γ_from = Degree.one_from K;
            σ_one = one-zero K;
            makes = rw (monomial-zero K) (start_makes (series K) (shift K (one_series K)));
          }

  pub run-zero : run F S zero ≡ start F
  unfolding run
  run-zero = refl

  pub run-suc : (r : ℕ) → run F S (suc r) ≡ step F S r (run F S r)
  unfolding run
  run-suc r = refl

  pub run_keeps : (r : ℕ) → Kept r (run F S r)
  run_keeps zero = rw run-zero start_keeps
  run_keeps (suc r) = rw (run-suc r) (step_keeps r (run F S r) (run_keeps r))

  pub run_degree : (r : ℕ) → ZeroFrom K (suc (run F S r).L) (run F S r).σ
  run_degree r = (run_keeps r).linked.σ_from

  pub run_length : (r : ℕ) → (run F S r).L ≤ r
  run_length r = (run_keeps r).short
