-- One step of the run in numbers is one step of the abstract run.
use mathlib.Core.Path.{◌≡◌, ◌∙◌, refl, sym, ap, ap₂, subst}
use mathlib.Core.Bool.{Bool, true, false}
use mathlib.Core.List.{List, ◌++◌}
use Prim.Native.Nat.{ℕ, zero, suc, ◌+◌, ◌-◌, ◌*◌, ◌^◌, ◌≤◌, ◌<◌}
use native.Mathlib.Nat.{mod-eq_of_lt, add-zero, add-suc}
use native.Mathlib.Numerals.{add-one}
use native.Mathlib.Decide.{dec_lt}
use native.Mathlib.Omega.{arith}
use borrow.Author.Tests.{le-leb, lt-leb}
use lib.Dec.{leb}
use lib.ListN.{length, get_or, set, replicate, length-set}
use lib.Seq.{get_or-set_same, get_or-set_other}
use Rattle.bits.proofs.BitLaws.{zeros_at}
use Rattle.algebra.specs.Ring.{Ring, Field}
use Rattle.algebra.specs.Series.{Series, tail, shift, one_series, product_series, ZeroFrom}
use Rattle.algebra.specs.Key.{State, start, discrepancy, passed, mended, corrected, step_by, run}
use Rattle.algebra.proofs.Ring.{ring}
use Rattle.algebra.proofs.Series.{product_at_zero, product_at_suc, one-zero, one-suc, shift_zero, shift_suc}
use Rattle.algebra.proofs.Degree.{zero_from_weaken}
use Rattle.algebra.proofs.Run.{run-zero, run-suc, step_is, run_degree, run_length}
use Rattle.field.specs.Sum as Sum
use Rattle.field.specs.Product.{IsField, ◌⊗⟨◌⟩◌}
use Rattle.field.specs.Power.{inverse}
use Rattle.field.proofs.ProductLaws.{product-zero, product_assoc, one_product}
use Rattle.field.proofs.PowerLaws.{one_bound, inverse_bound}
use Rattle.field.proofs.Field.{field, ring_of, el_path}
use Rattle.entries.specs.Entries.{Filled, entry}
use Rattle.key.specs.Work.{plus_moved, crossed}
use Rattle.key.specs.Held.{series_of, state_at, Holds, Held, Stepped, Solved}
use Rattle.key.proofs.MendLaws.{space_long}
use Rattle.key.proofs.MendLaws.{crossed-zero, crossed-suc}

-- the product of two series at a place, added up from the first coefficient on

module _ (K : Ring) where
  open K use {El, 𝟘, ◌⊕◌, ◌⊗◌}

  infixl 60 ◌⊕◌
  infixl 70 ◌⊗◌
  partial : Series K → Series K → ℕ → ℕ → El
  partial p q r zero = 𝟘
  partial p q r (suc c) = partial p q r c ⊕ p c ⊗ q (r - c)

  partial_zero : (p q : Series K) (r : ℕ) → partial p q r zero ≡ 𝟘
  unfolding partial
  partial_zero p q r = refl

  partial_suc : (p q : Series K) (r c : ℕ) → partial p q r (suc c) ≡ partial p q r c ⊕ p c ⊗ q (r - c)
  unfolding partial
  partial_suc p q r c = refl

  start_shape : (x : El) → 𝟘 ⊕ x ≡ x ⊕ 𝟘
  start_shape x = simp (ring, K)

  last_shape : (x y z : El) → x ⊕ y ⊕ z ≡ x ⊕ (y ⊕ z)
  last_shape x y z = simp (ring, K)

  zero_shape : (x y : El) → x ⊕ 𝟘 ⊗ y ≡ x
  zero_shape x y = simp (ring, K)

  sum_first : (x : El) → 𝟘 ⊕ x ≡ x
  sum_first x = simp (ring, K)

  partial_first : (p q : Series K) (r c : ℕ) → partial p q (suc r) (suc c) ≡ p zero ⊗ q (suc r) ⊕ partial (tail K p) q r c
  partial_first p q r zero =
      partial_suc p q (suc r) zero
      ∙ ap₂ (λ x n. x ⊕ p zero ⊗ q n) (partial_zero p q (suc r)) whole
      ∙ start_shape (p zero ⊗ q (suc r))
      ∙ ap (λ x. p zero ⊗ q (suc r) ⊕ x) (sym (partial_zero (tail K p) q r))
    where
      whole : suc r - zero ≡ suc r
      whole = omega arith
  partial_first p q r (suc c) =
      partial_suc p q (suc r) (suc c)
      ∙ ap₂ (λ x n. x ⊕ p (suc c) ⊗ q n) (partial_first p q r c) less
      ∙ last_shape (p zero ⊗ q (suc r)) (partial (tail K p) q r c) (p (suc c) ⊗ q (r - c))
      ∙ ap (λ x. p zero ⊗ q (suc r) ⊕ x) (sym (partial_suc (tail K p) q r c))
    where
      less : suc r - suc c ≡ r - c
      less = omega arith

  partial_product : (r : ℕ) (p q : Series K) → partial p q r (suc r) ≡ product_series K p q r
  partial_product zero p q =
      partial_suc p q zero zero ∙ ap (λ x. x ⊕ p zero ⊗ q zero) (partial_zero p q zero) ∙ sum_first (p zero ⊗ q zero) ∙ sym (product_at_zero K p q)
  partial_product (suc r) p q =
      partial_first p q r (suc r) ∙ ap (λ x. p zero ⊗ q (suc r) ⊕ x) (partial_product r (tail K p) q) ∙ sym (product_at_suc K p q r)

  -- past the degree nothing is added
  partial_past : (p q : Series K) (r c : ℕ) → ZeroFrom K c p → (d : ℕ) → partial p q r (c + d) ≡ partial p q r c
  partial_past p q r c z zero = ap (partial p q r) (add-zero c)
  partial_past p q r c z (suc d) =
      ap (partial p q r) (add-suc c d)
      ∙ partial_suc p q r (c + d)
      ∙ ap₂ (λ x y. x ⊕ y ⊗ q (r - (c + d))) (partial_past p q r c z d) (z (c + d) (omega arith))
      ∙ zero_shape (partial p q r c) (q (r - (c + d)))

pub series_at : {m : ℕ} (L : IsField m) (xs : List ℕ) (i : ℕ) → get_or xs i 0 < 2 ^ m → (series_of L xs i).0 ≡ get_or xs i 0
unfolding series_of
series_at L xs i h = mod-eq_of_lt h

module _ {m : ℕ} (L : IsField m) where
  abbrev F : Field
  F = field m L

  abbrev K : Ring
  K = ring_of m L

  -- a sum of products of numbers is the sum in the field
  crossed_number : (p q : Series K) (sigma all : List ℕ) (r c : ℕ) → ((i : ℕ) → i < c → get_or sigma i 0 ≡ (p i).0)
      → ((i : ℕ) → i ≤ r → get_or all i 0 ≡ (q i).0)
      → crossed m sigma all r c ≡ (partial K p q r c).0
  crossed_number p q sigma all r zero e f = crossed-zero m sigma all r ∙ ap (λ x. x.0) (sym (partial_zero K p q r))
  crossed_number p q sigma all r (suc c) e f =
      crossed-suc m sigma all r c
      ∙ ap₂ (λ x y. Sum.◌⊕◌ x y) (crossed_number p q sigma all r c (λ i h. e i (omega arith)) f)
      (ap₂ (λ x y. x ⊗⟨ m ⟩ y) (e c (omega arith)) (f (r - c) (omega arith)))
      ∙ ap (λ x. x.0) (sym (partial_suc K p q r c))

  module _ (S : Series K) (r : ℕ) where
    abbrev s : State F
    s = run F S r

    abbrev D : K.El
    D = discrepancy F S r s

    -- the next state, by cases
    by_passed : (e : Dec (D ≡ K.𝟘)) → D ≡ K.𝟘 → step_by F D e r s ≡ passed F s
    by_passed (yes h) z = refl
    by_passed (no h) z = absurd (h z)

    by_corrected : (b : Bool) (e : Dec (D ≡ K.𝟘)) → (D ≡ K.𝟘 → ⊥) → leb (2 * s.L) r ≡ b → step_by F D e r s ≡ corrected F b D r s
    by_corrected b (yes h) n l = absurd (n h)
    by_corrected b (no h) n l = ap (λ x. corrected F x D r s) l

    next_passed : D ≡ K.𝟘 → run F S (suc r) ≡ passed F s
    next_passed z = run-suc F S r ∙ step_is F S r s ∙ by_passed (F.zero? D) z

    next_corrected : (b : Bool) → (D ≡ K.𝟘 → ⊥) → leb (2 * s.L) r ≡ b → run F S (suc r) ≡ corrected F b D r s
    next_corrected b n l = run-suc F S r ∙ step_is F S r s ∙ by_corrected b (F.zero? D) n l

    next_degree : (x : State F) → run F S (suc r) ≡ x → ZeroFrom K (suc x.L) x.σ
    next_degree x e = subst (λ (z : State F). ZeroFrom K (suc z.L) z.σ) e (run_degree F S (suc r))

module _ {m t l gap q : ℕ} {L : IsField m} {s : State (field m L)} {sigma b : List ℕ} (w : Holds m t L s l gap q sigma b) where
  abbrev E : Field
  E = field m L

  abbrev R : Ring
  R = ring_of m L

  -- an array holds a series that moves one place up
  holds_shifted : (i : ℕ) → i < t + 2 → q ⊗⟨ m ⟩ get_or (replicate (gap + 1) 0 ++ b) i 0 ≡ (shift R s.B i).0
  holds_shifted zero h =
      ap (λ n. q ⊗⟨ m ⟩ get_or (replicate n 0 ++ b) 0 0) (add-one gap) ∙ product-zero m q ∙ ap (λ x. x.0) (sym (shift_zero R s.B))
  holds_shifted (suc i) h =
      ap (λ n. q ⊗⟨ m ⟩ get_or (replicate n 0 ++ b) (suc i) 0) (add-one gap) ∙ w.b_holds i (omega arith) ∙ ap (λ x. x.0) (sym (shift_suc R s.B i))

  holds_passed : Holds m t L (passed E s) l (gap + 1) q sigma b
  holds_passed =
      record {
        length_is = w.length_is;
        sigma_long = w.sigma_long;
        b_long = w.b_long;
        q_below = w.q_below;
        b_below = w.b_below;
        sigma_holds = w.sigma_holds;
        b_holds = holds_shifted;
      }

  module _ {d factor count : ℕ} {after : List ℕ} (D : R.El) (e : d ≡ D.0) (f : factor ≡ d ⊗⟨ m ⟩ q)
      (fill : Filled (plus_moved m factor gap b sigma) count sigma after)
      (old : ZeroFrom R count s.σ) (new : ZeroFrom R count (mended E D s)) where
    mended_number : (i : ℕ) → i < t + 2 → get_or after i 0 ≡ (mended E D s i).0
    mended_number i h = pick (dec_lt i count)
      where
        pick : Dec (i < count) → get_or after i 0 ≡ (mended E D s i).0
        pick (yes k) =
            fill.holds i k
            ∙ ap₂ (λ x y. Sum.◌⊕◌ x y) (w.sigma_holds i h)
            (ap (λ z. z ⊗⟨ m ⟩ get_or (replicate gap 0 ++ b) i 0) (f ∙ ap (λ z. z ⊗⟨ m ⟩ q) e)
            ∙ product_assoc L D.0 q (get_or (replicate gap 0 ++ b) i 0)
            ∙ ap (λ z. D.0 ⊗⟨ m ⟩ z) (w.b_holds i h))
        pick (no n) = fill.rest i (omega arith) ∙ w.sigma_holds i h ∙ ap (λ x. x.0) (old i (omega arith) ∙ sym (new i (omega arith)))

    holds_kept : (r : ℕ) → Holds m t L (corrected E false D r s) l (gap + 1) q after b
    holds_kept r =
        record {
          length_is = w.length_is;
          sigma_long = omega (arith, fill.same, w.sigma_long);
          b_long = w.b_long;
          q_below = w.q_below;
          b_below = w.b_below;
          sigma_holds = mended_number;
          b_holds = holds_shifted;
        }

    holds_renewed : (r : ℕ) {next inv : ℕ} {copy : List ℕ} → next ≡ suc r - s.L → inv ≡ inverse m d
        → Filled (entry sigma) (t + 2) b copy → Holds m t L (corrected E true D r s) next 1 inv after copy
    holds_renewed r {next} {inv} {copy} n v c =
        record {
          length_is = n;
          sigma_long = omega (arith, fill.same, w.sigma_long);
          b_long = omega (arith, c.same, w.b_long);
          q_below = rw v (inverse_bound L d);
          b_below = λ i h. rw (c.holds i h, w.sigma_holds i h) (s.σ i).1;
          sigma_holds = mended_number;
          b_holds = moved;
        }
      where
        moved : (i : ℕ) → i < t + 2 → inv ⊗⟨ m ⟩ get_or (replicate 1 0 ++ copy) i 0 ≡ (shift R (λ n. R.◌⊗◌ (E.inverse D) (s.σ n)) i).0
        moved zero h = product-zero m inv ∙ ap (λ x. x.0) (sym (shift_zero R _))
        moved (suc i) h =
            ap₂ (λ x y. x ⊗⟨ m ⟩ y) (v ∙ ap (inverse m) e) (c.holds i (omega arith) ∙ w.sigma_holds i (omega arith))
            ∙ ap (λ x. x.0) (sym (shift_suc R (λ n. R.◌⊗◌ (E.inverse D) (s.σ n)) i))

-- one step, from what the arrays hold after r steps

pub held_within : {m t r l gap q : ℕ} {all sigma b : List ℕ} → Held m t all r l gap q sigma b → l ≤ r
held_within {m} {r = r} {all = all} h = rw h.holds.length_is (run_length (field m h.listed) (series_of h.listed all) r)

pub held_below : {m t r l gap q : ℕ} {all sigma b : List ℕ} → Held m t all r l gap q sigma b → (i : ℕ) → i ≤ l → get_or sigma i 0 < 2 ^ m
held_below {r = r} {all = all} h i k = rw (h.holds.sigma_holds i (omega (arith, h.short))) ((state_at h.listed all r).σ i).1

module _ {m t r l gap q d : ℕ} {all sigma b : List ℕ} (h : Held m t all r l gap q sigma b) (below : r < 2 * t) (is : d ≡ crossed m sigma all r (l + 1)) where
  abbrev G : Field
  G = field m h.listed

  abbrev P : Ring
  P = ring_of m h.listed

  abbrev S : Series P
  S = series_of h.listed all

  abbrev now : State G
  now = state_at h.listed all r

  abbrev miss : P.El
  miss = discrepancy G S r now

  degree_here : ZeroFrom P (suc l) now.σ
  degree_here = rw h.holds.length_is (run_degree G S r)

  missed_is : d ≡ miss.0
  missed_is =
      is
      ∙ ap (crossed m sigma all r) (add-one l)
      ∙ crossed_number h.listed now.σ S sigma all r (suc l) (λ i k. h.holds.sigma_holds i (omega (arith, h.short)))
      (λ i k. sym (series_at h.listed all i (h.sums_below i (omega arith))))
      ∙ ap (λ x. x.0) (sym (partial_past P now.σ S r (suc l) degree_here (r - l)) ∙ ap (partial P now.σ S r) end ∙ partial_product P r now.σ S)
    where
      end : suc l + (r - l) ≡ suc r
      end = omega (arith, held_within h)

  pub missed_below : d < 2 ^ m
  missed_below = rw missed_is miss.1

  missed_none : d ≡ 0 → miss ≡ P.𝟘
  missed_none z = el_path (sym missed_is ∙ z)

  missed_some : (d ≡ 0 → ⊥) → miss ≡ P.𝟘 → ⊥
  missed_some n z = n (missed_is ∙ ap (λ x. x.0) z)

  stepped_as : {l' gap' q' : ℕ} {sigma' b' : List ℕ} (x : State G) → run G S (suc r) ≡ x
      → Holds m t h.listed x l' gap' q' sigma' b' → gap' ≤ r + 1 + 1 → Stepped m t all (r + 1) l' gap' q' sigma' b'
  stepped_as {l'} {gap'} {q'} {sigma'} {b'} x e w g =
      record {
        listed = h.listed;
        length_is = w.length_is ∙ ap (λ z. z.L) (sym path);
        held =
            λ k.
            record {
              listed = h.listed;
              sums_below = h.sums_below;
              short = k;
              gap_within = g;
              holds = subst (λ (z : State G). Holds m t h.listed z l' gap' q' sigma' b') (sym path) w;
            };
      }
    where
      path : run G S (r + 1) ≡ x
      path = ap (run G S) (add-one r) ∙ e

  pub step_passed : d ≡ 0 → Stepped m t all (r + 1) l (gap + 1) q sigma b
  step_passed z = stepped_as (passed G now) (next_passed h.listed S r (missed_none z)) (holds_passed h.holds) (omega (arith, h.gap_within))

  module _ (n : d ≡ 0 → ⊥) where
    kept_is : r < 2 * l → run G S (suc r) ≡ corrected G false miss r now
    kept_is k = next_corrected h.listed S r false (missed_some n) (lt-leb (2 * now.L) r (rw h.holds.length_is at k))

    renewed_is : 2 * l ≤ r → run G S (suc r) ≡ corrected G true miss r now
    renewed_is k = next_corrected h.listed S r true (missed_some n) (le-leb (2 * now.L) r (rw h.holds.length_is at k))

    next_length : r + 1 - l ≡ suc r - now.L
    next_length = ap₂ (λ x y. x - y) (add-one r) h.holds.length_is

    pub step_kept : {factor : ℕ} {after : List ℕ} → r < 2 * l → factor ≡ d ⊗⟨ m ⟩ q
        → Filled (plus_moved m factor gap b sigma) (l + 1) sigma after → Stepped m t all (r + 1) l (gap + 1) q after b
    step_kept k f fill =
        stepped_as (corrected G false miss r now) (kept_is k)
        (holds_kept h.holds miss missed_is f (rw (add-one l) at fill) degree_here
        (rw h.holds.length_is (next_degree h.listed S r (corrected G false miss r now) (kept_is k))) r)
        (omega (arith, h.gap_within))

    pub step_over : 2 * l ≤ r → t < r + 1 - l → Stepped m t all (r + 1) (r + 1 - l) gap q sigma b
    step_over k o =
        record {
          listed = h.listed;
          length_is = next_length ∙ ap (λ z. z.L) (sym (ap (run G S) (add-one r) ∙ renewed_is k));
          held = λ z. absurd (omega arith);
        }

    pub step_renewed : {factor inv : ℕ} {after copy : List ℕ} → 2 * l ≤ r → factor ≡ d ⊗⟨ m ⟩ q
        → Filled (plus_moved m factor gap b sigma) (r + 1 - l + 1) sigma after → Filled (entry sigma) (t + 2) b copy
        → inv ≡ inverse m d → Stepped m t all (r + 1) (r + 1 - l) 1 inv after copy
    step_renewed k f fill c v =
        stepped_as (corrected G true miss r now) (renewed_is k)
        (holds_renewed h.holds miss missed_is f (rw (add-one (r + 1 - l)) at fill)
        (zero_from_weaken P now.σ (suc l) (suc (r + 1 - l)) (omega arith) degree_here)
        (rw next_length (next_degree h.listed S r (corrected G true miss r now) (renewed_is k))) r next_length v c)
        (omega arith)

-- the start, and the end

start_place : (xs : List ℕ) (i : ℕ) → xs ≡ replicate 257 0 → get_or (set xs 0 1) (suc i) 0 ≡ 0
start_place xs i e = get_or-set_other xs 0 (suc i) 1 0 (λ z. omega arith) ∙ ap (λ (l : List ℕ). get_or l (suc i) 0) e ∙ zeros_at 257 (suc i)

start_first : (xs : List ℕ) → xs ≡ replicate 257 0 → get_or (set xs 0 1) 0 0 ≡ 1
start_first xs e = get_or-set_same xs 0 1 0 (omega (arith, space_long e))

start_is : {m : ℕ} (L : IsField m) (xs : List ℕ) → xs ≡ replicate 257 0 → (i : ℕ) → get_or (set xs 0 1) i 0 ≡ (one_series (ring_of m L) i).0
start_is {m} L xs e zero = start_first xs e ∙ ap (λ x. x.0) (sym (one-zero (ring_of m L)))
start_is {m} L xs e (suc i) = start_place xs i e ∙ ap (λ x. x.0) (sym (one-suc (ring_of m L) i))

start_moved : {m : ℕ} (L : IsField m) (xs : List ℕ) → xs ≡ replicate 257 0 → (i : ℕ)
    → 1 ⊗⟨ m ⟩ get_or (replicate 1 0 ++ set xs 0 1) i 0 ≡ (shift (ring_of m L) (one_series (ring_of m L)) i).0
start_moved {m} L xs e zero = product-zero m 1 ∙ ap (λ x. x.0) (sym (shift_zero (ring_of m L) (one_series (ring_of m L))))
start_moved {m} L xs e (suc i) =
    ap (λ z. 1 ⊗⟨ m ⟩ z) (start_is L xs e i)
    ∙ one_product L (one_series (ring_of m L) i).0 (one_series (ring_of m L) i).1
    ∙ ap (λ x. x.0) (sym (shift_suc (ring_of m L) (one_series (ring_of m L)) i))

start_long : (xs : List ℕ) → xs ≡ replicate 257 0 → length (set xs 0 1) ≡ 257
start_long xs e = length-set xs 0 1 ∙ space_long e

pub held_start : {m t : ℕ} {all sigma b : List ℕ} → IsField m → t ≤ 255 → ((i : ℕ) → i < 2 * t → get_or all i 0 < 2 ^ m)
    → sigma ≡ replicate 257 0 → b ≡ replicate 257 0
    → Held m t all 0 0 1 1 (set sigma 0 1) (set b 0 1)
held_start {m} {t} {all} {sigma} {b} L h below e f =
    record {
      listed = L;
      sums_below = below;
      short = omega arith;
      gap_within = omega arith;
      holds = subst (λ (z : State (field m L)). Holds m t L z 0 1 1 (set sigma 0 1) (set b 0 1)) (sym (run-zero (field m L) (series_of L all))) begin;
    }
  where
    begin : Holds m t L (start (field m L)) 0 1 1 (set sigma 0 1) (set b 0 1)
    begin =
        record {
          length_is = refl;
          sigma_long = omega (arith, start_long sigma e);
          b_long = omega (arith, start_long b f);
          q_below = one_bound L;
          b_below = λ i k. rw (start_is L b f i) (one_series (ring_of m L) i).1;
          sigma_holds = λ i k. start_is L sigma e i;
          b_holds = λ i k. start_moved L b f i;
        }

pub solved_over : {m t r l gap q : ℕ} {all sigma b : List ℕ} → Stepped m t all (r + 1) l gap q sigma b → r < 2 * t → t < l → Solved m t all l sigma
solved_over {r = r} s h o =
    record { listed = s.listed; short = λ k. absurd (omega arith); passes = λ k. (r + 1, omega arith, rw s.length_is at o) }

pub solved_done : {m t r l gap q : ℕ} {all sigma b : List ℕ} → Held m t all r l gap q sigma b → r ≡ 2 * t → Solved m t all l sigma
solved_done {m} {t} {r} {l} {all = all} {sigma} s e =
    record {
      listed = s.listed;
      short =
          λ k. (
            s.holds.length_is ∙ ap (λ n. (state_at s.listed all n).L) e,
            λ i b. s.holds.sigma_holds i b ∙ ap (λ n. ((state_at s.listed all n).σ i).0) e,
          );
      passes = λ k. absurd (omega (arith, s.short));
    }
