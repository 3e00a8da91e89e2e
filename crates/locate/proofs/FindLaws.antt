-- If a set of places has these sums, the trial finds it; and there is at most one such set.
use mathlib.Core.Path.{◌≡◌, ◌∙◌, refl, sym, ap, ap₂}
use mathlib.Core.Bool.{Bool, true, false}
use mathlib.Core.List.Memᴰ
use mathlib.Core.List.{List, [], ◌∷◌, map, Memᴰ}
use Prim.Native.Nat.{ℕ, zero, suc, ◌+◌, ◌-◌, ◌*◌, ◌/◌, ◌%◌, ◌≤◌, ◌<◌}
use native.Mathlib.Nat.{add-zero}
use native.Mathlib.Numerals.{add-one}
use native.Mathlib.Decide.{ℕ_discrete}
use native.Mathlib.Omega.{arith}
use lib.ListN.{length, get_or, take}
use lib.Seq.{get_or-take, length-take-le}
use Rattle.algebra.specs.Ring.{Ring, Field}
use Rattle.algebra.specs.Series.{Series, tail, EqualBelow, Distinct, evaluate}
use Rattle.algebra.specs.Series as Series
use Rattle.algebra.specs.Key.{run, power_sums}
use Rattle.algebra.proofs.Evaluate.{evaluate-zero, evaluate-suc, evaluate_past}
use Rattle.algebra.proofs.Field.{inverse_unique}
use Rattle.algebra.proofs.Run.{run_degree}
use Rattle.algebra.proofs.Finds.{Finds, NonZero, finds, short_before, same_set}
use Rattle.bits.specs.Differences.{Ascending}
use Rattle.bits.proofs.Places.{member_at, ascending_same}
use Rattle.field.specs.Sum as Sum
use Rattle.field.specs.Product.{IsField, ◌⊗⟨◌⟩◌}
use Rattle.field.specs.Power.{a, n_of, power}
use Rattle.field.proofs.PowerLaws.{power_bound, power-mul, power-add}
use Rattle.field.proofs.Order.{power_nonzero, power_injective, a_order}
use Rattle.field.proofs.Field.{field, ring_of, el_path, power_number}
use Rattle.codes.specs.Sums.{sum_over}
use Rattle.codes.proofs.SumLaws.{sum_over-nil, sum_over-cons, sum_over_square}
use Rattle.locate.specs.Located.{Located}
use Rattle.entries.specs.Entries.{AllZero}
use Rattle.key.specs.Work.{Squared}
use Rattle.key.specs.Held.{series_of, SolvedFor}
use Rattle.key.proofs.RunLaws.{series_at}
use Rattle.locate.specs.Work.{value_from, tried, zeros, Tried, Agrees}
use Rattle.locate.proofs.TrialLaws.{value_zero, value_suc, zeros_member, member_zeros, zeros_ascending}

-- two rows agree if they agree at the even places and each odd place 2i + 1 holds the square of place i

halves : (m : ℕ) (f g : ℕ → ℕ) (t : ℕ) → ((i : ℕ) → i < t → f (2 * i) ≡ g (2 * i))
    → ((i : ℕ) → i < t → f (2 * i + 1) ≡ f i ⊗⟨ m ⟩ f i) → ((i : ℕ) → i < t → g (2 * i + 1) ≡ g i ⊗⟨ m ⟩ g i)
    → (n j : ℕ) → j < n → j < 2 * t → f j ≡ g j
halves m f g t e p q zero j h k = absurd (omega arith)
halves m f g t e p q (suc n) j h k = pick (λ i l b. halves m f g t e p q n i l b) (ℕ_discrete (j % 2) 0)
  where
    pick : ((i : ℕ) → i < n → i < 2 * t → f i ≡ g i) → Dec (j % 2 ≡ 0) → f j ≡ g j
    pick ih (yes z) =
        let d : j ≡ 2 * (j / 2) = omega arith in
        ap f d ∙ e (j / 2) (omega arith) ∙ ap g (sym d)
    pick ih (no z) =
        let d : j ≡ 2 * (j / 2) + 1 = omega arith in
        ap f d ∙ p (j / 2) (omega arith) ∙ ap (λ x. x ⊗⟨ m ⟩ x) (ih (j / 2) (omega arith) (omega arith)) ∙ sym (q (j / 2) (omega arith)) ∙ ap g (sym d)

module _ {m : ℕ} (L : IsField m) where
  abbrev F : Field
  F = field m L

  abbrev K : Ring
  K = ring_of m L

  -- the powers of a that stand for places

  abbrev point : ℕ → K.El
  point p = (power m a p, power_bound L a p)

  abbrev points : List ℕ → List K.El
  points ps = map point ps

  points_long : (ps : List ℕ) → length (points ps) ≡ length ps
  points_long [] = refl
  points_long (p ∷ ps) = ap suc (points_long ps)

  sums_nil : (j : ℕ) → power_sums F [] j ≡ K.𝟘
  unfolding power_sums
  sums_nil j = refl

  sums_cons : (y : K.El) (ys : List K.El) (j : ℕ) → power_sums F (y ∷ ys) j ≡ K.◌⊕◌ (Series.power K y (suc j)) (power_sums F ys j)
  unfolding power_sums
  sums_cons y ys j = refl

  points-sum : (ps : List ℕ) (j : ℕ) → (power_sums F (points ps) j).0 ≡ sum_over m (suc j) ps
  points-sum [] j = ap (λ x. x.0) (sums_nil j) ∙ sym (sum_over-nil m (suc j))
  points-sum (p ∷ ps) j =
      ap (λ x. x.0) (sums_cons (point p) (points ps) j)
      ∙ ap₂ (λ x y. Sum.◌⊕◌ x y) (power_number L (point p) (suc j) ∙ sym (power-mul L a p (suc j))) (points-sum ps j)
      ∙ sym (sum_over-cons m (suc j) p ps)

  -- which powers are among them

  point_member : {p : ℕ} (ps : List ℕ) → Memᴰ p ps → Memᴰ (point p) (points ps)
  point_member [] k = absurd (Memᴰ.not-nil k)
  point_member (q ∷ ps) (Memᴰ.head e) = Memᴰ.head (ap point e)
  point_member (q ∷ ps) (Memᴰ.tail k) = Memᴰ.tail (point_member ps k)

  member_point : {X : K.El} (ps : List ℕ) → Memᴰ X (points ps) → (q : ℕ) × (X ≡ point q) × Memᴰ q ps
  member_point [] k = absurd (Memᴰ.not-nil k)
  member_point (q ∷ ps) (Memᴰ.head e) = (q, e, Memᴰ.head refl)
  member_point (q ∷ ps) (Memᴰ.tail k) =
      let (r, e, l) = member_point ps k in
      (r, e, Memᴰ.tail l)

  same_place : {p q : ℕ} → p < n_of m → q < n_of m → point p ≡ point q → p ≡ q
  same_place {p} {q} h l e = power_injective L p q h l (ap (λ x. x.0) e)

  place_member : (p : ℕ) (ps : List ℕ) → p < n_of m → ((q : ℕ) → Memᴰ q ps → q < n_of m) → Memᴰ (point p) (points ps) → Memᴰ p ps
  place_member p ps h b k =
      let (q, e, l) = member_point ps k in
      let z : p ≡ q = same_place h (b q l) e in
      rw z l

  points_distinct : (ps : List ℕ) → Ascending ps → ((q : ℕ) → Memᴰ q ps → q < n_of m) → Distinct K (points ps)
  points_distinct [] A b = tt
  points_distinct (p ∷ ps) A b = (other, points_distinct ps A.1 (λ q k. b q (Memᴰ.tail k)))
    where
      other : Memᴰ (point p) (points ps) → ⊥
      other k =
          let l = place_member p ps (b p (Memᴰ.head refl)) (λ q j. b q (Memᴰ.tail j)) k in
          omega (arith, A.0 p l)

  points_nonzero : (ps : List ℕ) → NonZero F (points ps)
  points_nonzero ps X k z =
      let (q, e, l) = member_point ps k in
      power_nonzero L q (ap (λ x. x.0) (sym e ∙ z))

  -- place p is tried at the inverse of its power

  inverse-point : (p : ℕ) → p < n_of m → point (n_of m - p) ≡ F.inverse (point p)
  inverse-point p h =
      inverse_unique F (point p) (point (n_of m - p)) (λ z. power_nonzero L p (ap (λ x. x.0) z))
      (el_path (sym (power-add L a p (n_of m - p)) ∙ ap (power m a) whole ∙ a_order L))
    where
      whole : p + (n_of m - p) ≡ n_of m
      whole = omega arith

  value_number : (c : ℕ) (p : Series K) (sigma : List ℕ) (k : ℕ) (y : K.El) → ((i : ℕ) → i < c → get_or sigma (k + i) 0 ≡ (p i).0)
      → value_from m y.0 sigma k c ≡ (evaluate K c p y).0
  value_number zero p sigma k y e = value_zero m y.0 sigma k ∙ ap (λ x. x.0) (sym (evaluate-zero K p y))
  value_number (suc c) p sigma k y e =
      value_suc m y.0 sigma k c
      ∙ ap₂ (λ u v. Sum.◌⊕◌ u (y.0 ⊗⟨ m ⟩ v)) (ap (λ n. get_or sigma n 0) (sym (add-zero k)) ∙ e zero (omega arith))
      (value_number c (tail K p) sigma (suc k) y (λ i h. ap (λ n. get_or sigma n 0) (later i) ∙ e (suc i) (omega arith)))
      ∙ ap (λ x. x.0) (sym (evaluate-suc K c p y))
    where
      later : (i : ℕ) → suc k + i ≡ k + suc i
      later i = omega arith

  -- the sums of a located list

  located_even : {t : ℕ} {sums ps : List ℕ} → Located m t sums ps → (i : ℕ) → i < t → sum_over m (suc (2 * i)) ps ≡ get_or sums i 0
  located_even {ps = ps} s i h = ap (λ n. sum_over m n ps) (sym (add-one (2 * i))) ∙ s.same i h

  located_odd : (ps : List ℕ) (i : ℕ) → sum_over m (suc (2 * i + 1)) ps ≡ sum_over m (suc i) ps ⊗⟨ m ⟩ sum_over m (suc i) ps
  located_odd ps i = ap (λ n. sum_over m n ps) twice ∙ sum_over_square L (suc i) ps
    where
      twice : suc (2 * i + 1) ≡ 2 * suc i
      twice = omega arith

  agree : {t : ℕ} {sums all ps : List ℕ} → Squared m t sums all → Located m t sums ps → EqualBelow K (2 * t) (series_of L all) (power_sums F (points ps))
  agree {t} {sums} {all} {ps} q s j h =
      el_path
      (series_at L all j (q.below j h)
      ∙ halves m (λ i. get_or all i 0) (λ i. sum_over m (suc i) ps) t (λ i k. q.odd i k ∙ sym (located_even s i k)) q.even
      (λ i k. located_odd ps i) (suc j) j (omega arith) h
      ∙ sym (points-sum ps j))

  few_points : {t : ℕ} {sums ps : List ℕ} → Located m t sums ps → 2 * length (points ps) ≤ 2 * t
  few_points {ps = ps} s = omega (arith, points_long ps, s.few)

  same_members : {t : ℕ} {sums ps qs : List ℕ} → Located m t sums ps → Located m t sums qs → (p : ℕ) → Memᴰ p ps → Memᴰ p qs
  same_members {t} {sums} {ps} {qs} s u p k =
      place_member p qs (s.below p k) u.below
      (same_set F (points ps) (points qs) (2 * t) (points_distinct ps s.ascending s.below)
      (points_distinct qs u.ascending u.below) (points_nonzero ps) (points_nonzero qs) (few_points s) (few_points u)
      (λ j h. el_path
      (points-sum ps j
      ∙ halves m (λ i. sum_over m (suc i) ps) (λ i. sum_over m (suc i) qs) t (λ i l. located_even s i l ∙ sym (located_even u i l))
      (λ i l. located_odd ps i) (λ i l. located_odd qs i) (suc j) j (omega arith) h ∙ sym (points-sum qs j)))
      (point p) (point_member ps k))

-- there is at most one set of places with given sums
pub one_set : {m t : ℕ} {sums ps qs : List ℕ} → IsField m → Located m t sums ps → Located m t sums qs → ps ≡ qs
one_set {ps = ps} {qs} L s u = ascending_same ps qs s.ascending u.ascending (same_members L s u) (same_members L u s)

-- what the run and the trial say of a located list

module _ {m t l : ℕ} {sums sigma ps : List ℕ} (s : SolvedFor m t sums l sigma) (u : Located m t sums ps) where
  abbrev L₁ : IsField m
  L₁ = s.solved.listed

  abbrev G : Field
  G = field m L₁

  abbrev R : Ring
  R = ring_of m L₁

  abbrev S : Series R
  S = series_of L₁ s.all

  abbrev E : List R.El
  E = points L₁ ps

  pub not_passed : t < l → ⊥
  not_passed h =
      let (r, b, o) = s.solved.passes h in
      omega (arith, short_before G S E (2 * t) (agree L₁ s.squared u) r b, points_long L₁ ps, u.few)

  module _ (h : l ≤ t) where
    found : Finds G E (run G S (2 * t))
    found = finds G S E (2 * t) (points_distinct L₁ ps u.ascending u.below) (points_nonzero L₁ ps) (few_points L₁ u) (agree L₁ s.squared u)

    -- a bound above the degree and above the length of the list
    abbrev d : ℕ
    d = suc l + suc (length E)

    value_is : (p : ℕ) → p < n_of m → tried m sigma (l + 1) p ≡ (evaluate R d (run G S (2 * t)).σ (G.inverse (point L₁ p))).0
    value_is p k =
        ap (value_from m (power m a (n_of m - p)) sigma 0) (add-one l)
        ∙ value_number L₁ (suc l) (run G S (2 * t)).σ sigma 0 (point L₁ (n_of m - p))
        (λ i b. ap (λ n. get_or sigma n 0) (none i) ∙ (s.solved.short h).1 i (omega arith))
        ∙ ap (λ x. x.0)
        (ap (evaluate R (suc l) (run G S (2 * t)).σ) (inverse-point L₁ p k)
        ∙ sym
        (evaluate_past R (suc l) d (run G S (2 * t)).σ (G.inverse (point L₁ p))
        (λ n b. run_degree G S (2 * t) n (omega (arith, (s.solved.short h).0))) (omega arith)))
      where
        none : (i : ℕ) → 0 + i ≡ i
        none i = omega arith

    zeros_are : zeros m sigma (l + 1) (n_of m) ≡ ps
    zeros_are = ascending_same (zeros m sigma (l + 1) (n_of m)) ps (zeros_ascending m sigma (l + 1) (n_of m)) u.ascending into back
      where
        into : (p : ℕ) → Memᴰ p (zeros m sigma (l + 1) (n_of m)) → Memᴰ p ps
        into p k =
            let q = zeros_member m sigma (l + 1) (n_of m) p k in
            place_member L₁ p ps q.0 u.below
            (found.root (point L₁ p) (λ z. power_nonzero L₁ p (ap (λ x. x.0) z)) d (omega arith) (el_path (sym (value_is p q.0) ∙ q.1)))

        back : (p : ℕ) → Memᴰ p ps → Memᴰ p (zeros m sigma (l + 1) (n_of m))
        back p k =
            member_zeros m sigma (l + 1) (n_of m) p (u.below p k)
            (value_is p (u.below p k) ∙ ap (λ x. x.0) (found.rooted (point L₁ p) (point_member L₁ ps k) d (omega arith)))

    pub not_many : {count : ℕ} {places : List ℕ} → Tried m t sigma (l + 1) count places → t < count → ⊥
    not_many w k = omega (arith, w.most k, ap length zeros_are, u.few)

    pub not_other : {count : ℕ} {r : Bool} {places : List ℕ} → Tried m t sigma (l + 1) count places → count ≤ t
        → Agrees m t (take count places) sums r → r ≡ false → ⊥
    not_other w k c e = c.no e (λ i h. ap (sum_over m (2 * i + 1)) (w.all_of k ∙ zeros_are) ∙ u.same i h)

-- every place that is found is below n
pub found_below : {m t c count : ℕ} {sigma places : List ℕ} → Tried m t sigma c count places → count ≤ t → t ≤ length places
    → (i : ℕ) → i < count → get_or places i 0 < n_of m
found_below {m} {c = c} {count} {sigma} {places} w h l i k = (zeros_member m sigma c (n_of m) (get_or places i 0) (rw (w.all_of h) at here)).0
  where
    here : Memᴰ (get_or places i 0) (take count places)
    here = rw (sym (get_or-take count places i 0 k)) (member_at (take count places) i (omega (arith, length-take-le count places (omega arith))))

-- places whose sums agree are located
pub located : {m t c count : ℕ} {r : Bool} {sums sigma places : List ℕ} → Tried m t sigma c count places → count ≤ t
    → t ≤ length places → Agrees m t (take count places) sums r → r ≡ true → Located m t sums (take count places)
located {m} {t} {c} {count} {r} {sums} {sigma} {places} w h l g e =
    record {
      ascending = rw (w.all_of h) (zeros_ascending m sigma c (n_of m));
      below = λ p q. (zeros_member m sigma c (n_of m) p (rw (w.all_of h) at q)).0;
      few = omega (arith, length-take-le count places (omega arith));
      same = g.yes e;
    }

-- where all sums are 0 no place is wrong
pub none_wrong : {m t : ℕ} {r : Bool} {sums : List ℕ} → AllZero t sums r → r ≡ true → Located m t sums []
none_wrong {m} c e =
    record {
      ascending = tt;
      below = λ p k. absurd (Memᴰ.not-nil k);
      few = omega arith;
      same = λ i h. sum_over-nil m (2 * i + 1) ∙ sym (c.yes e i h);
    }
