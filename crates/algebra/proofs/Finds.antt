-- The run finds the list: σ is zero at the inverses of the elements whose power sums were given, and at no others.
use mathlib.Core.Path.{◌≡◌, ◌∙◌, sym, ap, ap₂}
use mathlib.Core.Logic.{◌≢◌, by_cases}
use mathlib.Core.List.{List, Memᴰ}
use Prim.Native.Nat.{ℕ, suc, ◌+◌, ◌*◌, ◌≤◌, ◌<◌}
use native.Mathlib.Decide.{dec_le}
use native.Mathlib.Omega.{arith}
use lib.ListN.{length}
use Rattle.algebra.specs.Ring.{Ring, Field}
use Rattle.algebra.specs.Series.{Series, ZeroFrom, EqualBelow, Distinct, evaluate, power}
use Rattle.algebra.specs.Key.{State, run, power_sums}
use Rattle.algebra.proofs.Ring.{ring, sum-zero, product-zero, sum_of_equal}
use Rattle.algebra.proofs.Series.{series, monomial, monomial-product}
use Rattle.algebra.proofs.Degree.{zero_from_weaken, zero_from_product, below_refl, below_weaken, below_product, product_below}
use Rattle.algebra.proofs.Degree.{equal_of_below, product_vanishes, monomial_below, monomial_from}
use Rattle.algebra.proofs.Evaluate.{evaluate-sum, evaluate_past, evaluate-product, evaluate-monomial}
use Rattle.algebra.proofs.Field.{no_zero_divisor, inverse_not_zero, power_not_zero}
use Rattle.algebra.proofs.Locators.{locator, evaluator, locator_from, evaluator_from, locator-one, locator_sums}
use Rattle.algebra.proofs.Locators.{locator_root, locator_rooted, evaluator_not_zero}
use Rattle.algebra.proofs.Run.{Kept, run_keeps}

-- the identities below, over plain variables
module _ (K : Ring) where
  open K use {El, ◌⊕◌, ◌⊗◌}

  infixl 60 ◌⊕◌
  infixl 70 ◌⊗◌
  swap_last : (a b s : El) → a ⊗ s ⊗ b ≡ b ⊗ s ⊗ a
  swap_last a b s = simp (ring, K)

  pair_shape : (s w b g l : El) → (s ⊗ g ⊕ b ⊗ w) ⊗ l ≡ s ⊗ (g ⊗ l) ⊕ b ⊗ (w ⊗ l)
  pair_shape s w b g l = simp (ring, K)

  gather_shape : (s b o v : El) → s ⊗ (o ⊗ b) ⊕ b ⊗ v ≡ b ⊗ (o ⊗ s ⊕ v)
  gather_shape s b o v = simp (ring, K)

module _ (K : Ring) where
  open series K use {◌⊗◌ as ◌⊗ˢ◌}

  infixl 70 ◌⊗ˢ◌
  -- if below k the product a S is u and b S is v, then u b and v a agree below k
  crossed : (k : ℕ) (S a u b v : Series K) → EqualBelow K k (a ⊗ˢ S) u → EqualBelow K k (b ⊗ˢ S) v → EqualBelow K k (u ⊗ˢ b) (v ⊗ˢ a)
  crossed k S a u b v e f n h =
      sym (below_product K k (a ⊗ˢ S) u b e n h) ∙ ap (λ p. p n) (swap_last (series K) a b S) ∙ below_product K k (b ⊗ˢ S) v a f n h

module _ (F : Field) where
  open F use {ring as K, inverse}
  open K use {El, 𝟘}

  -- σ is zero at the inverse of X exactly if X is in the list, whatever the bound above its length
  pub record Finds (E : List El) (s : State F) : Type 0 where
    pub short : s.L ≤ length E
    pub root : (X : El) → X ≢ 𝟘 → (d : ℕ) → length E < d → evaluate K d s.σ (inverse X) ≡ 𝟘 → Memᴰ X E
    pub rooted : (X : El) → Memᴰ X E → (d : ℕ) → length E < d → evaluate K d s.σ (inverse X) ≡ 𝟘

  -- no element of the list is 𝟘
  abbrev pub NonZero : List El → Type 0
  NonZero E = (X : El) → Memᴰ X E → X ≢ 𝟘

-- a state that the run keeps at r, where S agrees with the power sums of E below r
module _ (F : Field) (S : Series F.ring) (E : List F.ring.El) (r : ℕ) (agree : EqualBelow F.ring r S (power_sums F E))
    (s : State F) (kept : Kept F S r s) where
  open F use {ring as K, inverse, one_not_zero}
  open K use {El, 𝟘, 𝟙, ◌⊕◌, ◌⊗◌}
  open series K use {◌⊕◌ as ◌⊕ˢ◌, ◌⊗◌ as ◌⊗ˢ◌}
  open kept.linked use {ω, γ, M, σ_below, B_below, σ_from, ω_from, B_from, γ_from, makes}

  infixl 60 ◌⊕◌ ◌⊕ˢ◌
  infixl 70 ◌⊗◌ ◌⊗ˢ◌
  abbrev Λ : Series K
  Λ = locator K E

  abbrev Ω : Series K
  Ω = evaluator K E

  Λ_below : EqualBelow K r (Λ ⊗ˢ S) Ω
  Λ_below n h = product_below K r Λ S (power_sums F E) agree n h ∙ ap (λ p. p n) (locator_sums F E)

  B_short : EqualBelow K r (s.B ⊗ˢ S) γ
  B_short n h = B_below n (omega arith) ∙ ap (◌⊕◌ (γ n)) (monomial_below K r n h) ∙ sum-zero K (γ n)

  σ_crossed : EqualBelow K r (Ω ⊗ˢ s.σ) (ω ⊗ˢ Λ)
  σ_crossed = crossed K r S Λ Ω s.σ ω Λ_below σ_below

  -- where the degrees are small enough, what holds below r holds everywhere
  equal_products : (k : ℕ) (p w : Series K) → length E + k ≤ r → EqualBelow K r (p ⊗ˢ S) w → ZeroFrom K (suc k) p → ZeroFrom K k w → Ω ⊗ˢ p ≡ w ⊗ˢ Λ
  equal_products k p w b e y z =
      equal_of_below K r (Ω ⊗ˢ p) (w ⊗ˢ Λ) (crossed K r S Λ Ω p w Λ_below e)
      (zero_from_weaken K (Ω ⊗ˢ p) (length E + k) r b (zero_from_product K (length E) k Ω p (evaluator_from K E) y))
      (zero_from_weaken K (w ⊗ˢ Λ) (k + length E) r (omega arith) (zero_from_product K k (length E) w Λ z (locator_from K E)))

  -- L is at most the length of E; otherwise x^r Λ would be B times a series that vanishes below r
  not_longer : length E < s.L → 𝟙 ≡ 𝟘
  not_longer l =
      sym (locator-one K E) ∙ sym (monomial-product K r Λ) ∙ ap (λ p. p r) split
      ∙ product_vanishes K r s.B (Ω ⊗ˢ s.σ ⊕ˢ ω ⊗ˢ Λ) kept.B_zero (λ n h. sum_of_equal K _ _ (σ_crossed n h))
    where
      split : monomial K r ⊗ˢ Λ ≡ s.B ⊗ˢ (Ω ⊗ˢ s.σ ⊕ˢ ω ⊗ˢ Λ)
      split =
          rw (← makes, pair_shape (series K) s.σ ω s.B γ Λ, ← equal_products M s.B γ (omega arith) B_short B_from γ_from)
          (gather_shape (series K) s.σ s.B Ω (ω ⊗ˢ Λ))

  not_long : s.L ≤ length E
  not_long = by_cases (dec_le s.L (length E)) (λ h. h) (λ h. absurd (one_not_zero (not_longer (omega arith))))

  module _ (fits : 2 * length E ≤ r) (y : El) where
    -- a bound above all degrees
    abbrev D : ℕ
    D = suc (suc r)

    abbrev value : Series K → El
    value p = evaluate K D p y

    multiply : (p q : Series K) (a b : ℕ) → a ≤ D → b ≤ D → ZeroFrom K a p → ZeroFrom K b q → evaluate K (D + D) (p ⊗ˢ q) y ≡ value p ⊗ value q
    multiply p q a b l m u v = evaluate-product K D D p q y (zero_from_weaken K p a D l u) (zero_from_weaken K q b D m v)

    crossed-values : value Ω ⊗ value s.σ ≡ value ω ⊗ value Λ
    crossed-values =
        let l : s.L ≤ length E = not_long in
        sym (multiply Ω s.σ (length E) (suc s.L) (omega arith) (omega arith) (evaluator_from K E) σ_from)
        ∙ ap (λ p. evaluate K (D + D) p y) (equal_products s.L s.σ ω (omega arith) σ_below σ_from ω_from)
        ∙ multiply ω Λ s.L (suc (length E)) (omega arith) (omega arith) ω_from (locator_from K E)

    made_values : value s.σ ⊗ value γ ⊕ value s.B ⊗ value ω ≡ power K y r
    made_values =
        ap₂ ◌⊕◌
        (sym (multiply s.σ γ (suc s.L) M (omega arith) (omega arith) σ_from γ_from))
        (sym (multiply s.B ω (suc M) s.L (omega arith) (omega arith) B_from ω_from))
        ∙ sym (evaluate-sum K (D + D) (s.σ ⊗ˢ γ) (s.B ⊗ˢ ω) y)
        ∙ ap (λ p. evaluate K (D + D) p y) makes
        ∙ evaluate_past K (suc r) (D + D) (monomial K r) y (monomial_from K r) (omega arith)
        ∙ evaluate-monomial K r y

    -- σ and ω have no root in common
    ω_not_zero : y ≢ 𝟘 → value s.σ ≡ 𝟘 → value ω ≢ 𝟘
    ω_not_zero n h z = power_not_zero F y r n (sym made_values ∙ ap₂ (λ a b. a ⊗ value γ ⊕ value s.B ⊗ b) h z ∙ simp (ring, K))

    root_of_Λ : y ≢ 𝟘 → value s.σ ≡ 𝟘 → value Λ ≡ 𝟘
    root_of_Λ n h =
        no_zero_divisor F (value ω) (value Λ) (sym crossed-values ∙ ap (◌⊗◌ (value Ω)) h ∙ product-zero K (value Ω)) (ω_not_zero n h)

    root_of_σ : value Λ ≡ 𝟘 → value Ω ≢ 𝟘 → value s.σ ≡ 𝟘
    root_of_σ h n = no_zero_divisor F (value Ω) (value s.σ) (crossed-values ∙ ap (◌⊗◌ (value ω)) h ∙ product-zero K (value ω)) n

    -- the same at the bounds of the lists
    at_degree : (p : Series K) (a d : ℕ) → ZeroFrom K a p → a ≤ d → a ≤ D → evaluate K d p y ≡ value p
    at_degree p a d z l m = evaluate_past K a d p y z l ∙ sym (evaluate_past K a D p y z m)

  finds_here : 2 * length E ≤ r → Distinct K E → NonZero F E → Finds F E s
  finds_here fits u n = record { short = not_long; root = root; rooted = rooted }
    where
      σ_at : (X : El) (d : ℕ) → length E < d → evaluate K d s.σ (inverse X) ≡ value fits (inverse X) s.σ
      σ_at X d h = at_degree fits (inverse X) s.σ (suc s.L) d σ_from (omega (arith, not_long)) (omega (arith, not_long))

      Λ_at : (X : El) → evaluate K (suc (length E)) Λ (inverse X) ≡ value fits (inverse X) Λ
      Λ_at X = at_degree fits (inverse X) Λ (suc (length E)) (suc (length E)) (locator_from K E) (omega arith) (omega arith)

      Ω_at : (X : El) → evaluate K (length E) Ω (inverse X) ≡ value fits (inverse X) Ω
      Ω_at X = at_degree fits (inverse X) Ω (length E) (length E) (evaluator_from K E) (omega arith) (omega arith)

      root : (X : El) → X ≢ 𝟘 → (d : ℕ) → length E < d → evaluate K d s.σ (inverse X) ≡ 𝟘 → Memᴰ X E
      root X x d h e =
          locator_root F X E x (Λ_at X ∙ root_of_Λ fits (inverse X) (inverse_not_zero F X x) (sym (σ_at X d h) ∙ e))

      rooted : (X : El) → Memᴰ X E → (d : ℕ) → length E < d → evaluate K d s.σ (inverse X) ≡ 𝟘
      rooted X m d h =
          σ_at X d h
          ∙ root_of_σ fits (inverse X) (sym (Λ_at X) ∙ locator_rooted F X E (n X m) m) (λ z. evaluator_not_zero F X E u n m (Ω_at X ∙ z))

module _ (F : Field) where
  open F use {ring as K}
  open K use {El}

  -- L never passes the length of the list
  pub short_before : (S : Series K) (E : List El) (N : ℕ) → EqualBelow K N S (power_sums F E) → (r : ℕ) → r ≤ N → (run F S r).L ≤ length E
  short_before S E N e r l = not_long F S E r (below_weaken K r N S (power_sums F E) l e) (run F S r) (run_keeps F S r)

  pub finds : (S : Series K) (E : List El) (N : ℕ) → Distinct K E → NonZero F E → 2 * length E ≤ N → EqualBelow K N S (power_sums F E) → Finds F E (run F S N)
  finds S E N u n l e = finds_here F S E N e (run F S N) (run_keeps F S N) l u n

  -- two lists of at most N / 2 elements with the same first N power sums have the same elements
  pub same_set : (E E' : List El) (N : ℕ) → Distinct K E → Distinct K E' → NonZero F E → NonZero F E'
      → 2 * length E ≤ N → 2 * length E' ≤ N → EqualBelow K N (power_sums F E) (power_sums F E') → (X : El) → Memᴰ X E → Memᴰ X E'
  same_set E E' N u u' n n' l l' e X m =
      (finds (power_sums F E) E' N u' n' l' e).root X (n X m) (suc (length E + length E')) (omega arith)
      ((finds (power_sums F E) E N u n l (below_refl K N (power_sums F E))).rooted X m (suc (length E + length E')) (omega arith))
