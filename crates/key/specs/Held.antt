-- The key equation's run in numbers: what the arrays hold of it; no promise rests on it.
use Rattle.std.specs.Prelude.{◌≡◌, List, ◌++◌, ℕ, ◌+◌, ◌*◌, ◌%◌, ◌^◌, ◌≤◌, ◌<◌, length, get_or, replicate}
use Rattle.std.proofs.Common.{mod-lt, pow_pos}
use Rattle.algebra.specs.Series.{Series}
use Rattle.algebra.specs.Key.{State, run}
use Rattle.field.specs.Product.{IsField, ◌⊗⟨◌⟩◌}
use Rattle.field.proofs.Field.{field, ring_of}
use Rattle.key.specs.Work.{Squared}

-- the numbers of a list as a series over the field
unfoldable pub series_of : {m : ℕ} (L : IsField m) → List ℕ → Series (ring_of m L)
series_of {m} L xs i = (get_or xs i 0 % 2 ^ m, mod-lt (get_or xs i 0) (pow_pos m))

-- the run's state after r steps on the sums in all
abbrev pub state_at : {m : ℕ} (L : IsField m) → List ℕ → ℕ → State (field m L)
state_at {m} L all r = run (field m L) (series_of L all) r

-- the arrays hold the first t + 2 coefficients of a state: σ as it is, B as q times b moved up by gap places
pub record Holds (m t : ℕ) (L : IsField m) (s : State (field m L)) (l gap q : ℕ) (sigma b : List ℕ) : Type 0 where
  pub length_is : l ≡ s.L
  pub sigma_long : t + 2 ≤ length sigma
  pub b_long : t + 2 ≤ length b
  pub q_below : q < 2 ^ m
  pub b_below : (i : ℕ) → i < t + 2 → get_or b i 0 < 2 ^ m
  pub sigma_holds : (i : ℕ) → i < t + 2 → get_or sigma i 0 ≡ (s.σ i).0
  pub b_holds : (i : ℕ) → i < t + 2 → q ⊗⟨ m ⟩ get_or (replicate gap 0 ++ b) i 0 ≡ (s.B i).0

-- the arrays hold the run's state after r steps, and its l is at most t
pub record Held (m t : ℕ) (all : List ℕ) (r l gap q : ℕ) (sigma b : List ℕ) : Type 0 where
  pub listed : IsField m
  pub sums_below : (i : ℕ) → i < 2 * t → get_or all i 0 < 2 ^ m
  pub short : l ≤ t
  pub gap_within : gap ≤ r + 1
  pub holds : Holds m t listed (state_at listed all r) l gap q sigma b

-- the run's bound l after r steps: where it is at most t, the arrays hold the state
pub record Stepped (m t : ℕ) (all : List ℕ) (r l gap q : ℕ) (sigma b : List ℕ) : Type 0 where
  pub listed : IsField m
  pub length_is : l ≡ (state_at listed all r).L
  pub held : l ≤ t → Held m t all r l gap q sigma b

-- sigma holds the run's σ after all 2t steps, or at some step L passes t
pub record Solved (m t : ℕ) (all : List ℕ) (l : ℕ) (sigma : List ℕ) : Type 0 where
  pub listed : IsField m
  pub short : l ≤ t → (l ≡ (state_at listed all (2 * t)).L) × ((i : ℕ) → i < t + 2 → get_or sigma i 0 ≡ ((state_at listed all (2 * t)).σ i).0)
  pub passes : t < l → (r : ℕ) × (r ≤ 2 * t) × (t < (state_at listed all r).L)

-- the same for the sums that the odd ones give
pub record SolvedFor (m t : ℕ) (sums : List ℕ) (l : ℕ) (sigma : List ℕ) : Type 0 where
  pub all : List ℕ
  pub squared : Squared m t sums all
  pub solved : Solved m t all l sigma
