-- What the stages of the trial leave in their buffers, in plain numbers; no promise rests on it.
use Rattle.std.specs.Prelude.{◌≡◌, Bool, true, false, cond, List, [], ◌∷◌, ◌++◌, ℕ, Option, Some, None, zero, suc, ◌+◌, ◌-◌, ◌*◌, ◌≤◌, ◌<◌, eqb, length, get_or}
use Rattle.std.specs.Prelude.{take}
use Rattle.field.specs.Sum.{◌⊕◌}
use Rattle.field.specs.Product.{◌⊗⟨◌⟩◌}
use Rattle.field.specs.Power.{a, n_of, power}
use Rattle.codes.specs.Sums.{sum_over}
use Rattle.locate.specs.Located.{Located}

-- the value at y of the c coefficients from place k on
unfoldable pub value_from : ℕ → ℕ → List ℕ → ℕ → ℕ → ℕ
value_from m y sigma k zero = 0
value_from m y sigma k (suc c) = get_or sigma k 0 ⊕ y ⊗⟨ m ⟩ value_from m y sigma (suc k) c

-- place i is tried at a^(n-i), with the first c coefficients
abbrev pub tried : ℕ → List ℕ → ℕ → ℕ → ℕ
tried m sigma c i = value_from m (power m a (n_of m - i)) sigma 0 c

-- the value at place i with the term of coefficient s at place j added
abbrev pub plus_term : ℕ → ℕ → ℕ → List ℕ → ℕ → ℕ
plus_term m s j before i = get_or before i 0 ⊕ power m (power m a (n_of m - i)) j ⊗⟨ m ⟩ s

-- the places below i whose trial is zero, ascending
unfoldable pub zeros : ℕ → List ℕ → ℕ → ℕ → List ℕ
zeros m sigma c zero = []
zeros m sigma c (suc i) = cond (eqb (tried m sigma c i) 0) (zeros m sigma c i ++ (i ∷ [])) (zeros m sigma c i)

-- if v is 0, place i is one more of those found, and it is written down if fewer than t were found before
pub record NotedOne (v i t found : ℕ) (before : List ℕ) (count : ℕ) (after : List ℕ) : Type 0 where
  pub same : length after ≡ length before
  pub miss : (v ≡ 0 → ⊥) → (count ≡ found) × (take found after ≡ take found before)
  pub hit : v ≡ 0 → (count ≡ suc found) × (found < t → take (suc found) after ≡ take found before ++ (i ∷ []))

-- all places at which sigma is zero are found, or more than t are
pub record Tried (m t : ℕ) (sigma : List ℕ) (c found : ℕ) (places : List ℕ) : Type 0 where
  pub all_of : found ≤ t → take found places ≡ zeros m sigma c (n_of m)
  pub most : t < found → t < length (zeros m sigma c (n_of m))

-- the sums of the places are the first t of the given ones, or not all of them
pub record Agrees (m t : ℕ) (places sums : List ℕ) (r : Bool) : Type 0 where
  pub yes : r ≡ true → (i : ℕ) → i < t → sum_over m (2 * i + 1) places ≡ get_or sums i 0
  pub no : r ≡ false → ((i : ℕ) → i < t → sum_over m (2 * i + 1) places ≡ get_or sums i 0) → ⊥

-- found places are written down and are located, or there is nothing to locate
abbrev pub Sought : ℕ → ℕ → List ℕ → Option ℕ → List ℕ → Type 0
Sought m t sums (Some found) places = (found ≤ t) × Located m t sums (take found places)
Sought m t sums None places = (ps : List ℕ) → Located m t sums ps → ⊥
