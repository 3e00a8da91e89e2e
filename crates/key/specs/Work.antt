-- What the steps of the run leave in their buffers, in plain numbers; no promise rests on it.
use Rattle.std.specs.Prelude.{◌≡◌, List, ◌++◌, ℕ, Option, Some, None, zero, suc, ◌+◌, ◌-◌, ◌*◌, ◌^◌, ◌≤◌, ◌<◌, get_or, replicate}
use Rattle.field.specs.Sum.{◌⊕◌}
use Rattle.field.specs.Product.{◌⊗⟨◌⟩◌}

-- what is answered of a number with this property: the number, or nothing where it is above t
abbrev pub UpTo : ℕ → (ℕ → Type 0) → Option ℕ → Type 0
UpTo t Is (Some l) = (l ≤ t) × Is l
UpTo t Is None = (l : ℕ) × (t < l) × Is l

-- factor times b, moved up by gap places, is added
abbrev pub plus_moved : ℕ → ℕ → ℕ → List ℕ → List ℕ → ℕ → ℕ
plus_moved m factor gap b before i = get_or before i 0 ⊕ factor ⊗⟨ m ⟩ get_or (replicate gap 0 ++ b) i 0

-- the first 2t sums S_1, S_2, .. from the odd ones: S_2j is the square of S_j
pub record Squared (m t : ℕ) (sums all : List ℕ) : Type 0 where
  pub odd : (i : ℕ) → i < t → get_or all (2 * i) 0 ≡ get_or sums i 0
  pub even : (i : ℕ) → i < t → get_or all (2 * i + 1) 0 ≡ get_or all i 0 ⊗⟨ m ⟩ get_or all i 0
  pub below : (i : ℕ) → i < 2 * t → get_or all i 0 < 2 ^ m

-- the sum over i below c of entry i of sigma times entry r - i of all
unfoldable pub crossed : ℕ → List ℕ → List ℕ → ℕ → ℕ → ℕ
crossed m sigma all r zero = 0
crossed m sigma all r (suc c) = crossed m sigma all r c ⊕ get_or sigma c 0 ⊗⟨ m ⟩ get_or all (r - c) 0
