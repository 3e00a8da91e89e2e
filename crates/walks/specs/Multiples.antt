-- Adding multiples of the powers of a into a row of entries; no promise rests on it.
use Rattle.std.specs.Prelude.{◌≡◌, List, ℕ, ◌+◌, ◌*◌, ◌≤◌, ◌<◌, length, get_or, set}
use Rattle.std.specs.Int.Bits.{bit_xor}
use Rattle.field.specs.Sum.{◌⊕◌}
use Rattle.field.specs.Product.{◌⊗⟨◌⟩◌}
use Rattle.field.specs.Power.{a, n_of, power}

-- entry i plus s times a^(step i)
abbrev pub plus_multiple : ℕ → ℕ → ℕ → List ℕ → ℕ → ℕ
plus_multiple m s step before i = get_or before i 0 ⊕ s ⊗⟨ m ⟩ power m a (step * i)

-- entry i plus a^(from + step i)
abbrev pub plus_walk : ℕ → ℕ → ℕ → List ℕ → ℕ → ℕ
plus_walk m from step before i = get_or before i 0 ⊕ power m a (from + step * i)

-- what the steps of a walk leave

-- v is added to entry j
abbrev pub plus_at : List ℕ → ℕ → ℕ → List ℕ
plus_at xs j v = set xs j (bit_xor (get_or xs j 0) v)

-- the powers with these exponents are added to the four entries from place j on
abbrev pub plus_four : List ℕ → ℕ → ℕ → ℕ → ℕ → ℕ → List ℕ → List ℕ
plus_four powers e f g h j xs =
    plus_at (plus_at (plus_at (plus_at xs j (get_or powers e 0)) (j + 1) (get_or powers f 0)) (j + 2) (get_or powers g 0)) (j + 3) (get_or powers h 0)

-- a^start, a^(start + step), .. are added to d entries from place i on, and the others are as before
pub record Added (m start step i d : ℕ) (before after : List ℕ) : Type 0 where
  pub same : length after ≡ length before
  pub holds : (k : ℕ) → k < d → get_or after (i + k) 0 ≡ get_or before (i + k) 0 ⊕ power m a (start + step * k)
  pub low : (k : ℕ) → k < i → get_or after k 0 ≡ get_or before k 0
  pub high : (k : ℕ) → i + d ≤ k → get_or after k 0 ≡ get_or before k 0

-- these are done, and e is an exponent for the next
pub record Walked (m start step i d : ℕ) (before : List ℕ) (e : ℕ) (after : List ℕ) : Type 0 where
  pub below : e < n_of m
  pub here : power m a e ≡ power m a (start + step * d)
  pub added : Added m start step i d before after
