-- What a step leaves in a row of entries, and what a look at it tells; no promise rests on it.
use Rattle.std.specs.Prelude.{◌≡◌, Bool, true, false, List, ℕ, ◌≤◌, ◌<◌, length, get_or}

-- the first t entries are what f says of their places, and the others are as before
pub record Filled (f : ℕ → ℕ) (t : ℕ) (before after : List ℕ) : Type 0 where
  pub same : length after ≡ length before
  pub holds : (i : ℕ) → i < t → get_or after i 0 ≡ f i
  pub rest : (i : ℕ) → t ≤ i → get_or after i 0 ≡ get_or before i 0

abbrev pub nothing : ℕ → ℕ
nothing i = 0

abbrev pub entry : List ℕ → ℕ → ℕ
entry xs i = get_or xs i 0

-- the first t entries are all 0, or not all of them
pub record AllZero (t : ℕ) (xs : List ℕ) (r : Bool) : Type 0 where
  pub yes : r ≡ true → (i : ℕ) → i < t → get_or xs i 0 ≡ 0
  pub no : r ≡ false → ((i : ℕ) → i < t → get_or xs i 0 ≡ 0) → ⊥

-- the first t entries of the two are the same, or not all of them
pub record Same (t : ℕ) (xs ys : List ℕ) (r : Bool) : Type 0 where
  pub yes : r ≡ true → (i : ℕ) → i < t → get_or xs i 0 ≡ get_or ys i 0
  pub no : r ≡ false → ((i : ℕ) → i < t → get_or xs i 0 ≡ get_or ys i 0) → ⊥
