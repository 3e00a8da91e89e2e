-- The rows of the table, by which it is compared with the rule; no promise rests on it.
use Rattle.std.specs.Prelude.{◌≡◌, ◌∷◌, ℕ, suc, ◌-◌, ◌≤◌, ◌<◌, get_or, drop}
use Rattle.field.specs.Product.{IsField}
use Rattle.field.specs.Power.{n_of}
use Rattle.codes.specs.Table.{ks, ts, first}

-- row r is one of those of m
pub record RowOf (m r : ℕ) : Type 0 where
  pub listed : IsField m
  pub from : first m ≤ r
  pub below : r < first (suc m)

-- the k and the t of the row before row r of m; before the first row of m stand n and 0
unfoldable pub before_k : ℕ → ℕ → ℕ
before_k m r = get_or (n_of m ∷ drop (first m) ks) (r - first m) 0

unfoldable pub before_t : ℕ → ℕ → ℕ
before_t m r = get_or (0 ∷ drop (first m) ts) (r - first m) 0

-- (n, k, t) is in the list, at this row
pub record ListedCode (m k t : ℕ) : Type 0 where
  pub row : ℕ
  pub of_m : RowOf m row
  pub is_k : get_or ks row 0 ≡ k
  pub is_t : get_or ts row 0 ≡ t
