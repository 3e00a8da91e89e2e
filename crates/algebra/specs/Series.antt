-- Power series over a ring; no promise rests on it.
-- Place n of a series holds the coefficient of x^n. A polynomial is a series that is zero from some place on.
use Rattle.std.specs.Prelude.{◌≡◌, ℕ, zero, suc, ◌≤◌, ◌<◌}
use mathlib.Core.List.{List, [], ◌∷◌, Memᴰ}
use Rattle.algebra.specs.Ring.{Ring}

module _ (K : Ring) where
  open K use {El, 𝟘, 𝟙, ◌⊕◌, ◌⊗◌}

  infixl 60 ◌⊕◌
  infixl 70 ◌⊗◌
  abbrev pub Series : Type 0
  Series = ℕ → El

  -- all coefficients but the first
  abbrev pub tail : Series → Series
  tail p = λ n. p (suc n)

  -- x times p
  unfoldable pub shift : Series → Series
  shift p zero = 𝟘
  shift p (suc n) = p n

  abbrev pub scale : El → Series → Series
  scale c p = λ n. c ⊗ p n

  abbrev pub zero_series : Series
  zero_series = λ n. 𝟘

  unfoldable pub one_series : Series
  one_series zero = 𝟙
  one_series (suc n) = 𝟘

  abbrev pub sum_series : Series → Series → Series
  sum_series p q = λ n. p n ⊕ q n

  -- the coefficient of x^n in the product, by the first coefficient of p
  unfoldable pub product_series : Series → Series → Series
  product_series p q zero = p zero ⊗ q zero
  product_series p q (suc n) = p zero ⊗ q (suc n) ⊕ product_series (tail p) q n

  -- the degree of p is below d
  abbrev pub ZeroFrom : ℕ → Series → Type 0
  ZeroFrom d p = (n : ℕ) → d ≤ n → p n ≡ 𝟘

  -- p and q agree modulo x^r
  abbrev pub EqualBelow : ℕ → Series → Series → Type 0
  EqualBelow r p q = (n : ℕ) → n < r → p n ≡ q n

  -- the value at y of the first d coefficients
  unfoldable pub evaluate : ℕ → Series → El → El
  evaluate zero p y = 𝟘
  evaluate (suc d) p y = p zero ⊕ y ⊗ evaluate d (tail p) y

  unfoldable pub power : El → ℕ → El
  power y zero = 𝟙
  power y (suc e) = y ⊗ power y e

  -- no element stands twice in the list
  abbrev pub Distinct : List El → Type 0
  Distinct [] = Unit {0}
  Distinct (y ∷ ys) = (Memᴰ y ys → ⊥) × Distinct ys
