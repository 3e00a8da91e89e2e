-- The key equation's run: from a series of sums to a polynomial σ whose roots tell the wrong places; no promise rests on it.
use Rattle.std.specs.Prelude.{◌≡◌, Bool, true, false, List, [], ◌∷◌, ℕ, zero, suc, ◌-◌, ◌*◌, leb}
use Rattle.algebra.specs.Ring.{Field}
use Rattle.algebra.specs.Series.{Series, shift, scale, zero_series, one_series, sum_series, product_series, power}

module _ (F : Field) where
  open F use {ring, inverse, zero?}
  open ring use {El, 𝟘, 𝟙, ◌⊕◌, ◌⊗◌}

  infixl 60 ◌⊕◌
  infixl 70 ◌⊗◌
  -- σ is the polynomial so far, B what it is mended with, L the bound on σ's degree
  pub record State : Type 0 where
    pub σ : Series ring
    pub B : Series ring
    pub L : ℕ

  abbrev pub start : State
  start = record { σ = one_series ring; B = shift ring (one_series ring); L = 0 }

  -- by how much the product of σ and the sums misses zero at place r
  abbrev pub discrepancy : Series ring → ℕ → State → El
  discrepancy S r s = product_series ring s.σ S r

  -- nothing is missed: only B moves on
  abbrev pub passed : State → State
  passed s = record { σ = s.σ; B = shift ring s.B; L = s.L }

  abbrev pub mended : El → State → Series ring
  mended d s = sum_series ring s.σ (scale ring d s.B)

  -- d is missed: σ is mended by d times B; where 2 L is at most r the old σ, divided by d, becomes the next B
  abbrev pub corrected : Bool → El → ℕ → State → State
  corrected true d r s = record { σ = mended d s; B = shift ring (scale ring (inverse d) s.σ); L = suc r - s.L }
  corrected false d r s = record { σ = mended d s; B = shift ring s.B; L = s.L }

  abbrev pub step_by : (d : El) → Dec (d ≡ 𝟘) → ℕ → State → State
  step_by d (yes h) r s = passed s
  step_by d (no h) r s = corrected (leb (2 * s.L) r) d r s

  unfoldable pub step : Series ring → ℕ → State → State
  step S r s = step_by (discrepancy S r s) (zero? (discrepancy S r s)) r s

  -- after r steps
  unfoldable pub run : Series ring → ℕ → State
  run S zero = start
  run S (suc r) = step S r (run S r)

  -- coefficient j is the sum of X^(j+1) over the X of the list
  unfoldable pub power_sums : List El → Series ring
  power_sums [] = zero_series ring
  power_sums (y ∷ ys) = sum_series ring (λ j. power ring y (suc j)) (power_sums ys)
