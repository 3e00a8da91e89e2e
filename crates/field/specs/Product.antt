-- The product of the field. docs/SCOPE.md 2.2: "The product of two elements is the polynomial product reduced by the field polynomial".
-- A number stands for a polynomial: its binary digit at place i is the coefficient of x^i.
use Rattle.std.specs.Prelude.{List, [], ◌∷◌, ℕ, zero, suc, ◌-◌, ◌*◌, ◌/◌, ◌%◌, ◌^◌, ◌≤◌, get_or}
use Rattle.field.specs.Sum.{◌⊕◌}

infixl 70 ◌⊗⟨◌⟩◌
-- the field polynomials, for m = 3 to 10, as docs/SCOPE.md 2 has them
unfoldable pub polynomials : List ℕ
polynomials = 11 ∷ 19 ∷ 37 ∷ 67 ∷ 131 ∷ 285 ∷ 529 ∷ 1033 ∷ []

unfoldable pub polynomial : ℕ → ℕ
polynomial m = get_or polynomials (m - 3) 0

-- m is from 3 to 10
pub record IsField (m : ℕ) : Type 0 where
  pub least : 3 ≤ m
  pub most : m ≤ 10

-- Horner's rule over the digits of y, lowest first: x where the digit is 1, and f of the same for the rest of y. The second number bounds the digits left.
unfoldable pub digits : (ℕ → ℕ) → ℕ → ℕ → ℕ → ℕ
digits f x zero y = 0
digits f x (suc left) zero = 0
digits f x (suc left) (suc y) = (suc y % 2 * x) ⊕ f (digits f x left (suc y / 2))

unfoldable pub horner : (ℕ → ℕ) → ℕ → ℕ → ℕ
horner f x y = digits f x y y

-- the polynomial product: y's digits, each place worth twice the one before
unfoldable pub carryless : ℕ → ℕ → ℕ
carryless x y = horner (λ z. 2 * z) x y

-- times x, reduced once: the polynomial p of degree m is taken away where place m then holds 1
unfoldable pub shifted : ℕ → ℕ → ℕ → ℕ
shifted m p z = 2 * z ⊕ (2 * z / 2 ^ m % 2 * p)

-- long division by p of degree m: what is left of the digits above, shifted and reduced, with the next digit brought down
unfoldable pub remainder : ℕ → ℕ → ℕ → ℕ
remainder m p x = horner (shifted m p) 1 x

unfoldable pub ◌⊗⟨◌⟩◌ : ℕ → ℕ → ℕ → ℕ
◌⊗⟨◌⟩◌ x m y = remainder m (polynomial m) (carryless x y)
