-- Polynomials over bits. docs/SCOPE.md 3: "Place i of it holds the coefficient of x^i."
use Rattle.std.specs.Prelude.{List, [], ◌∷◌, map, ℕ, ◌*◌, length, replicate}
use Rattle.bits.specs.Bits.{added}

-- the product of two polynomials; it is as long as both together
unfoldable pub product_bits : List ℕ → List ℕ → List ℕ
product_bits [] ys = replicate (length ys) 0
product_bits (x ∷ xs) ys = added (0 ∷ product_bits xs ys) (map (λ y. x * y) ys)
