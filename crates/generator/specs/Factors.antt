-- The generator as a product of the table's minimal polynomials; no promise rests on it.
use Rattle.std.specs.Prelude.{List, [], ◌∷◌, ℕ, zero, suc, ◌+◌, ◌-◌, ◌/◌, ◌%◌, get_or}
use Rattle.bits.specs.Polynomial.{product_bits}
use Rattle.codes.specs.Table.{first}
use Rattle.generator.specs.Minimals.{minimals}

-- the lowest c binary digits of a number
unfoldable pub binary : ℕ → ℕ → List ℕ
binary zero p = []
binary (suc c) p = p % 2 ∷ binary c (p / 2)

-- the minimal polynomial in row r
unfoldable pub minimal_of : ℕ → List ℕ
minimal_of r = binary 11 (get_or minimals r 0)

-- the product of the minimal polynomials of c rows from row r on
unfoldable pub product_of : ℕ → ℕ → List ℕ
product_of r zero = 1 ∷ []
product_of r (suc c) = product_bits (minimal_of (r + c)) (product_of r c)

-- the product of the minimal polynomials of the rows of m up to row r
unfoldable pub generator_of : ℕ → ℕ → List ℕ
generator_of m r = product_of (first m) (suc r - first m)
