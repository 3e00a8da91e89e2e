-- Powers, the inverse, and n, the number of powers of a.
-- docs/SCOPE.md 2.3: "The power 0 of an element is 1, and each further power is the one before times the element."
use Rattle.std.specs.Prelude.{ℕ, zero, suc, ◌-◌, ◌^◌}
use Rattle.field.specs.Product.{◌⊗⟨◌⟩◌}

-- the root of the field polynomial: the number 2, whose one digit is at place 1
abbrev pub a : ℕ
a = 2

abbrev pub n_of : ℕ → ℕ
n_of m = 2 ^ m - 1

unfoldable pub power : ℕ → ℕ → ℕ → ℕ
power m x zero = 1
power m x (suc e) = x ⊗⟨ m ⟩ power m x e

-- docs/SCOPE.md 2.3: "The inverse of a nonzero element is its power 2^m - 2."
unfoldable pub inverse : ℕ → ℕ → ℕ
inverse m x = power m x (2 ^ m - 2)
