-- The sum of the field. docs/SCOPE.md 2.1: "The sum of two elements is their bitwise exclusive-or."
use Rattle.std.specs.Prelude.{ℕ}
use Rattle.std.specs.Int.Bits.{bit_xor}

infixl 60 ◌⊕◌
unfoldable pub ◌⊕◌ : ℕ → ℕ → ℕ
◌⊕◌ x y = bit_xor x y
