-- The kept record, and check 7. docs/SCOPE.md 4.7: "A kept record is a value that holds m, t, 1,023 bits and 255 sums (the odd ones, in order)."
use Rattle.std.specs.Prelude.{◌≡◌, Bool, false, ◌||◌, List, [], ◌∷◌, ℕ, ◌^◌, leb, length, take, replicate}
use Rattle.bits.specs.Bits.{has_bad_bit}
use Rattle.codes.specs.declared.Code.{Code}
use Rattle.kept.specs.declared.Kept.{Kept}

-- 1,023 bits and 255 sums
pub record Whole (stored : Kept) : Type 0 where
  pub bits : length stored.bits ≡ 1023
  pub sums : length stored.sums ≡ 255

-- one of the numbers is the bound or more
unfoldable pub some_at_least : ℕ → List ℕ → Bool
some_at_least bound [] = false
some_at_least bound (x ∷ xs) = leb bound x || some_at_least bound xs

-- docs/SCOPE.md 5.1: "one of the first n bits is above 1 or one of the first t sums is 2^m or more"; what stands past them is not looked at
abbrev pub bad_record : Code → Kept → Bool
bad_record c stored = has_bad_bit (take c.n stored.bits) || some_at_least (2 ^ c.m) (take c.t stored.sums)

-- the record of zeros
abbrev pub zero_kept : Kept
zero_kept = record { m = 0; t = 0; bits = replicate 1023 0; sums = replicate 255 0 }
