-- What adding into a part of a buffer leaves; no promise rests on it.
use Rattle.std.specs.Prelude.{List, [], ◌∷◌, ℕ, zero, suc}
use Rattle.bits.specs.Bits.{added}

-- ys added into xs from place at on
unfoldable pub added_at : List ℕ → ℕ → List ℕ → List ℕ
added_at xs zero ys = added xs ys
added_at [] (suc at) ys = []
added_at (x ∷ xs) (suc at) ys = x ∷ added_at xs at ys
