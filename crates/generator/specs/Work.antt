-- What the steps of making a generator and of dividing by it leave in their buffers; no promise rests on it.
use Rattle.std.specs.Prelude.{◌≡◌, List, ◌++◌, ℕ, ◌*◌, ◌/◌, ◌%◌, ◌^◌, ◌≤◌, ◌<◌, length, get_or, replicate}
use Rattle.bits.specs.Bits.{AreBits}
use Rattle.bits.specs.Polynomial.{product_bits}
use Rattle.field.specs.Sum.{◌⊕◌}
use Rattle.field.specs.Product.{IsField}
use Rattle.codes.specs.Sums.{sum_of}
use Rattle.generator.specs.Factors.{binary}

-- x^e times old is added where p's digit e is 1, as far as the buffer reaches
pub record Tapped (p e : ℕ) (old before after : List ℕ) : Type 0 where
  pub bits : AreBits after
  pub holds : (i : ℕ) → i < length before → get_or after i 0 ≡ get_or before i 0 ⊕ p / 2 ^ e % 2 * get_or (replicate e 0 ++ old) i 0

-- the polynomial p, as far as a buffer of that length reaches
pub record Cut (p : List ℕ) (long : ℕ) (buffer : List ℕ) : Type 0 where
  pub bits : AreBits buffer
  pub same : length buffer ≡ long
  pub holds : (i : ℕ) → i < long → get_or buffer i 0 ≡ get_or p i 0

-- the product with the polynomial p, as far as the buffer reaches
pub record Multiplied (p : ℕ) (before after : List ℕ) : Type 0 where
  pub bits : AreBits after
  pub holds : (i : ℕ) → i < length before → get_or after i 0 ≡ get_or (product_bits (binary 11 p) before) i 0

-- a multiple of g is taken away: place i then holds 0, nothing above it changes, and a sum that vanishes for g stays as it was
pub record TakenAway (d : ℕ) (g : List ℕ) (i : ℕ) (before after : List ℕ) : Type 0 where
  pub bits : AreBits after
  pub here : get_or after i 0 ≡ 0
  pub above : (h : ℕ) → i < h → get_or after h 0 ≡ get_or before h 0
  pub sums : {m : ℕ} → IsField m → (j : ℕ) → sum_of m j g ≡ 0 → sum_of m j after ≡ sum_of m j before

-- the same until nothing is left from place d on
pub record Reduced (d : ℕ) (g before after : List ℕ) : Type 0 where
  pub bits : AreBits after
  pub left : (i : ℕ) → d ≤ i → get_or after i 0 ≡ 0
  pub sums : {m : ℕ} → IsField m → (j : ℕ) → sum_of m j g ≡ 0 → sum_of m j after ≡ sum_of m j before
