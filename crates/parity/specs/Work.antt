-- What adding the parity leaves in the word, and what the change of a message is; no promise rests on it.
use Rattle.std.specs.Prelude.{◌≡◌, List, ℕ, ◌+◌, ◌≤◌, ◌<◌, length, get_or}
use Rattle.std.specs.Int.Bits.{bit_xor}
use Rattle.bits.specs.Bits.{AreBits}
use Rattle.field.specs.Product.{IsField}
use Rattle.codes.specs.declared.Code.{Code}
use Rattle.codes.specs.Work.{Known}
use Rattle.codes.specs.Sums.{sum_of}

-- a message of a listed code
pub record MessageOf (c : Code) (message : List ℕ) : Type 0 where
  pub known : Known c
  pub bits : AreBits message
  pub long : length message ≡ c.k

-- a word, and a divisor of degree d whose top place is 1
pub record Divisible (d : ℕ) (g word : List ℕ) : Type 0 where
  pub word_bits : AreBits word
  pub g_bits : AreBits g
  pub g_long : length g ≡ d + 1
  pub g_top : get_or g d 0 ≡ 1
  pub small : length word ≤ 1024
  pub fits : d ≤ length word

-- what is left of the word after division by g of degree d is added below place d: a sum that vanishes for g now vanishes for the word
pub record WithParity (d : ℕ) (g before after : List ℕ) : Type 0 where
  pub bits : AreBits after
  pub above : (i : ℕ) → d ≤ i → get_or after i 0 ≡ get_or before i 0
  pub sums : {m : ℕ} → IsField m → (j : ℕ) → sum_of m j g ≡ 0 → sum_of m j after ≡ 0

-- a stretch that has room in the word from place `at` on and in a message from `start` on
pub record StretchFits (word : List ℕ) (at start : ℕ) (stretch : List ℕ) : Type 0 where
  pub in_word : at + length stretch ≤ length word
  pub in_room : start + length stretch ≤ 1024
  pub small : length word ≤ 1024
  pub word_bits : AreBits word
  pub stretch_bits : AreBits stretch

-- the change of a message, at the front of room for any word: from `start` on, the sum of the stretch and the old bits,
-- which stand in the word from place `at` on; zeros elsewhere
pub record MessageChange (word : List ℕ) (at start : ℕ) (stretch change : List ℕ) : Type 0 where
  pub long : 1024 ≡ length change
  pub bits : AreBits change
  pub within : (i : ℕ) → i < length stretch → get_or change (start + i) 0 ≡ bit_xor (get_or stretch i 0) (get_or word (at + i) 0)
  pub below : (i : ℕ) → i < start → get_or change i 0 ≡ 0
  pub above : (i : ℕ) → start + length stretch ≤ i → get_or change i 0 ≡ 0
