-- What the steps of making and reading a frame hand to each other; no promise rests on it.
use Rattle.std.specs.Prelude.{◌≡◌, cond, List, ℕ, ◌+◌, ◌-◌, ◌/◌, ◌%◌, ◌^◌, ◌<◌, ltb, length, get_or}
use Rattle.layout.specs.Frame.{sent_bit, word_of}

-- the bit that a word sends under number q, 0 for the pad
unfoldable pub air_bit : List ℕ → ℕ → ℕ
air_bit word q = cond (ltb q 255) (get_or word (254 - q) 0) 0

-- the digits of v below 2^n, highest first, are f 0, f 1, ..
pub record Digits (f : ℕ → ℕ) (n v : ℕ) : Type 0 where
  pub below : v < 2 ^ n
  pub at : (j : ℕ) → j < n → v / 2 ^ (n - 1 - j) % 2 ≡ f j

abbrev pub sent_from : List ℕ → ℕ → ℕ → ℕ
sent_from word from j = air_bit word (from + j)

-- v is the number that a word sends in n bits from this sent number on
pub record Gathered (word : List ℕ) (from n v : ℕ) : Type 0 where
  pub digits : Digits (sent_from word from) n v

-- the frame holds the word, and the pad is 0
pub record Packed (word frame : List ℕ) : Type 0 where
  pub long : length frame ≡ 32
  pub bytes : (b : ℕ) → b < 32 → get_or frame b 0 < 256
  pub pad : sent_bit frame 255 ≡ 0
  pub is_word : word_of frame ≡ word
