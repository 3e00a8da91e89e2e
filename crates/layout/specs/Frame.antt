-- The reading frame. docs/SCOPE.md 6.1: "Sent number q, 0 to 254, is place 254 - q. It stands in byte q/8, with the weight 128 shifted right by q mod 8.
-- Sent number 255 is a pad, 0".
use Rattle.std.specs.Prelude.{◌≡◌, Bool, cond, not, ◌||◌, List, [], ◌∷◌, ℕ, ◌+◌, ◌-◌, ◌/◌, ◌%◌, ◌^◌, ◌<◌, ltb, eqb, get_or}
use Rattle.bits.specs.Bits.{list_of}
use Rattle.layout.specs.declared.message.Reading.{Reading}

-- the bit of a frame with sent number q
unfoldable pub sent_bit : List ℕ → ℕ → ℕ
sent_bit frame q = get_or frame (q / 8) 0 / (128 / 2 ^ (q % 8)) % 2

unfoldable pub place_bit : List ℕ → ℕ → ℕ
place_bit frame p = sent_bit frame (254 - p)

-- the word of a frame, one bit to an entry
unfoldable pub word_of : List ℕ → List ℕ
word_of frame = list_of 255 (place_bit frame)

-- docs/SCOPE.md 6.2: "Every value of the three fields is lawful, zero included": 16, 16 and 64 bits
pub record Lawful (reading : Reading) : Type 0 where
  pub house : reading.house < 2 ^ 16
  pub poll : reading.poll < 2 ^ 16
  pub counter : reading.counter < 2 ^ 64

-- docs/SCOPE.md 6.2: "The lead bits are 1, 0, 1, first sent first." Entry q is the bit with sent number q.
unfoldable pub lead : List ℕ
lead = 1 ∷ 0 ∷ 1 ∷ []

-- docs/SCOPE.md 6.2: "message places 98 to 96 are the lead, 95 to 80 the house, 79 to 64 the poll, 63 to 0 the counter"; message place i has sent number 98 - i
unfoldable pub message_bit : Reading → ℕ → ℕ
message_bit reading i =
    cond (ltb i 64) (reading.counter / 2 ^ i % 2)
    (cond (ltb i 80) (reading.poll / 2 ^ (i - 64) % 2)
    (cond (ltb i 96) (reading.house / 2 ^ (i - 80) % 2) (get_or lead (98 - i) 0)))

unfoldable pub message_of : Reading → List ℕ
message_of reading = list_of 99 (message_bit reading)

-- the message in the top 99 places of a word is that of the reading
pub record Carries (reading : Reading) (word : List ℕ) : Type 0 where
  pub lawful : Lawful reading
  pub message : (i : ℕ) → i < 99 → get_or word (156 + i) 0 ≡ message_bit reading i

-- what a word sends under number q is not that bit of the lead
abbrev pub other_lead : List ℕ → ℕ → Bool
other_lead word q = not (eqb (get_or word (254 - q) 0) (get_or lead q 0))

-- docs/SCOPE.md 5.1: "a decoded frame's lead bits are wrong": one of the three at least
unfoldable pub lead_is_wrong : List ℕ → Bool
lead_is_wrong word = other_lead word 0 || other_lead word 1 || other_lead word 2
