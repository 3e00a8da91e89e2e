-- The bytes of a frame and the word in them.
use mathlib.Core.Path.{◌≡◌, ◌∙◌, sym, ap}
use mathlib.Core.List.{List}
use Prim.Native.Nat.{ℕ, ◌+◌, ◌-◌, ◌*◌, ◌/◌, ◌%◌, ◌≤◌, ◌<◌}
use native.Mathlib.Omega.{arith}
use lib.ListN.{length, get_or}
use Rattle.bits.specs.Bits.{AreBits}
use Rattle.layout.specs.Frame.{sent_bit, place_bit, word_of}
use Rattle.layout.specs.Work.{Gathered, Packed, air_bit}
use Rattle.bits.proofs.Lists.{list_is, bits_list, length_list, list_at}
use Rattle.layout.proofs.FillLaws.{Filling, fill_done}
use Rattle.layout.proofs.SentLaws.{sent_shifted, sent_small, air_place, air_pad}

-- byte b is the number that the word sends in 8 bits from sent number 8 b on
abbrev pub ByteOf : List ℕ → ℕ → ℕ → Type 0
ByteOf word b v = Gathered word (8 * b) 8 v

pub word_long : (frame : List ℕ) → length (word_of frame) ≡ 255
unfolding word_of
word_long frame = length_list 255 (place_bit frame)

pub word_at : (frame : List ℕ) (p : ℕ) → p < 255 → get_or (word_of frame) p 0 ≡ sent_bit frame (254 - p)
unfolding word_of place_bit
word_at frame p h = list_at 255 (place_bit frame) p h

pub word_bits : (frame : List ℕ) → AreBits (word_of frame)
unfolding word_of place_bit
word_bits frame = bits_list 255 (λ p. sent_small frame (254 - p))

pub packed : {word frame : List ℕ} {i : ℕ} → length word ≡ 255 → Filling (ByteOf word) 32 frame i → 32 ≤ i → Packed word frame
unfolding place_bit word_of
packed {word} {frame} {i} l f h =
    record { long = f.long; bytes = λ b k. (byte b k).digits.below; pad = sent 255 (omega arith) ∙ air_pad word (omega arith); is_word = sym whole }
  where
    byte : (b : ℕ) → b < 32 → ByteOf word b (get_or frame b 0)
    byte = fill_done f h

    sent : (q : ℕ) → q < 256 → sent_bit frame q ≡ air_bit word q
    sent q k =
        let e : 8 * (q / 8) + q % 8 ≡ q = omega arith in
        sent_shifted frame q ∙ (byte (q / 8) (omega arith)).digits.at (q % 8) (omega arith) ∙ ap (air_bit word) e

    place : (p : ℕ) → p < 255 → get_or word p 0 ≡ place_bit frame p
    place p k =
        let e : 254 - (254 - p) ≡ p = omega arith in
        sym (sent (254 - p) (omega arith) ∙ air_place word (omega arith) ∙ ap (λ (x : ℕ). get_or word x 0) e)

    whole : word ≡ word_of frame
    whole = list_is 255 (place_bit frame) word l place
