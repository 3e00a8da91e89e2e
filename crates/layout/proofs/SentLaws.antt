-- Sent bits of a frame and of a word.
use mathlib.Core.Path.{◌≡◌, ap}
use mathlib.Core.List.{List}
use Prim.Native.Nat.{ℕ, ◌-◌, ◌/◌, ◌%◌, ◌^◌, ◌≤◌, ◌<◌}
use native.Mathlib.Decide.{dec_lt}
use native.Mathlib.Omega.{arith}
use borrow.Author.Tests.{lt-ltb, le-ltb}
use lib.ListN.{get_or}
use Rattle.bits.specs.Bits.{AreBits}
use Rattle.layout.specs.Frame.{sent_bit}
use Rattle.layout.specs.Work.{air_bit}
use Rattle.layout.proofs.DigitLaws.{weight}

-- the byte shifted down, and its lowest bit
pub sent_shifted : (frame : List ℕ) (q : ℕ) → sent_bit frame q ≡ get_or frame (q / 8) 0 / 2 ^ (7 - q % 8) % 2
unfolding sent_bit
sent_shifted frame q = ap (λ (w : ℕ). get_or frame (q / 8) 0 / w % 2) (weight (omega arith))

pub sent_small : (frame : List ℕ) (q : ℕ) → sent_bit frame q ≤ 1
unfolding sent_bit
sent_small frame q = omega arith

pub air_place : (word : List ℕ) {q : ℕ} → q < 255 → air_bit word q ≡ get_or word (254 - q) 0
unfolding air_bit
air_place word {q} h = rw (lt-ltb q 255 h)

pub air_pad : (word : List ℕ) {q : ℕ} → 255 ≤ q → air_bit word q ≡ 0
unfolding air_bit
air_pad word {q} h = rw (le-ltb q 255 h)

pub air_small : {word : List ℕ} → AreBits word → (q : ℕ) → air_bit word q ≤ 1
air_small {word} b q = pick (dec_lt q 255)
  where
    pick : Dec (q < 255) → air_bit word q ≤ 1
    pick (yes h) = rw (air_place word h) (b.at (254 - q))
    pick (no n) = rw (air_pad word {q = q} (omega arith)) (omega arith)
