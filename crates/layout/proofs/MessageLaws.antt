-- The message of a reading, field by field.
use mathlib.Core.Path.{◌≡◌}
use Prim.Native.Nat.{ℕ, zero, suc, ◌-◌, ◌/◌, ◌%◌, ◌^◌, ◌≤◌, ◌<◌}
use native.Mathlib.Decide.{dec_lt}
use native.Mathlib.Omega.{arith}
use borrow.Author.Tests.{lt-ltb, le-ltb}
use lib.ListN.{length, get_or}
use Rattle.bits.specs.Bits.{AreBits}
use Rattle.layout.specs.Frame.{lead, message_bit, message_of}
use Rattle.layout.specs.declared.message.Reading.{Reading}
use Rattle.bits.proofs.Lists.{bits_list, length_list, list_at}

lead_small : (q : ℕ) → get_or lead q 0 ≤ 1
unfolding lead
lead_small zero = omega arith
lead_small (suc zero) = omega arith
lead_small (suc (suc zero)) = omega arith
lead_small (suc (suc (suc q))) = omega arith

module _ (reading : Reading) where
  pub message_counter : {i : ℕ} → i < 64 → message_bit reading i ≡ reading.counter / 2 ^ i % 2
  unfolding message_bit
  message_counter {i} h = rw (lt-ltb i 64 h)

  pub message_poll : {i : ℕ} → 64 ≤ i → i < 80 → message_bit reading i ≡ reading.poll / 2 ^ (i - 64) % 2
  unfolding message_bit
  message_poll {i} h l = rw (le-ltb i 64 h, lt-ltb i 80 l)

  pub message_house : {i : ℕ} → 80 ≤ i → i < 96 → message_bit reading i ≡ reading.house / 2 ^ (i - 80) % 2
  unfolding message_bit
  message_house {i} h l =
      let k : 64 ≤ i = omega arith in
      rw (le-ltb i 64 k, le-ltb i 80 h, lt-ltb i 96 l)

  pub message_lead : {i : ℕ} → 96 ≤ i → message_bit reading i ≡ get_or lead (98 - i) 0
  unfolding message_bit
  message_lead {i} h =
      let k : 64 ≤ i = omega arith in
      let l : 80 ≤ i = omega arith in
      rw (le-ltb i 64 k, le-ltb i 80 l, le-ltb i 96 h)

  pub message_small : (i : ℕ) → message_bit reading i ≤ 1
  message_small i = pick (dec_lt i 64) (dec_lt i 80) (dec_lt i 96)
    where
      pick : Dec (i < 64) → Dec (i < 80) → Dec (i < 96) → message_bit reading i ≤ 1
      pick (yes h) b d = rw (message_counter h) (omega arith)
      pick (no a) (yes h) d = rw (message_poll {i = i} (omega arith) h) (omega arith)
      pick (no a) (no b) (yes h) = rw (message_house {i = i} (omega arith) h) (omega arith)
      pick (no a) (no b) (no d) = rw (message_lead {i = i} (omega arith)) (lead_small (98 - i))

  pub message_bits : AreBits (message_of reading)
  unfolding message_of
  message_bits = bits_list 99 message_small

  pub message_long : length (message_of reading) ≡ 99
  unfolding message_of
  message_long = length_list 99 (message_bit reading)

  pub message_at : (i : ℕ) → i < 99 → get_or (message_of reading) i 0 ≡ message_bit reading i
  unfolding message_of
  message_at i h = list_at 99 (message_bit reading) i h
