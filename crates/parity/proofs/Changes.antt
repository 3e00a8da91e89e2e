-- The change of a message, made of the stretch and the old bits.
use mathlib.Core.Path.{◌≡◌, ◌∙◌, sym, ap, ap₂, subst}
use mathlib.Core.List.{List}
use Prim.Native.Nat.{ℕ, ◌+◌, ◌-◌, ◌≤◌}
use native.Mathlib.Omega.{arith}
use lib.Bits.{bit_xor, xor_zero_l}
use lib.ListN.{length, get_or, take, drop, replicate, length-drop, length-replicate}
use lib.Seq.{get_or-take, get_or-drop, length-take-le}
use Rattle.bits.specs.Bits.{AreBits}
use Rattle.bits.specs.Work.{added_at}
use Rattle.bits.proofs.BitLaws.{zeros_at, bits_replicate, bits_take, bits_drop, bits_added_at, length-added_at, added_at_before, added_at_from, added_at_after}
use Rattle.parity.specs.Work.{MessageChange}

-- the stretch and the old bits added into zeros are the change of the message
changed : (at start : ℕ) (word stretch : List ℕ) → at + length stretch ≤ length word → start + length stretch ≤ 1024 → AreBits word → AreBits stretch
    → MessageChange word at start stretch (added_at (added_at (replicate 1024 0) start stretch) start (take (length stretch) (drop at word)))
changed at start word stretch room fits b c =
    let zeros : List ℕ = replicate 1024 0 in
    let once : List ℕ = added_at zeros start stretch in
    let old : List ℕ = take (length stretch) (drop at word) in
    let z : length zeros ≡ 1024 = length-replicate {A = ℕ} 1024 0 in
    let l : length once ≡ length zeros = length-added_at zeros start stretch in
    let o : length old ≡ length stretch = length-take-le (length stretch) (drop at word) (omega (arith, length-drop at word)) in
    record {
      long = sym (length-added_at once start old ∙ l ∙ z);
      bits = bits_added_at start (bits_added_at start (bits_replicate 1024) c) (bits_take (length stretch) (bits_drop at b));
      within = λ i h.
          added_at_from once start old i (omega (arith, l, z))
          ∙ ap₂ bit_xor
          (added_at_from zeros start stretch i (omega (arith, z)) ∙ ap (λ (x : ℕ). bit_xor x (get_or stretch i 0)) (zeros_at 1024 (start + i))
          ∙ xor_zero_l (get_or stretch i 0))
          (get_or-take (length stretch) (drop at word) i 0 h ∙ get_or-drop at word i 0);
      below = λ i h. added_at_before once start old i h ∙ added_at_before zeros start stretch i h ∙ zeros_at 1024 i;
      above = λ i h. added_at_after once start old i (omega (arith, o)) ∙ added_at_after zeros start stretch i h ∙ zeros_at 1024 i;
    }

pub message_changed : {at start : ℕ} {word stretch zeros once change : List ℕ} → at + length stretch ≤ length word
    → start + length stretch ≤ 1024 → AreBits word → AreBits stretch
    → zeros ≡ replicate 1024 0 → once ≡ added_at zeros start stretch → change ≡ added_at once start (take (at + length stretch - at) (drop at word))
    → MessageChange word at start stretch change
message_changed {at} {start} {word} {stretch} {zeros} {once} {change} room fits b c u v e =
    let j : at + length stretch - at ≡ length stretch = omega arith in
    subst (MessageChange word at start stretch)
    (sym (e ∙ ap₂ (λ (xs : List ℕ) (n : ℕ). added_at xs start (take n (drop at word))) (v ∙ ap (λ (xs : List ℕ). added_at xs start stretch) u) j))
    (changed at start word stretch room fits b c)
