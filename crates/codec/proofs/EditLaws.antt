-- Edit: what the checks leave, the change of the message, and what it makes of the word.
use mathlib.Core.Path.{◌≡◌, ◌∙◌, sym, ap, subst}
use mathlib.Core.List.{List}
use Prim.Native.Nat.{ℕ, ◌+◌, ◌-◌, ◌<◌}
use native.Mathlib.Omega.{arith}
use borrow.Author.Tests.{ltb-false}
use lib.Bits.{bit_xor, xor_zero_r, xor_comm}
use lib.ListN.{length, get_or, take}
use lib.Seq.{get_or-take}
use Rattle.std.specs.Prelude.{Ok}
use Rattle.sheet.specs.Verdict.{verdict}
use Rattle.sheet.proofs.VerdictLaws.{all_pass, same_of}
use Rattle.bits.specs.Bits.{AreBits, added}
use Rattle.bits.specs.Work.{added_at}
use Rattle.bits.proofs.BitLaws.{bits_added, length-added, added_at_lem, added_back, added_at-zero, xor_cancel_bit, bits_of_not_bad}
use Rattle.codes.specs.declared.Code.{Code}
use Rattle.codes.specs.Work.{Known}
use Rattle.codes.specs.Sums.{CodeWord}
use Rattle.codes.specs.Encoding.{Encoding}
use Rattle.parity.specs.Work.{MessageChange}
use Rattle.codec.specs.Edit.{Editing, edit_checks, message_place}
use Rattle.codec.specs.Work.{EditReady}

pub edit_ready : {c : Code} (word : List ℕ) (start : ℕ) (stretch : List ℕ) → Known c → verdict (edit_checks word start stretch c) ≡ Ok tt
    → EditReady c word start stretch
edit_ready {c} word start stretch K e =
    let (input, (end, (bits, (stretch_bits, _)))) = all_pass (edit_checks word start stretch c) e in
    record {
      known = K;
      long = same_of (length word) c.n input;
      ends = ltb-false c.k (start + length stretch) end;
      bits = bits_of_not_bad word bits;
      stretch_bits = bits_of_not_bad stretch stretch_bits;
    }

-- a word to which the code word that carries the change of its message is added
module _ {c : Code} {start : ℕ} {before stretch change : List ℕ} (carrier : List ℕ) {after : List ℕ} (R : EditReady c before start stretch)
    (C : MessageChange before (c.n - c.k + start) start stretch change)
    (E : Encoding c.m c.t c.k (take c.k change) (take c.n carrier)) (e : after ≡ added_at before 0 (take c.n carrier)) where
  is_sum : after ≡ added before (take c.n carrier)
  is_sum = e ∙ added_at-zero before (take c.n carrier)

  -- a message place holds what it held and the change
  place : (i : ℕ) → i < c.k → message_place c after i ≡ bit_xor (message_place c before i) (get_or change i 0)
  place i h =
      ap (λ (xs : List ℕ). message_place c xs i) is_sum
      ∙ added_at_lem before (take c.n carrier) (c.n - c.k + i) (omega (arith, R.long, R.known.within))
      ∙ ap (bit_xor (message_place c before i)) (carried ∙ get_or-take c.k change i 0 h)
    where
      carried : message_place c (take c.n carrier) i ≡ get_or (take c.k change) i 0
      carried = ap (λ (n : ℕ). get_or (take c.n carrier) (n - c.k + i) 0) R.known.is_n ∙ E.carries i h

  kept : (i : ℕ) → i < c.k → get_or change i 0 ≡ 0 → message_place c after i ≡ message_place c before i
  kept i h z = place i h ∙ ap (bit_xor (message_place c before i)) z ∙ xor_zero_r (message_place c before i)

  replaced : (i : ℕ) → i < length stretch → message_place c after (start + i) ≡ get_or stretch i 0
  replaced i h =
      let old : ℕ = message_place c before (start + i) in
      let same : c.n - c.k + start + i ≡ c.n - c.k + (start + i) = omega arith in
      place (start + i) (omega (arith, R.ends))
      ∙ ap (bit_xor old) (C.within i h ∙ ap (λ (p : ℕ). bit_xor (get_or stretch i 0) (get_or before p 0)) same)
      ∙ xor_comm old (bit_xor (get_or stretch i 0) old)
      ∙ xor_cancel_bit (R.stretch_bits.at i) (R.bits.at (c.n - c.k + (start + i)))

  pub edited : Editing c before start stretch after
  edited =
      let carrier-long = E.code_word.long ∙ sym R.known.is_n in
      let back = ap (added before) is_sum ∙ added_back before (take c.n carrier) (R.long ∙ sym carrier-long) R.bits E.code_word.bits in
      record {
        long = ap length is_sum ∙ length-added before (take c.n carrier) ∙ R.long;
        bits = subst AreBits (sym is_sum) (bits_added R.bits E.code_word.bits);
        change = subst (CodeWord c.m c.t) (sym back) E.code_word;
        replaced = replaced;
        below = λ i h. kept i (omega (arith, R.ends)) (C.below i h);
        above = λ i h l. kept i l (C.above i h);
      }
