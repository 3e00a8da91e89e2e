-- A word with its parity: every sum that vanishes for the generator vanishes for it.
use mathlib.Core.Path.{◌≡◌, ◌∙◌, sym, ap, subst}
use mathlib.Core.List.{List}
use Prim.Native.Nat.{ℕ, ◌+◌, ◌-◌, ◌≤◌, ◌<◌}
use native.Mathlib.Decide.{dec_lt}
use native.Mathlib.Omega.{arith}
use lib.ListN.{length, get_or, take, replicate, get_or-eq_default, length-replicate}
use lib.Seq.{get_or-take, length-take-le, paste}
use Rattle.bits.specs.Bits.{AreBits}
use Rattle.bits.specs.Work.{added_at}
use Rattle.bits.proofs.BitLaws.{bits_take, bits_added_at, added_at-zero, added_at_after}
use Rattle.bits.proofs.Turns.{paste_at}
use Rattle.field.specs.Sum.{◌⊕◌}
use Rattle.field.specs.Product.{IsField}
use Rattle.field.proofs.SumLaws.{sum_self}
use Rattle.codes.specs.Table.{ts}
use Rattle.codes.specs.declared.Code.{Code}
use Rattle.codes.specs.Sums.{sum_of}
use Rattle.codes.proofs.SumLaws.{sum_same, sum_added}
use Rattle.codes.specs.Encoding.{Encoding}
use Rattle.generator.specs.Generator.{Generator}
use Rattle.generator.specs.Work.{Reduced}
use Rattle.parity.specs.Work.{MessageOf, WithParity}

-- cutting off what is zero changes nothing
cut_same : (left : List ℕ) (d : ℕ) → d ≤ length left → ((i : ℕ) → d ≤ i → get_or left i 0 ≡ 0) → (i : ℕ) → get_or (take d left) i 0 ≡ get_or left i 0
cut_same left d h z i = pick (dec_lt i d)
  where
    pick : Dec (i < d) → get_or (take d left) i 0 ≡ get_or left i 0
    pick (yes k) = get_or-take d left i 0 k
    pick (no n) = get_or-eq_default (take d left) 0 {n = i} (omega (arith, length-take-le d left h)) ∙ sym (z i (omega arith))

pub with_parity : {d : ℕ} {g before left after : List ℕ} → AreBits before → Reduced d g before left → length left ≡ length before → d ≤ length before
    → after ≡ added_at before 0 (take d left) → WithParity d g before after
with_parity {d} {g} {before} {left} {after} b r l h e =
    subst (WithParity d g before) (sym e)
    (record {
      bits = bits_added_at 0 b (bits_take d r.bits);
      above = λ i k. added_at_after before 0 (take d left) i (omega (arith, length-take-le d left (omega (arith, l))));
      sums = sums;
    })
  where
    short : length (take d left) ≡ d
    short = length-take-le d left (omega (arith, l))

    sums : {m : ℕ} → IsField m → (j : ℕ) → sum_of m j g ≡ 0 → sum_of m j (added_at before 0 (take d left)) ≡ 0
    sums {m} L j z =
        ap (sum_of m j) (added_at-zero before (take d left))
        ∙ sum_added L j before (take d left) b (bits_take d r.bits) (omega (arith, short))
        ∙ ap (λ (s : ℕ). sum_of m j before ⊕ s) (sum_same m j (take d left) left (cut_same left d (omega (arith, l)) r.left) ∙ r.sums L j z)
        ∙ sum_self (sum_of m j before)

-- the word with the message on top and its parity below is the message's encoding
pub encoded : {c : Code} {g message before word : List ℕ} → MessageOf c message → before ≡ paste (replicate c.n 0) (c.n - c.k) message (length message)
    → Generator c.m (get_or ts c.row 0) (c.n - c.k) g → WithParity (c.n - c.k) g before word → length word ≡ c.n
    → Encoding c.m c.t c.k message word
encoded {c} {g} {message} {before} {word} M b G p l =
    let K = M.known in
    record {
      code_word = record { long = l ∙ K.is_n; bits = p.bits; sums = λ j a b. p.sums K.of_m.listed j (G.sums j a (omega (arith, K.is_t))) };
      carries = λ i h.
          ap (λ (x : ℕ). get_or word (x - c.k + i) 0) (sym K.is_n) ∙ p.above (c.n - c.k + i) (omega arith)
          ∙ ap (λ (xs : List ℕ). get_or xs (c.n - c.k + i) 0) b
          ∙ paste_at (replicate c.n 0) (c.n - c.k) message i (omega (arith, length-replicate {A = ℕ} c.n 0)) (omega (arith, M.long));
    }
