-- What else is shown of a generator and of an encoding.
use mathlib.Core.Path.{◌≡◌, ◌∙◌, sym, ap}
use mathlib.Core.List.{List, ◌++◌}
use Prim.Native.Nat.{ℕ, ◌+◌, ◌-◌, ◌≤◌, ◌<◌}
use native.Mathlib.Decide.{dec_lt}
use native.Mathlib.Omega.{arith}
use lib.ListN.{length, get_or, take, replicate, length-take, get_or-eq_default}
use lib.Seq.{get_or-take}
use Rattle.bits.specs.Bits.{AreBits}
use Rattle.bits.specs.Polynomial.{product_bits}
use Rattle.field.specs.Sum.{◌⊕◌}
use Rattle.field.specs.Power.{n_of}
use Rattle.field.proofs.SumLaws.{sum-zero, sum_self}
use Rattle.codes.specs.Table.{ks, ts}
use Rattle.codes.specs.Rows.{RowOf}
use Rattle.codes.specs.Sums.{CodeWord}
use Rattle.codes.proofs.Rows.{row_facts}
use Rattle.codes.proofs.Unique.{roots_of_row}
use Rattle.codes.specs.Encoding.{Encoding}
use Rattle.generator.specs.Generator.{Generator}
use Rattle.generator.specs.Factors.{generator_of}
use Rattle.generator.proofs.GeneratorLaws.{generator_is_product}
use Rattle.generator.proofs.Taps.{delayed_before, delayed_at}
use Rattle.generator.proofs.Multiple.{multiple}

module _ {m row : ℕ} (w : RowOf m row) where
  -- the generator is the product of the minimal polynomials of the rows up to its own, which are those of a, a^3, .. a^(2t-1) (generator, Factors)
  pub generator_product : (g : List ℕ) → Generator m (get_or ts row 0) (n_of m - get_or ks row 0) g → (i : ℕ) → get_or g i 0 ≡ get_or (generator_of m row) i 0
  generator_product g G = generator_is_product w g G

  -- every code word is a multiple of the generator
  word_multiple : {g c : List ℕ} → Generator m (get_or ts row 0) (n_of m - get_or ks row 0) g → CodeWord m (get_or ts row 0) c
      → (q : List ℕ) × AreBits q × ((i : ℕ) → get_or c i 0 ≡ get_or (product_bits q g) i 0)
  word_multiple {g} {c} G C = multiple w.listed (roots_of_row w).1 G c C.bits C.sums

-- r is the remainder of c by g of degree d: c is a multiple of g and r, and r is 0 from place d on
pub record Remainder (d : ℕ) (g c r : List ℕ) : Type 0 where
  pub quotient : List ℕ
  pub quotient_bits : AreBits quotient
  pub below : (i : ℕ) → d ≤ i → get_or r i 0 ≡ 0
  pub whole : (i : ℕ) → get_or c i 0 ≡ get_or (product_bits quotient g) i 0 ⊕ get_or r i 0

module _ {m row : ℕ} (w : RowOf m row) {message word : List ℕ} (long : length message ≡ get_or ks row 0)
    (E : Encoding m (get_or ts row 0) (get_or ks row 0) message word) where
  -- x^(n-k) times the message is the word without its parity
  message_part : (i : ℕ) → get_or (replicate (n_of m - get_or ks row 0) 0 ++ message) i 0 ≡ get_or word i 0 ⊕ get_or (take (n_of m - get_or ks row 0) word) i 0
  message_part i = pick (dec_lt i (n_of m - get_or ks row 0)) (dec_lt i (n_of m))
    where
      d : ℕ
      d = n_of m - get_or ks row 0

      short : length (take d word) ≤ d
      short = omega (arith, length-take d word)

      fits : get_or ks row 0 ≤ n_of m
      fits = omega (arith, (row_facts w).falling, (row_facts w).within)

      back : d ≤ i → d + (i - d) ≡ i
      back h = omega arith

      upper : d ≤ i → get_or word i 0 ⊕ get_or (take d word) i 0 ≡ get_or word i 0
      upper h = ap (λ (x : ℕ). get_or word i 0 ⊕ x) (get_or-eq_default (take d word) 0 {n = i} (omega (arith, short))) ∙ sum-zero (get_or word i 0)

      pick : Dec (i < d) → Dec (i < n_of m) → get_or (replicate d 0 ++ message) i 0 ≡ get_or word i 0 ⊕ get_or (take d word) i 0
      pick (yes h) b = delayed_before d message i h ∙ sym (ap (λ (x : ℕ). get_or word i 0 ⊕ x) (get_or-take d word i 0 h) ∙ sum_self (get_or word i 0))
      pick (no n) (yes h) =
          delayed_at d message i (omega arith) ∙ sym (E.carries (i - d) (omega (arith, fits))) ∙ ap (λ (x : ℕ). get_or word x 0) (back (omega arith))
          ∙ sym (upper (omega arith))
      pick (no n) (no l) =
          delayed_at d message i (omega arith) ∙ get_or-eq_default message 0 {n = i - d} (omega (arith, long, fits))
          ∙ sym (upper (omega arith) ∙ get_or-eq_default word 0 {n = i} (omega (arith, E.code_word.long)))

  -- the parity is the remainder of x^(n-k) times the message by the generator
  pub parity_remainder : {g : List ℕ} → Generator m (get_or ts row 0) (n_of m - get_or ks row 0) g
      → Remainder (n_of m - get_or ks row 0) g (replicate (n_of m - get_or ks row 0) 0 ++ message) (take (n_of m - get_or ks row 0) word)
  parity_remainder {g} G =
      let q = word_multiple w G E.code_word in
      record {
        quotient = q.0;
        quotient_bits = q.1;
        below = λ i h. get_or-eq_default (take (n_of m - get_or ks row 0) word) 0 {n = i} (omega (arith, length-take (n_of m - get_or ks row 0) word));
        whole = λ i. message_part i ∙ ap (λ (x : ℕ). x ⊕ get_or (take (n_of m - get_or ks row 0) word) i 0) (q.2 i);
      }
