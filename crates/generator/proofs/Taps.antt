-- A product with a short polynomial, one digit after the other.
use mathlib.Core.Path.{◌≡◌, ◌∙◌, sym, ap, ap₂}
use mathlib.Core.List.{List, ◌++◌}
use Prim.Native.Nat.{ℕ, ◌+◌, ◌-◌, ◌*◌, ◌/◌, ◌%◌, ◌^◌, ◌≤◌, ◌<◌}
use native.Mathlib.Nat.{zero-mul, one-mul, mul-zero}
use native.Mathlib.Numerals.{add-one}
use native.Mathlib.Decide.{dec_lt}
use native.Mathlib.Omega.{arith}
use lib.ListN.{length, get_or, take, replicate, length-replicate, get_or-append}
use lib.Seq.{get_or-append-add, get_or-take}
use Rattle.bits.specs.Bits.{AreBits}
use Rattle.bits.specs.Work.{added_at}
use Rattle.bits.specs.Polynomial.{product_bits}
use Rattle.bits.proofs.BitLaws.{bits_replicate, bits_take, bits_added_at, added_at_before, zeros_at}
use Rattle.field.specs.Sum.{◌⊕◌}
use Rattle.field.proofs.SumLaws.{sum-zero}
use Rattle.codes.proofs.SumLaws.{sum_place}
use Rattle.generator.specs.Factors.{binary}
use Rattle.generator.specs.Work.{Tapped, Multiplied}
use Rattle.generator.proofs.Binary.{binary-zero, binary_more, length-binary}
use Rattle.generator.proofs.ProductPlaces.{product_none, product_snoc}

-- what stands at a place of old moved up by e places
pub delayed_before : (e : ℕ) (old : List ℕ) (i : ℕ) → i < e → get_or (replicate e 0 ++ old) i 0 ≡ 0
delayed_before e old i h = get_or-append (replicate e 0) old 0 i (omega (arith, length-replicate {A = ℕ} e 0)) ∙ zeros_at e i

pub delayed_at : (e : ℕ) (old : List ℕ) (i : ℕ) → e ≤ i → get_or (replicate e 0 ++ old) i 0 ≡ get_or old (i - e) 0
delayed_at e old i h =
    let k : i ≡ length (replicate {A = ℕ} e 0) + (i - e) = omega (arith, length-replicate {A = ℕ} e 0) in
    ap (λ (j : ℕ). get_or (replicate e 0 ++ old) j 0) k ∙ get_or-append-add (replicate e 0) old (i - e) 0

module _ {g old : List ℕ} (p e : ℕ) (G : AreBits g) (O : AreBits old) (same : length old ≡ length g) where
  pub tap_skipped : p / 2 ^ e % 2 ≡ 0 → Tapped p e old g g
  tap_skipped z =
      record {
        bits = G;
        holds = λ i h. sym
            (ap (λ (d : ℕ). get_or g i 0 ⊕ d * get_or (replicate e 0 ++ old) i 0) z
            ∙ ap (λ (x : ℕ). get_or g i 0 ⊕ x) (zero-mul (get_or (replicate e 0 ++ old) i 0)) ∙ sum-zero (get_or g i 0));
      }

  pub tap_past : length g ≤ e → Tapped p e old g g
  tap_past l =
      record {
        bits = G;
        holds = λ i h. sym
            (ap (λ (x : ℕ). get_or g i 0 ⊕ p / 2 ^ e % 2 * x) (delayed_before e old i (omega arith))
            ∙ ap (λ (x : ℕ). get_or g i 0 ⊕ x) (mul-zero (p / 2 ^ e % 2)) ∙ sum-zero (get_or g i 0));
      }

  pub tap_added : p / 2 ^ e % 2 ≡ 1 → e < length g → Tapped p e old g (added_at g e (take (length g - e) old))
  tap_added one l = record { bits = bits_added_at e G (bits_take (length g - e) O); holds = λ i h. at i h (dec_lt i e) }
    where
      digit : (i : ℕ) → get_or g i 0 ⊕ get_or (replicate e 0 ++ old) i 0 ≡ get_or g i 0 ⊕ p / 2 ^ e % 2 * get_or (replicate e 0 ++ old) i 0
      digit i = ap (λ (x : ℕ). get_or g i 0 ⊕ x) (sym (ap (λ (d : ℕ). d * get_or (replicate e 0 ++ old) i 0) one ∙ one-mul (get_or (replicate e 0 ++ old) i 0)))

      at : (i : ℕ) → i < length g → Dec (i < e)
          → get_or (added_at g e (take (length g - e) old)) i 0 ≡ get_or g i 0 ⊕ p / 2 ^ e % 2 * get_or (replicate e 0 ++ old) i 0
      at i h (yes b) =
          added_at_before g e (take (length g - e) old) i b ∙ sym (sum-zero (get_or g i 0))
          ∙ ap (λ (x : ℕ). get_or g i 0 ⊕ x) (sym (delayed_before e old i b)) ∙ digit i
      at i h (no n) =
          added_at-sum i h (omega arith)
          ∙ ap (λ (x : ℕ). get_or g i 0 ⊕ x) (get_or-take (length g - e) old (i - e) 0 (omega arith) ∙ sym (delayed_at e old i (omega arith))) ∙ digit i
        where
          added_at-sum : (i : ℕ) → i < length g → e ≤ i
              → get_or (added_at g e (take (length g - e) old)) i 0 ≡ get_or g i 0 ⊕ get_or (take (length g - e) old) (i - e) 0
          added_at-sum i h k = sum_place g e (take (length g - e) old) i k h

-- the digits below e are worked in
pub record Taps (p : ℕ) (old g : List ℕ) (e : ℕ) : Type 0 where
  pub bits : AreBits g
  pub same : length g ≡ length old
  pub within : e ≤ 11
  pub holds : (i : ℕ) → i < length old → get_or g i 0 ≡ get_or (product_bits (binary e p) old) i 0

pub taps_start : (p : ℕ) (old g : List ℕ) → g ≡ replicate (length old) 0 → Taps p old g 0
taps_start p old g z =
    record {
      bits = rw z (bits_replicate (length old));
      same = ap length z ∙ length-replicate {A = ℕ} (length old) 0;
      within = omega arith;
      holds =
          λ i h. ap (λ (l : List ℕ). get_or l i 0) z ∙ zeros_at (length old) i
          ∙ sym (ap (λ (l : List ℕ). get_or (product_bits l old) i 0) (binary-zero p) ∙ product_none old i);
    }

pub taps_next : {p e : ℕ} {old g after : List ℕ} → Taps p old g e → e < 11 → Tapped p e old g after → length after ≡ length g → Taps p old after (e + 1)
taps_next {p} {e} {old} {g} {after} s h t l =
    record { bits = t.bits; same = l ∙ s.same; within = omega arith; holds = more }
  where
    more : (i : ℕ) → i < length old → get_or after i 0 ≡ get_or (product_bits (binary (e + 1) p) old) i 0
    more i k =
        t.holds i (omega (arith, s.same))
        ∙ ap₂ (λ (x y : ℕ). x ⊕ p / 2 ^ e % 2 * get_or (replicate y 0 ++ old) i 0) (s.holds i k) (sym (length-binary e p))
        ∙ sym
        (ap (λ (l : List ℕ). get_or (product_bits l old) i 0) (ap (λ (n : ℕ). binary n p) (add-one e) ∙ binary_more e p)
        ∙ product_snoc (binary e p) (p / 2 ^ e % 2) old i)

pub taps_done : {p e : ℕ} {old g : List ℕ} → Taps p old g e → 11 ≤ e → Multiplied p old g
taps_done {p} {e} {old} {g} s h =
    record { bits = s.bits; holds = λ i k. s.holds i k ∙ ap (λ (n : ℕ). get_or (product_bits (binary n p) old) i 0) eleven }
  where
    eleven : e ≡ 11
    eleven = omega (arith, s.within)
