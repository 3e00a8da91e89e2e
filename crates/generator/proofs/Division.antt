-- One turn of the division by a generator.
use mathlib.Core.Path.{◌≡◌, ◌∙◌, refl, ap, ap₂}
use mathlib.Core.List.{List}
use Prim.Native.Nat.{ℕ, ◌+◌, ◌-◌, ◌*◌, ◌≤◌, ◌<◌}
use native.Mathlib.Decide.{ℕ_discrete}
use native.Mathlib.Omega.{arith}
use lib.Bits.{bit_xor}
use lib.ListN.{length, get_or}
use Rattle.bits.specs.Bits.{AreBits}
use Rattle.bits.specs.Work.{added_at}
use Rattle.bits.proofs.BitLaws.{bits_added_at, added_at_at, added_at_after}
use Rattle.field.specs.Sum.{◌⊕◌}
use Rattle.field.specs.Product.{IsField, ◌⊗⟨◌⟩◌}
use Rattle.field.specs.Power.{a, power}
use Rattle.field.proofs.SumLaws.{sum-zero}
use Rattle.field.proofs.ProductLaws.{product-zero}
use Rattle.codes.specs.Sums.{sum_of}
use Rattle.codes.proofs.SumLaws.{sum-added_at}
use Rattle.generator.specs.Work.{TakenAway, Reduced}

module _ {word g : List ℕ} {d i : ℕ} (W : AreBits word) (G : AreBits g) (long : length g ≡ d + 1) (above : d ≤ i) (within : i < length word) where
  pub taken_away : get_or g d 0 ≡ 1 → get_or word i 0 ≡ 1 → TakenAway d g i word (added_at word (i - d) g)
  taken_away top one =
      record {
        bits = bits_added_at (i - d) W G;
        here = added_at_at word (i - d) g i (omega arith) within ∙ ap₂ bit_xor one (ap (λ (p : ℕ). get_or g p 0) back ∙ top);
        above = λ h k. added_at_after word (i - d) g h (omega (arith, long));
        sums = λ {m} L j z.
            sum-added_at L j word (i - d) g W G (omega (arith, long))
            ∙ ap (λ (s : ℕ). sum_of m j word ⊕ s) (ap (λ (s : ℕ). power m a ((i - d) * j) ⊗⟨ m ⟩ s) z ∙ product-zero m (power m a ((i - d) * j)))
            ∙ sum-zero (sum_of m j word);
      }
    where
      back : i - (i - d) ≡ d
      back = omega arith

  pub left_alone : (get_or word i 0 ≡ 1 → ⊥) → TakenAway d g i word word
  left_alone n = record { bits = W; here = zero (W.at i); above = λ h k. refl; sums = λ L j z. refl }
    where
      zero : get_or word i 0 ≤ 1 → get_or word i 0 ≡ 0
      zero h = omega arith

-- from the top down to place i nothing is left
pub record Down (d : ℕ) (g first word : List ℕ) (i : ℕ) : Type 0 where
  pub bits : AreBits word
  pub same : length word ≡ length first
  pub left : (h : ℕ) → i ≤ h → get_or word h 0 ≡ 0
  pub sums : {m : ℕ} → IsField m → (j : ℕ) → sum_of m j g ≡ 0 → sum_of m j word ≡ sum_of m j first

pub down : {d i : ℕ} {g first word after : List ℕ} → Down d g first word i → 0 < i → TakenAway d g (i - 1) word after
    → length after ≡ length word → Down d g first after (i - 1)
down {i = i} {after = after} s p t l =
    record {
      bits = t.bits;
      same = l ∙ s.same;
      left = λ h k. at h k (ℕ_discrete h (i - 1));
      sums = λ L j z. t.sums L j z ∙ s.sums L j z;
    }
  where
    at : (h : ℕ) → i - 1 ≤ h → Dec (h ≡ i - 1) → get_or after h 0 ≡ 0
    at h k (yes e) = ap (λ (q : ℕ). get_or after q 0) e ∙ t.here
    at h k (no n) = t.above h (omega arith) ∙ s.left h (omega arith)

pub reduced : {d i : ℕ} {g first word : List ℕ} → Down d g first word i → i ≤ d → Reduced d g first word
reduced s h = record { bits = s.bits; left = λ i k. s.left i (omega arith); sums = s.sums }
