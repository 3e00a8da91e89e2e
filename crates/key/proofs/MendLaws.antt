-- The plain sums of products that one step of the run works with.
use mathlib.Core.Path.{◌≡◌, ◌∙◌, refl, sym, ap, ap₂}
use mathlib.Core.List.{List, ◌++◌}
use Prim.Native.Nat.{ℕ, suc, ◌+◌, ◌-◌, ◌≤◌, ◌<◌}
use native.Mathlib.Numerals.{add-one}
use native.Mathlib.Decide.{dec_lt}
use native.Mathlib.Omega.{arith}
use lib.Bits.{bit_xor}
use lib.ListN.{length, get_or, set, replicate, length-replicate, get_or-append}
use lib.Seq.{get_or-append-add}
use Rattle.bits.proofs.BitLaws.{zeros_at}
use Rattle.field.specs.Sum.{◌⊕◌}
use Rattle.field.specs.Product.{◌⊗⟨◌⟩◌}
use Rattle.field.proofs.SumLaws.{sum-zero}
use Rattle.field.proofs.ProductLaws.{product-zero}
use Rattle.entries.specs.Entries.{Filled}
use Rattle.key.specs.Work.{plus_moved, crossed}
use Rattle.field.proofs.SumLaws.{xor-sum}
use Rattle.entries.proofs.FillLaws.{fill_from, fill_next}

-- the length of the room that space gives
pub space_long : {xs : List ℕ} → xs ≡ replicate 257 0 → length xs ≡ 257
space_long e = ap length e ∙ length-replicate {A = ℕ} 257 0

pub crossed-zero : (m : ℕ) (sigma all : List ℕ) (r : ℕ) → crossed m sigma all r 0 ≡ 0
unfolding crossed
crossed-zero m sigma all r = refl

pub crossed-suc : (m : ℕ) (sigma all : List ℕ) (r c : ℕ)
    → crossed m sigma all r (suc c) ≡ crossed m sigma all r c ⊕ get_or sigma c 0 ⊗⟨ m ⟩ get_or all (r - c) 0
unfolding crossed
crossed-suc m sigma all r c = refl

-- the products before i are added
pub record Crossing (m r l : ℕ) (sigma all : List ℕ) (d i : ℕ) : Type 0 where
  pub within : i ≤ l + 1
  pub is : d ≡ crossed m sigma all r i

pub crossing_start : (m r l : ℕ) (sigma all : List ℕ) → Crossing m r l sigma all 0 0
crossing_start m r l sigma all = record { within = omega arith; is = sym (crossed-zero m sigma all r) }

pub crossing_next : {m r l i d s : ℕ} {sigma all : List ℕ} → Crossing m r l sigma all d i → i ≤ l
    → s ≡ get_or sigma i 0 ⊗⟨ m ⟩ get_or all (r - i) 0 → Crossing m r l sigma all (bit_xor d s) (i + 1)
crossing_next {m} {r} {l} {i} {d} {s} {sigma} {all} w h f =
    record {
      within = omega arith;
      is = xor-sum d s ∙ ap₂ (λ x y. x ⊕ y) w.is f ∙ sym (ap (crossed m sigma all r) (add-one i) ∙ crossed-suc m sigma all r i);
    }

pub crossing_done : {m r l i d : ℕ} {sigma all : List ℕ} → Crossing m r l sigma all d i → l < i → d ≡ crossed m sigma all r (l + 1)
crossing_done {m} {r} {l} {i} {sigma = sigma} {all} w h = w.is ∙ ap (crossed m sigma all r) end
  where
    end : i ≡ l + 1
    end = omega (arith, w.within)

-- what stands at a place of b moved up by gap places

pub moved_before : (gap : ℕ) (b : List ℕ) (i : ℕ) → i < gap → get_or (replicate gap 0 ++ b) i 0 ≡ 0
moved_before gap b i h = get_or-append (replicate gap 0) b 0 i (omega (arith, length-replicate {A = ℕ} gap 0)) ∙ zeros_at gap i

pub moved_at : (gap : ℕ) (b : List ℕ) (i : ℕ) → gap ≤ i → get_or (replicate gap 0 ++ b) i 0 ≡ get_or b (i - gap) 0
moved_at gap b i h =
    let k : i ≡ length (replicate {A = ℕ} gap 0) + (i - gap) = omega (arith, length-replicate {A = ℕ} gap 0) in
    ap (λ (j : ℕ). get_or (replicate gap 0 ++ b) j 0) k ∙ get_or-append-add (replicate gap 0) b (i - gap) 0

pub record Mending (m factor gap count : ℕ) (b before after : List ℕ) (i : ℕ) : Type 0 where
  pub from : gap ≤ i
  pub stays : count < i → i ≡ gap
  pub filled : Filled (plus_moved m factor gap b before) i before after

unmoved : (m factor gap : ℕ) (b before : List ℕ) (i : ℕ) → i < gap → get_or before i 0 ≡ get_or before i 0 ⊕ factor ⊗⟨ m ⟩ get_or (replicate gap 0 ++ b) i 0
unmoved m factor gap b before i h =
    sym
    (ap (λ z. get_or before i 0 ⊕ factor ⊗⟨ m ⟩ z) (moved_before gap b i h) ∙ ap (λ z. get_or before i 0 ⊕ z) (product-zero m factor)
    ∙ sum-zero (get_or before i 0))

pub mending_start : (m factor gap count : ℕ) (b before : List ℕ) → Mending m factor gap count b before before gap
mending_start m factor gap count b before =
    record { from = omega arith; stays = λ h. refl; filled = fill_from _ gap before (unmoved m factor gap b before) }

pub mending_next : {m factor gap count i s : ℕ} {b before after : List ℕ} → Mending m factor gap count b before after i → i < count → count ≤ length before
    → s ≡ factor ⊗⟨ m ⟩ get_or b (i - gap) 0 → Mending m factor gap count b before (set after i (bit_xor (get_or after i 0) s)) (i + 1)
mending_next {m} {factor} {gap} {count} {i} {s} {b} {before} {after} w h l e =
    record {
      from = omega (arith, w.from);
      stays = λ k. absurd (omega arith);
      filled = fill_next w.filled (omega arith)
          (xor-sum (get_or after i 0) s
          ∙ ap₂ (λ x y. x ⊕ y) (w.filled.rest i (omega arith)) (e ∙ ap (λ z. factor ⊗⟨ m ⟩ z) (sym (moved_at gap b i w.from))));
    }

pub mending_done : {m factor gap count i : ℕ} {b before after : List ℕ} → Mending m factor gap count b before after i → count ≤ i
    → Filled (plus_moved m factor gap b before) count before after
mending_done {m} {factor} {gap} {count} {i} {b} {before} {after} w h =
    record { same = w.filled.same; holds = λ j k. w.filled.holds j (omega arith); rest = λ j k. past j k (dec_lt j i) }
  where
    past : (j : ℕ) → count ≤ j → Dec (j < i) → get_or after j 0 ≡ get_or before j 0
    past j k (yes g) = w.filled.holds j g ∙ sym (unmoved m factor gap b before j (omega (arith, w.stays (omega arith))))
    past j k (no n) = w.filled.rest j (omega arith)
