-- All sums from the odd ones, one turn after the other.
use mathlib.Core.Path.{◌≡◌, ◌∙◌, refl, sym, ap}
use mathlib.Core.List.{List}
use Prim.Native.Nat.{ℕ, ◌+◌, ◌*◌, ◌^◌, ◌≤◌, ◌<◌}
use native.Mathlib.Omega.{arith}
use native.Mathlib.Decide.{ℕ_discrete}
use lib.ListN.{length, get_or, set, length-set}
use lib.Seq.{get_or-set_same, get_or-set_other}
use borrow.Author.Count.{below_more}
use Rattle.field.specs.Product.{IsField, ◌⊗⟨◌⟩◌}
use Rattle.field.proofs.ProductLaws.{product_bound}
use Rattle.key.specs.Work.{Squared}

pub record Squaring (m t : ℕ) (sums first all : List ℕ) (i : ℕ) : Type 0 where
  pub within : i ≤ t
  pub same : length all ≡ length first
  pub odd : (k : ℕ) → k < i → get_or all (2 * k) 0 ≡ get_or sums k 0
  pub even : (k : ℕ) → k < i → get_or all (2 * k + 1) 0 ≡ get_or all k 0 ⊗⟨ m ⟩ get_or all k 0
  pub below : (k : ℕ) → k < 2 * i → get_or all k 0 < 2 ^ m

pub squaring_start : (m t : ℕ) (sums all : List ℕ) → Squaring m t sums all all 0
squaring_start m t sums all =
    record {
      within = omega arith;
      same = refl;
      odd = λ k h. absurd (omega arith);
      even = λ k h. absurd (omega arith);
      below = λ k h. absurd (omega arith);
    }

-- after the first store of a turn
pub squaring_below : {m t i : ℕ} {sums first all : List ℕ} → Squaring m t sums first all i → 2 * i < length first → get_or sums i 0 < 2 ^ m
    → (k : ℕ) → k < 2 * i + 1 → get_or (set all (2 * i) (get_or sums i 0)) k 0 < 2 ^ m
squaring_below {m} {i = i} {sums} {first} {all} s l h k b = pick (ℕ_discrete k (2 * i))
  where
    pick : Dec (k ≡ 2 * i) → get_or (set all (2 * i) (get_or sums i 0)) k 0 < 2 ^ m
    pick (yes e) = rw (e, get_or-set_same all (2 * i) (get_or sums i 0) 0 (omega (arith, s.same))) h
    pick (no n) = rw (get_or-set_other all (2 * i) k (get_or sums i 0) 0 n) (s.below k (omega arith))

pub squaring_next : {m t i v : ℕ} {sums first all : List ℕ} → IsField m → Squaring m t sums first all i → i < t → 2 * t ≤ length first → get_or sums i 0 < 2 ^ m
    → v ≡ get_or (set all (2 * i) (get_or sums i 0)) i 0 ⊗⟨ m ⟩ get_or (set all (2 * i) (get_or sums i 0)) i 0
    → Squaring m t sums first (set (set all (2 * i) (get_or sums i 0)) (2 * i + 1) v) (i + 1)
squaring_next {m} {t} {i} {v} {sums} {first} {all} L s h l b e =
    record {
      within = omega arith;
      same = simp length-set s.same;
      odd =
          below_more _ i (λ k g. after (2 * k) (λ z. omega arith) ∙ before (2 * k) (λ z. omega arith) ∙ s.odd k g)
          (after (2 * i) (λ z. omega arith) ∙ get_or-set_same all (2 * i) (get_or sums i 0) 0 (omega (arith, s.same)));
      even = below_more _ i
          (λ k g. after (2 * k + 1) (λ z. omega arith) ∙ before (2 * k + 1) (λ z. omega arith) ∙ s.even k g
          ∙ ap (λ (z : ℕ). z ⊗⟨ m ⟩ z) (sym (after k (λ z. omega arith) ∙ before k (λ z. omega arith))))
          (top ∙ e ∙ ap (λ (z : ℕ). z ⊗⟨ m ⟩ z) (sym (after i (λ z. omega arith))));
      below = under;
    }
  where
    mid : List ℕ
    mid = set all (2 * i) (get_or sums i 0)

    before : (k : ℕ) → (k ≡ 2 * i → ⊥) → get_or mid k 0 ≡ get_or all k 0
    before k n = get_or-set_other all (2 * i) k (get_or sums i 0) 0 n

    after : (k : ℕ) → (k ≡ 2 * i + 1 → ⊥) → get_or (set mid (2 * i + 1) v) k 0 ≡ get_or mid k 0
    after k n = get_or-set_other mid (2 * i + 1) k v 0 n

    top : get_or (set mid (2 * i + 1) v) (2 * i + 1) 0 ≡ v
    top = get_or-set_same mid (2 * i + 1) v 0 (simp length-set (omega (arith, s.same)))

    under : (k : ℕ) → k < 2 * (i + 1) → get_or (set mid (2 * i + 1) v) k 0 < 2 ^ m
    under k g = pick (ℕ_discrete k (2 * i + 1))
      where
        pick : Dec (k ≡ 2 * i + 1) → get_or (set mid (2 * i + 1) v) k 0 < 2 ^ m
        pick (yes p) = rw (p, top, e) (product_bound L _ _)
        pick (no n) = rw (after k n) (squaring_below s (omega arith) b k (omega arith))

pub squaring_done : {m t i : ℕ} {sums first all : List ℕ} → Squaring m t sums first all i → t ≤ i → Squared m t sums all
squaring_done s h = record { odd = λ k g. s.odd k (omega arith); even = λ k g. s.even k (omega arith); below = λ k g. s.below k (omega arith) }
