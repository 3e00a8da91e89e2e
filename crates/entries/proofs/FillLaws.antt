-- Filling a buffer one place after the other.
use mathlib.Core.Path.{◌≡◌, ◌∙◌, refl, ap}
use mathlib.Core.List.{List, ◌++◌}
use Prim.Native.Nat.{ℕ, ◌+◌, ◌-◌, ◌≤◌, ◌<◌}
use native.Mathlib.Nat.{ne_of_lt}
use native.Mathlib.Omega.{arith}
use borrow.Author.Count.{below_more}
use lib.ListN.{length, get_or, set, take, drop, replicate, length-set, length-append, length-drop, length-replicate, get_or-append}
use lib.Seq.{length-take-le, get_or-take, get_or-set_same, get_or-set_other, get_or-append_right, get_or-drop}
use Rattle.bits.proofs.BitLaws.{zeros_at}
use Rattle.entries.specs.Entries.{Filled, nothing, entry}

-- the first places hold the right entries already
pub fill_from : (f : ℕ → ℕ) (k : ℕ) (xs : List ℕ) → ((i : ℕ) → i < k → get_or xs i 0 ≡ f i) → Filled f k xs xs
fill_from f k xs e = record { same = refl; holds = e; rest = λ i h. refl }

pub fill_next : {f : ℕ → ℕ} {i v : ℕ} {before after : List ℕ} → Filled f i before after → i < length before → v ≡ f i → Filled f (i + 1) before (set after i v)
fill_next {f} {i} {v} {before} {after} s h e =
    record {
      same = simp length-set s.same;
      holds = below_more _ i (λ j k. get_or-set_other after i j v 0 (ne_of_lt k) ∙ s.holds j k) (get_or-set_same after i v 0 (omega (arith, s.same)) ∙ e);
      rest = λ j k. get_or-set_other after i j v 0 (λ z. omega arith) ∙ s.rest j (omega arith);
    }

-- the first places written over
pub fill_front : {f : ℕ → ℕ} (t : ℕ) (xs front : List ℕ) → t ≤ length xs → length front ≡ t → ((i : ℕ) → i < t → get_or front i 0 ≡ f i)
    → Filled f t xs (front ++ drop t xs)
fill_front {f} t xs front h l e =
    record {
      same = omega (arith, length-append front (drop t xs), length-drop t xs);
      holds = λ i k. get_or-append front (drop t xs) 0 i (omega arith) ∙ e i k;
      rest = λ i k. get_or-append_right front (drop t xs) i 0 (omega arith) ∙ get_or-drop t xs (i - length front) 0
          ∙ ap (λ (j : ℕ). get_or xs j 0) (back i k);
    }
  where
    back : (i : ℕ) → t ≤ i → t + (i - length front) ≡ i
    back i k = omega arith

pub fill_clear : {t : ℕ} {xs : List ℕ} (front : List ℕ) → t ≤ length xs → front ≡ replicate (length (take t xs)) 0 → Filled nothing t xs (front ++ drop t xs)
fill_clear {t} {xs} front h e = fill_front t xs front h long (λ i k. ap (λ (l : List ℕ). get_or l i 0) e ∙ zeros_at (length (take t xs)) i)
  where
    long : length front ≡ t
    long = omega (arith, ap length e, length-replicate {A = ℕ} (length (take t xs)) 0, length-take-le t xs h)

pub fill_copy : {t : ℕ} {xs : List ℕ} (ys front : List ℕ) → t ≤ length xs → t ≤ length ys → front ≡ take t ys → Filled (entry ys) t xs (front ++ drop t xs)
fill_copy {t} {xs} ys front h k e =
    fill_front t xs front h (ap length e ∙ length-take-le t ys k) (λ i l. ap (λ (z : List ℕ). get_or z i 0) e ∙ get_or-take t ys i 0 l)

-- the same entries by another rule
pub fill_as : {f g : ℕ → ℕ} {t : ℕ} {before after : List ℕ} → Filled f t before after → ((i : ℕ) → i < t → f i ≡ g i) → Filled g t before after
fill_as s e = record { same = s.same; holds = λ i h. s.holds i h ∙ e i h; rest = s.rest }

-- one filling after another
pub fill_after : {f g : ℕ → ℕ} {t : ℕ} {first before after : List ℕ} → Filled f t first before → Filled g t before after → Filled g t first after
fill_after s u = record { same = u.same ∙ s.same; holds = u.holds; rest = λ i h. u.rest i h ∙ s.rest i h }
