-- The product of the rows' minimal polynomials, one row after the other.
use mathlib.Core.Path.{◌≡◌, ◌∙◌, refl, sym, ap, ap₂, subst}
use mathlib.Core.List.{List}
use Prim.Native.Nat.{ℕ, zero, suc, ◌+◌, ◌-◌, ◌≤◌, ◌<◌}
use native.Mathlib.Numerals.{add-one}
use native.Mathlib.Omega.{arith}
use lib.ListN.{length, get_or, set, take, replicate, length-set, length-replicate}
use lib.Seq.{get_or-set_same, get_or-set_other, get_or-take, length-take-le, ext_get_or}
use Rattle.bits.specs.Polynomial.{product_bits}
use Rattle.bits.proofs.BitLaws.{bits_replicate, bits_set, zeros_at}
use Rattle.codes.specs.Table.{ks, ts, first}
use Rattle.codes.specs.Rows.{RowOf}
use Rattle.generator.specs.Minimals.{minimals}
use Rattle.generator.specs.Generator.{Generator}
use Rattle.generator.specs.Factors.{binary, minimal_of, product_of, generator_of}
use Rattle.generator.specs.Work.{Cut, Multiplied}
use Rattle.generator.proofs.Degrees.{reaches}
use Rattle.generator.proofs.GeneratorLaws.{generator_exists, generator_top}
use Rattle.field.specs.Power.{n_of}
use Rattle.generator.proofs.ProductPlaces.{product_local}

pub cut_one : (g : List ℕ) (n : ℕ) → 0 < n → g ≡ set (replicate n 0) 0 1 → Cut (replicate 1 1) n g
cut_one g n h e =
    record {
      bits = rw e (bits_set 0 (bits_replicate n) (omega arith));
      same = ap length e ∙ length-set (replicate n 0) 0 1 ∙ length-replicate {A = ℕ} n 0;
      holds = λ i k. ap (λ (l : List ℕ). get_or l i 0) e ∙ at i;
    }
  where
    at : (i : ℕ) → get_or (set (replicate {A = ℕ} n 0) 0 1) i 0 ≡ get_or (replicate 1 1) i 0
    at zero = get_or-set_same (replicate n 0) 0 1 0 (omega (arith, length-replicate {A = ℕ} n 0))
    at (suc i) = get_or-set_other (replicate n 0) 0 (suc i) 1 0 (λ z. omega arith) ∙ zeros_at n (suc i)

product-zero : (r : ℕ) → product_of r 0 ≡ replicate 1 1
unfolding product_of
product-zero r = refl

product-suc : (r c : ℕ) → product_of r (suc c) ≡ product_bits (binary 11 (get_or minimals (r + c) 0)) (product_of r c)
unfolding product_of minimal_of
product-suc r c = refl

pub cut_start : (from n : ℕ) (g : List ℕ) → Cut (replicate 1 1) n g → Cut (product_of from 0) n g
cut_start from n g s =
    record {
      bits = s.bits;
      same = s.same;
      holds = λ i h. s.holds i h ∙ ap (λ (l : List ℕ). get_or l i 0) (sym (product-zero from));
    }

pub cut_next : (from k : ℕ) {n x : ℕ} {g after : List ℕ} → x ≡ get_or minimals (from + k) 0 → Cut (product_of from k) n g
    → Multiplied x g after → length after ≡ length g
    → Cut (product_of from (k + 1)) n after
cut_next from k {n} {x} {g} {after} e s t l = record { bits = t.bits; same = l ∙ s.same; holds = more }
  where
    more : (i : ℕ) → i < n → get_or after i 0 ≡ get_or (product_of from (k + 1)) i 0
    more i h =
        t.holds i (omega (arith, s.same))
        ∙ ap (λ (q : ℕ). get_or (product_bits (binary 11 q) g) i 0) e
        ∙ product_local (binary 11 (get_or minimals (from + k) 0)) g (product_of from k) i (λ j b. s.holds j (omega arith))
        ∙ ap (λ (q : List ℕ). get_or q i 0) (sym (product-suc from k) ∙ ap (product_of from) (sym (add-one k)))

-- a buffer that is no longer than the product holds the product's first places
pub cut_whole : {p buffer : List ℕ} {n : ℕ} → Cut p n buffer → n ≤ length p → buffer ≡ take n p
cut_whole {p} {buffer} {n} s h =
    ext_get_or 0 buffer (take n p) (s.same ∙ sym (length-take-le n p h))
    (λ i k. s.holds i (omega (arith, s.same)) ∙ sym (get_or-take n p i 0 (omega (arith, s.same))))

pub minimals_long : length minimals ≡ 232
unfolding minimals
minimals_long = refl

product_is_generator : (m row : ℕ) → product_of (first m) (suc row - first m) ≡ generator_of m row
unfolding generator_of
product_is_generator m row = refl

pub generated : {m row from n : ℕ} {g : List ℕ} → RowOf m row → from ≡ first m → n ≡ n_of m - get_or ks row 0 + 1 → Cut (product_of from (row + 1 - from)) n g
    → Generator m (get_or ts row 0) (n_of m - get_or ks row 0) g
generated {m} {row} {from} {n} {g} w e l s =
    subst (Generator m (get_or ts row 0) (n_of m - get_or ks row 0)) (sym is) (generator_exists w)
  where
    p : product_of from (row + 1 - from) ≡ generator_of m row
    p = ap₂ (λ (x y : ℕ). product_of x (y - x)) e (add-one row) ∙ product_is_generator m row

    is : g ≡ take (n_of m - get_or ks row 0 + 1) (generator_of m row)
    is =
        cut_whole s (rw (p, l) (reaches (generator_of m row) (n_of m - get_or ks row 0) (generator_top w)))
        ∙ ap₂ (λ (x : ℕ) (y : List ℕ). take x y) l p
