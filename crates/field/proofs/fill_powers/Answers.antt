use mathlib.Core.Path.{◌≡◌, ◌∙◌, sym, ap, subst}
use mathlib.Core.List.{List}
use Prim.Native.Nat.{ℕ, ◌+◌, ◌-◌, ◌*◌, ◌≤◌, ◌<◌}
use native.Mathlib.Omega.{arith}
use native.Mathlib.Nat.{ne_of_lt, add-sub_cancel_left}
use native.Mathlib.Decide.{dec_lt}
use native.Mathlib.Numerals.{add-one}
use borrow.Author.Count.{below_none, below_more}
use lib.ListN.{length, get_or, set, length-set}
use lib.Seq.{get_or-set_same, get_or-set_other}
use Rattle.field.specs.Product.{◌⊗⟨◌⟩◌}
use Rattle.field.specs.Power.{a, n_of, power}
use Rattle.field.specs.Tables.{Powers}
use Rattle.field.proofs.Range.{sizes, powers_room}
use Rattle.field.proofs.PowerLaws.{power_zero, power-suc, power_bound}
use Rattle.field.proofs.Exponents.{around_past, around_power}
use Rattle.field.proofs.fill_powers.Invariants.{Filling}
use Rattle.field.proofs.fill_powers.Goals as goal

module _ {m p n x i : ℕ} {first powers : List ℕ} (f : Filling m p n first powers x i) (h : i < n) where
  abbrev middle : List ℕ
  middle = set powers i x

  -- the same power is written n places further on
  abbrev last : List ℕ
  last = set middle (n + i) x

  fits_middle : 2 * n ≤ length middle
  fits_middle = simp length-set f.fits

  filled : (j : ℕ) → j < i + 1 → get_or last j 0 ≡ power m a j
  filled =
      below_more _ i
      (λ j k. get_or-set_other middle (n + i) j _ 0 (λ e. omega arith) ∙ get_or-set_other powers i j x 0 (ne_of_lt k) ∙ f.once j k)
      (get_or-set_other middle (n + i) i _ 0 (λ e. omega arith) ∙ get_or-set_same powers i x 0 (omega (arith, f.fits)) ∙ f.here)

  -- a^n is 1
  round : power m a i ≡ power m a (n + i)
  round = around_power f.listed (n + i) f.is_n (sym (add-sub_cancel_left n i) ∙ around_past (omega arith) (omega arith))

  filled_again : (j : ℕ) → j < i + 1 → get_or last (n + j) 0 ≡ power m a (n + j)
  filled_again =
      below_more _ i
      (λ j k. get_or-set_other middle (n + i) (n + j) _ 0 (λ e. omega arith) ∙ get_or-set_other powers i (n + j) x 0 (λ e. omega arith) ∙ f.again j k)
      (get_or-set_same middle (n + i) _ 0 (omega (arith, fits_middle)) ∙ f.here ∙ round)

  next : {y : ℕ} → y ≡ a ⊗⟨ m ⟩ x → Filling m p n first last y (i + 1)
  next e =
      record {
        listed = f.listed;
        is_polynomial = f.is_polynomial;
        is_n = f.is_n;
        fits = simp length-set f.fits;
        same = simp length-set f.same;
        within = omega arith;
        here = e ∙ ap (λ (z : ℕ). a ⊗⟨ m ⟩ z) f.here ∙ sym (power-suc m a i) ∙ ap (power m a) (sym (add-one i));
        once = filled;
        again = filled_again;
      }

-- the places below n and those from n to 2n - 1
all_filled : {m p n x i : ℕ} {first powers : List ℕ} → Filling m p n first powers x i → n ≤ i → Powers m powers
all_filled {m} {n = n} {powers = powers} f h = record { long = omega (arith, f.fits, f.is_n); holds = λ j k. pick j k (dec_lt j n) }
  where
    pick : (j : ℕ) → j < 2 * n_of m → Dec (j < n) → get_or powers j 0 ≡ power m a j
    pick j k (yes l) = f.once j (omega arith)
    pick j k (no l) =
        let z : n + (j - n) ≡ j = omega arith in
        subst (λ (q : ℕ). get_or powers q 0 ≡ power m a q) z (f.again (j - n) (omega (arith, f.is_n)))

pub polynomial-p-requires : goal.polynomial-p-requires
polynomial-p-requires c = c.requires.0

pub n_of-n-requires : goal.n_of-n-requires
n_of-n-requires c = c.requires.0

pub loop-i-init : goal.loop-i-init
loop-i-init c = record {
  listed = c.requires.0;
  is_polynomial = c.polynomial-p.ensures;
  is_n = c.n_of-n.ensures;
  fits = omega (arith, powers_room c.requires.0 c.requires.1, c.n_of-n.ensures);
  same = omega arith;
  within = omega arith;
  here = sym (power_zero _ _);
  once = below_none _;
  again = below_none _;
}

pub offset_bounds-powers-i : goal.offset_bounds-powers-i
offset_bounds-powers-i c = let s = sizes c.loop-i.invariant.listed in omega arith

pub bounds-powers-i : goal.bounds-powers-i
bounds-powers-i c = omega (arith, c.loop-i.invariant.fits)

pub overflow_add-powers : goal.overflow_add-powers
overflow_add-powers c = let s = sizes c.loop-i.invariant.listed in omega (arith, c.loop-i.invariant.is_n)

pub offset_bounds-powers-n : goal.offset_bounds-powers-n
offset_bounds-powers-n c = let s = sizes c.loop-i.invariant.listed in omega (arith, c.loop-i.invariant.is_n)

pub bounds-powers-n : goal.bounds-powers-n
bounds-powers-n c = omega (arith, fits_middle c.loop-i.invariant (omega arith))

pub times_a-x-requires : goal.times_a-x-requires
times_a-x-requires c =
    let f = c.loop-i.invariant in (f.listed, f.is_polynomial, rw f.here (power_bound f.listed _ _))

pub loop-i-preserved : goal.loop-i-preserved
loop-i-preserved c = next c.loop-i.invariant (omega arith) c.times_a-x.ensures

pub shape_of-powers : goal.shape_of-powers
shape_of-powers c = c.loop-i.invariant.same

pub returns : goal.returns
returns c = all_filled c.loop-i.invariant (omega arith)
