-- Walking through the table of powers: exponents go up by a step, and around where they reach n.
use mathlib.Core.Path.{◌≡◌, ◌∙◌, refl, sym, ap, ap₂, subst}
use mathlib.Core.List.{List}
use Prim.Native.Nat.{ℕ, ◌+◌, ◌-◌, ◌*◌, ◌%◌, ◌≤◌, ◌<◌}
use native.Mathlib.Nat.{add-zero, mul-zero, mul-one, mul_comm, mul-add}
use native.Mathlib.Decide.{dec_lt}
use borrow.Author.Count.{below_more}
use native.Mathlib.Omega.{arith}
use lib.Bits.{bit_xor}
use lib.ListN.{length, get_or, length-set}
use lib.Seq.{get_or-set_same, get_or-set_other}
use Rattle.entries.specs.Entries.{Filled}
use Rattle.entries.proofs.FillLaws.{fill_from, fill_as}
use Rattle.field.specs.Sum.{◌⊕◌}
use Rattle.field.specs.Product.{IsField, ◌⊗⟨◌⟩◌}
use Rattle.field.specs.Power.{a, n_of, power}
use Rattle.field.specs.Tables.{Powers}
use Rattle.walks.specs.Multiples.{plus_walk, plus_multiple, plus_at, plus_four, Added, Walked}
use Rattle.field.proofs.SumLaws.{sum-zero, xor-sum}
use Rattle.field.proofs.ProductLaws.{zero-product}
use Rattle.field.proofs.PowerLaws.{power-add, power-mul}
use Rattle.field.proofs.Exponents.{around_below, around_power, Logarithm}

-- one entry more, at place j
added_next : {m i d j x : ℕ} (start step : ℕ) {before after : List ℕ} → Added m start step i d before after → j ≡ i + d
    → j < length before → x ≡ power m a (start + step * d)
    → Added m start step i (d + 1) before (plus_at after j x)
added_next {m} {i} {d} {j} {x} start step {before} {after} s e h p =
    record {
      same = simp length-set s.same;
      holds = below_more _ d
          (λ k l. get_or-set_other after j (i + k) (bit_xor (get_or after j 0) x) 0 (λ z. omega arith) ∙ s.holds k l)
          (ap (λ (q : ℕ). get_or (plus_at after j x) q 0) (sym e)
          ∙ get_or-set_same after j (bit_xor (get_or after j 0) x) 0 (omega (arith, s.same))
          ∙ xor-sum (get_or after j 0) x
          ∙ ap₂ (λ u v. u ⊕ v) (s.high j (omega arith) ∙ ap (λ (q : ℕ). get_or before q 0) e) p);
      low = λ k l. get_or-set_other after j k (bit_xor (get_or after j 0) x) 0 (λ z. omega arith) ∙ s.low k l;
      high = λ k l. get_or-set_other after j k (bit_xor (get_or after j 0) x) 0 (λ z. omega arith) ∙ s.high k (omega arith);
    }

added_none : (m start step i : ℕ) (xs : List ℕ) → Added m start step i 0 xs xs
added_none m start step i xs = record { same = refl; holds = λ k h. absurd (omega arith); low = λ k h. refl; high = λ k h. refl }

-- an exponent that goes on by i more steps
walked_on : {m : ℕ} → IsField m → (start step e d j i : ℕ) → power m a e ≡ power m a (start + step * j)
    → power m a d ≡ power m a (step * i) → power m a (e + d) ≡ power m a (start + step * (j + i))
walked_on {m} L start step e d j i here q =
    power-add L a e d
    ∙ ap₂ (λ (u v : ℕ). u ⊗⟨ m ⟩ v) here q
    ∙ sym (power-add L a (start + step * j) (step * i))
    ∙ ap (power m a) onward
  where
    onward : start + step * j + step * i ≡ start + step * (j + i)
    onward = omega (arith, mul-add step j i)

pub walked_start : {m start : ℕ} (step i : ℕ) (before : List ℕ) → start < n_of m → Walked m start step i 0 before start before
walked_start {m} {start} step i before h =
    record {
      below = h;
      here = ap (power m a) (sym (ap (λ z. start + z) (mul-zero step) ∙ add-zero start));
      added = added_none m start step i before;
    }

pub walked_next : {m start step i d n e j x r : ℕ} {before after : List ℕ} → IsField m → Walked m start step i d before e after
    → n ≡ n_of m → j ≡ i + d → j < length before
    → x ≡ power m a e → r ≡ (e + step) % n → Walked m start step i (d + 1) before r (plus_at after j x)
walked_next {m} {start} {step} {i} {d} {n} {e} L s is at l p q =
    record {
      below = around_below L (e + step) is q;
      here = around_power L (e + step) is q ∙ walked_on L start step e step d 1 s.here (ap (power m a) (sym (mul-one step)));
      added = added_next start step s.added at l (p ∙ s.here);
    }

pub walked_to : {m start step i d d' e : ℕ} {before after : List ℕ} → Walked m start step i d before e after → d ≡ d' → Walked m start step i d' before e after
walked_to {m} {start} {step} {i} {e = e} {before} {after} s q = subst (λ (z : ℕ). Walked m start step i z before e after) q s

pub walked_by : {m start step i d e : ℕ} {before after after' : List ℕ} → after' ≡ after → Walked m start step i d before e after
    → Walked m start step i d before e after'
walked_by {m} {start} {step} {i} {d} {e} {before} q s = subst (λ (xs : List ℕ). Walked m start step i d before e xs) (sym q) s

-- one entry after the other
pub four_added : {ws us vs zs : List ℕ} (powers xs : List ℕ) (e f g h j : ℕ) → ws ≡ plus_at xs j (get_or powers e 0)
    → us ≡ plus_at ws (j + 1) (get_or powers f 0) → vs ≡ plus_at us (j + 2) (get_or powers g 0)
    → zs ≡ plus_at vs (j + 3) (get_or powers h 0)
    → zs ≡ plus_four powers e f g h j xs
four_added powers xs e f g h j p q r s =
    s
    ∙ ap (λ l. plus_at l (j + 3) (get_or powers h 0))
    (r ∙ ap (λ l. plus_at l (j + 2) (get_or powers g 0)) (q ∙ ap (λ l. plus_at l (j + 1) (get_or powers f 0)) p))

-- the exponents of two, three and four steps, brought below n
pub record Strides (m step n two three four : ℕ) : Type 0 where
  pub is_n : n ≡ n_of m
  pub short : step < n_of m
  pub second : two ≡ 2 * step % n
  pub third : three ≡ (two + step) % n
  pub fourth : four ≡ 2 * two % n

pub strides : {m n one two three four : ℕ} (step : ℕ) → IsField m → n ≡ n_of m → one ≡ step % n → two ≡ 2 * one % n
    → three ≡ (two + one) % n → four ≡ 2 * two % n → Strides m one n two three four
strides step L is a b c d = record { is_n = is; short = around_below L step is a; second = b; third = c; fourth = d }

pub record Within (m e step two three four : ℕ) : Type 0 where
  pub first : e + step < 2 * n_of m
  pub second : e + two < 2 * n_of m
  pub third : e + three < 2 * n_of m
  pub fourth : e + four < 2 * n_of m

module _ {m step n two three four : ℕ} (L : IsField m) (S : Strides m step n two three four) where
  pub strides_within : {e : ℕ} → e < n_of m → Within m e step two three four
  strides_within k =
      let b = around_below L (2 * step) S.is_n S.second in
      let c = around_below L (two + step) S.is_n S.third in
      let d = around_below L (2 * two) S.is_n S.fourth in
      record { first = omega (arith, S.short); second = omega arith; third = omega arith; fourth = omega arith }

  two_steps : power m a two ≡ power m a (step * 2)
  two_steps = around_power L (2 * step) S.is_n S.second ∙ ap (power m a) (mul_comm 2 step)

  three_steps : power m a three ≡ power m a (step * 3)
  three_steps =
      around_power L (two + step) S.is_n S.third
      ∙ power-add L a two step
      ∙ ap (λ (z : ℕ). z ⊗⟨ m ⟩ power m a step) two_steps
      ∙ sym (power-add L a (step * 2) step)
      ∙ ap (power m a) sum
    where
      sum : step * 2 + step ≡ step * 3
      sum = omega arith

  four_steps : power m a four ≡ power m a (step * 4)
  four_steps =
      around_power L (2 * two) S.is_n S.fourth
      ∙ ap (power m a) twice
      ∙ power-add L a two two
      ∙ ap (λ (z : ℕ). z ⊗⟨ m ⟩ z) two_steps
      ∙ sym (power-add L a (step * 2) (step * 2))
      ∙ ap (power m a) sum
    where
      twice : 2 * two ≡ two + two
      twice = omega arith

      sum : step * 2 + step * 2 ≡ step * 4
      sum = omega arith

  -- four entries more
  walked_four : {start i d e j r : ℕ} {powers before after : List ℕ} → Powers m powers → Walked m start step i d before e after
      → j ≡ i + d → j + 4 ≤ length before → r ≡ (e + four) % n
      → Walked m start step i (d + 4) before r (plus_four powers e (e + step) (e + two) (e + three) j after)
  walked_four {start} {i} {d} {e} {j} {r} {powers} {before} {after} P s at l q =
      record {
        below = around_below L (e + four) S.is_n q;
        here = around_power L (e + four) S.is_n q ∙ walked_on L start step e four d 4 s.here four_steps;
        added = subst (λ (z : ℕ). Added m start step i z before (plus_four powers e (e + step) (e + two) (e + three) j after)) last fourth;
      }
    where
      W : Within m e step two three four
      W = strides_within s.below

      first : Added m start step i (d + 1) before (plus_at after j (get_or powers e 0))
      first = added_next start step s.added at (omega arith) (P.holds e (omega (arith, s.below)) ∙ s.here)

      second : Added m start step i (d + 1 + 1) before (plus_at (plus_at after j (get_or powers e 0)) (j + 1) (get_or powers (e + step) 0))
      second =
          added_next start step first (omega arith) (omega arith)
          (P.holds (e + step) W.first ∙ walked_on L start step e step d 1 s.here (ap (power m a) (sym (mul-one step))))

      third : Added m start step i (d + 2 + 1) before
          (plus_at (plus_at (plus_at after j (get_or powers e 0)) (j + 1) (get_or powers (e + step) 0)) (j + 2) (get_or powers (e + two) 0))
      third =
          added_next start step
          (subst (λ (z : ℕ). Added m start step i z before (plus_at (plus_at after j (get_or powers e 0)) (j + 1) (get_or powers (e + step) 0)))
          two_more second) (omega arith) (omega arith)
          (P.holds (e + two) W.second ∙ walked_on L start step e two d 2 s.here two_steps)
        where
          two_more : d + 1 + 1 ≡ d + 2
          two_more = omega arith

      fourth : Added m start step i (d + 3 + 1) before (plus_four powers e (e + step) (e + two) (e + three) j after)
      fourth =
          added_next start step
          (subst
          (λ (z : ℕ). Added m start step i z before
          (plus_at (plus_at (plus_at after j (get_or powers e 0)) (j + 1) (get_or powers (e + step) 0)) (j + 2) (get_or powers (e + two) 0)))
          three_more third) (omega arith) (omega arith)
          (P.holds (e + three) W.third ∙ walked_on L start step e three d 3 s.here three_steps)
        where
          three_more : d + 2 + 1 ≡ d + 3
          three_more = omega arith

      last : d + 3 + 1 ≡ d + 4
      last = omega arith

  pub walked_on_by_four : {start i d d' e j r : ℕ} {powers before after after' : List ℕ} → Powers m powers
      → Walked m start step i d before e after → j ≡ i + d → j + 4 ≤ length before → r ≡ (e + four) % n
      → after' ≡ plus_four powers e (e + step) (e + two) (e + three) j after → d + 4 ≡ d' → Walked m start step i d' before r after'
  walked_on_by_four P s at l q u z = walked_by u (walked_to (walked_four P s at l q) z)

-- the first entries and then the others: a walk by the step that was brought below n
pub walk_done : {m n one c d e count : ℕ} (from step : ℕ) {before middle after : List ℕ} → IsField m → n ≡ n_of m → one ≡ step % n
    → Walked m from one 0 c before e middle → Added m e one c d middle after → c + d ≡ count
    → Filled (plus_walk m from step before) count before after
walk_done {m} {n} {one} {c} {d} {e} {count} from step {before} {middle} {after} L is q s u end =
    record {
      same = u.same ∙ s.added.same;
      holds = λ i h. pick i h (dec_lt i c);
      rest = λ i h. u.high i (omega arith) ∙ s.added.high i (omega arith);
    }
  where
    same_step : (i : ℕ) → power m a (one * i) ≡ power m a (step * i)
    same_step i = power-mul L a one i ∙ ap (λ (z : ℕ). power m z i) (around_power L step is q) ∙ sym (power-mul L a step i)

    near : (i : ℕ) → power m a (from + one * i) ≡ power m a (from + step * i)
    near i = power-add L a from (one * i) ∙ ap (λ (z : ℕ). power m a from ⊗⟨ m ⟩ z) (same_step i) ∙ sym (power-add L a from (step * i))

    place : (i : ℕ) → c ≤ i → c + (i - c) ≡ i
    place i h = omega arith

    pick : (i : ℕ) → i < count → Dec (i < c) → get_or after i 0 ≡ get_or before i 0 ⊕ power m a (from + step * i)
    pick i h (yes l) =
        let z : 0 + i ≡ i = omega arith in
        u.low i l ∙ subst (λ (k : ℕ). get_or middle k 0 ≡ get_or before k 0 ⊕ power m a (from + one * i)) z (s.added.holds i l)
        ∙ ap (λ (z : ℕ). get_or before i 0 ⊕ z) (near i)
    pick i h (no l) =
        let z = place i (omega arith) in
        subst (λ (k : ℕ). get_or after k 0 ≡ get_or middle k 0 ⊕ power m a (e + one * (i - c))) z (u.holds (i - c) (omega arith))
        ∙ ap₂ (λ x y. x ⊕ y) (s.added.high i (omega arith))
        (walked_on L from one e (one * (i - c)) c (i - c) s.here refl ∙ ap (λ (k : ℕ). power m a (from + one * k)) z ∙ near i)

-- from the logarithm of s on: s times each power
pub multiples_added : {m s t from : ℕ} {logs before after : List ℕ} (step : ℕ) → IsField m → Logarithm m logs s → from ≡ get_or logs s 0
    → Filled (plus_walk m from step before) t before after → Filled (plus_multiple m s step before) t before after
multiples_added {m} {s} {from = from} {logs} {before} step L l e u =
    fill_as u
    (λ i h. ap (λ z. get_or before i 0 ⊕ z)
    (power-add L a from (step * i) ∙ ap (λ (z : ℕ). z ⊗⟨ m ⟩ power m a (step * i)) (ap (power m a) e ∙ l.is)))

-- 0 has no logarithm, and its multiples add nothing
pub multiples_skipped : {s : ℕ} (m step t : ℕ) (before : List ℕ) → s ≡ 0 → Filled (plus_multiple m s step before) t before before
multiples_skipped m step t before z =
    fill_from _ t before
    (λ i h. sym
    (ap (λ x. get_or before i 0 ⊕ x ⊗⟨ m ⟩ power m a (step * i)) z
    ∙ ap (λ x. get_or before i 0 ⊕ x) (zero-product m (power m a (step * i))) ∙ sum-zero (get_or before i 0)))
