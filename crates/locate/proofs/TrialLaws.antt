-- The trial of the places: values term by term, and the list of the zeros.
use mathlib.Core.Path.{◌≡◌, ◌∙◌, refl, sym, ap, ap₂, subst}
use mathlib.Core.Logic.{◌⊎◌, inl, inr}
use mathlib.Core.Bool.{Bool, cond}
use mathlib.Core.List.Memᴰ
use mathlib.Core.List.{List, [], ◌∷◌, ◌++◌, Memᴰ}
use Prim.Native.Nat.{ℕ, zero, suc, ◌+◌, ◌-◌, ◌^◌, ◌≤◌, ◌<◌}
use native.Mathlib.Numerals.{add-one}
use native.Mathlib.Decide.{ℕ_discrete}
use native.Mathlib.Nat.{add-zero, add-suc}
use native.Mathlib.Omega.{arith}
use borrow.Author.Tests.{eq-eqb, ne_eqb}
use lib.Dec.{eqb}
use lib.ListN.{length, get_or, take, set, length-append, length-set}
use lib.Seq.{take-suc-set, get_or-take, length-take-le}
use Rattle.bits.specs.Differences.{Ascending}
use Rattle.field.specs.Sum.{◌⊕◌}
use Rattle.field.specs.Product.{IsField, ◌⊗⟨◌⟩◌}
use Rattle.field.specs.Power.{a, n_of, power}
use Rattle.field.proofs.SumLaws.{sum_comm, sum_assoc}
use Rattle.field.proofs.ProductLaws.{product-zero, product_assoc, product_over, one_product}
use Rattle.field.proofs.PowerLaws.{power_zero, power-suc}
use Rattle.entries.specs.Entries.{Filled, nothing, Same}
use Rattle.entries.proofs.FillLaws.{fill_from, fill_as, fill_after}
use Rattle.sums.specs.Rows.{place_sum}
use Rattle.locate.specs.Work.{value_from, tried, plus_term, zeros, NotedOne, Tried, Agrees}

-- values

pub value_zero : (m y : ℕ) (sigma : List ℕ) (k : ℕ) → value_from m y sigma k 0 ≡ 0
unfolding value_from
value_zero m y sigma k = refl

pub value_suc : (m y : ℕ) (sigma : List ℕ) (k c : ℕ) → value_from m y sigma k (suc c) ≡ get_or sigma k 0 ⊕ y ⊗⟨ m ⟩ value_from m y sigma (suc k) c
unfolding value_from
value_suc m y sigma k c = refl

-- one coefficient more, its term added at the end
value_more : {m : ℕ} → IsField m → (y : ℕ) (sigma : List ℕ) (c k : ℕ) → get_or sigma (k + c) 0 < 2 ^ m
    → value_from m y sigma k (suc c) ≡ value_from m y sigma k c ⊕ power m y c ⊗⟨ m ⟩ get_or sigma (k + c) 0
value_more {m} L y sigma zero k h =
    value_suc m y sigma k 0
    ∙ ap₂ (λ u v. u ⊕ y ⊗⟨ m ⟩ v) (ap (λ n. get_or sigma n 0) (sym (add-zero k))) (value_zero m y sigma (suc k))
    ∙ ap (λ u. get_or sigma (k + 0) 0 ⊕ u) (product-zero m y)
    ∙ sum_comm (get_or sigma (k + 0) 0) 0
    ∙ ap₂ (λ u v. u ⊕ v) (sym (value_zero m y sigma k))
    (sym (ap (λ u. u ⊗⟨ m ⟩ get_or sigma (k + 0) 0) (power_zero m y) ∙ one_product L (get_or sigma (k + 0) 0) h))
value_more {m} L y sigma (suc c) k h =
    value_suc m y sigma k (suc c)
    ∙ ap (λ u. get_or sigma k 0 ⊕ y ⊗⟨ m ⟩ u) (value_more L y sigma c (suc k) (rw next h) ∙ ap (λ n. rest ⊕ power m y c ⊗⟨ m ⟩ get_or sigma n 0) next)
    ∙ ap (λ u. get_or sigma k 0 ⊕ u) (product_over m y rest (power m y c ⊗⟨ m ⟩ s) ∙ ap (λ u. y ⊗⟨ m ⟩ rest ⊕ u) (sym (product_assoc L y (power m y c) s)))
    ∙ sym (sum_assoc (get_or sigma k 0) (y ⊗⟨ m ⟩ rest) (y ⊗⟨ m ⟩ power m y c ⊗⟨ m ⟩ s))
    ∙ ap₂ (λ u v. u ⊕ v ⊗⟨ m ⟩ s) (sym (value_suc m y sigma k c)) (sym (power-suc m y c))
  where
    next : suc k + c ≡ k + suc c
    next = omega arith

    s : ℕ
    s = get_or sigma (k + suc c) 0

    rest : ℕ
    rest = value_from m y sigma (suc k) c

-- the terms before j are added
pub record Valuing (m : ℕ) (sigma : List ℕ) (count : ℕ) (before after : List ℕ) (j : ℕ) : Type 0 where
  pub within : j ≤ count
  pub filled : Filled (tried m sigma j) (n_of m) before after

pub valuing_start : {m n : ℕ} {first before : List ℕ} (sigma : List ℕ) (count : ℕ) → n ≡ n_of m → Filled nothing n first before
    → Valuing m sigma count before before 0
valuing_start {m} {n} {before = before} sigma count is s =
    record {
      within = omega arith;
      filled = fill_from _ (n_of m) before (λ i h. s.holds i (omega arith) ∙ sym (value_zero m (power m a (n_of m - i)) sigma 0));
    }

pub valuing_next : {m count j : ℕ} {sigma before middle after : List ℕ} → IsField m → Valuing m sigma count before middle j → j < count
    → get_or sigma j 0 < 2 ^ m
    → Filled (plus_term m (get_or sigma j 0) j middle) (n_of m) middle after → Valuing m sigma count before after (j + 1)
valuing_next {m} {count} {j} {sigma} L w h b u =
    record {
      within = omega arith;
      filled = fill_after w.filled (fill_as u (λ i k.
          ap (λ z. z ⊕ power m (power m a (n_of m - i)) j ⊗⟨ m ⟩ get_or sigma j 0) (w.filled.holds i k)
          ∙ ap (λ n. tried m sigma j i ⊕ power m (power m a (n_of m - i)) j ⊗⟨ m ⟩ get_or sigma n 0) (sym none)
          ∙ sym (ap (value_from m (power m a (n_of m - i)) sigma 0) (add-one j) ∙ value_more L (power m a (n_of m - i)) sigma j 0 (rw none b))));
    }
  where
    none : 0 + j ≡ j
    none = omega arith

pub valuing_done : {m n count j : ℕ} {sigma first before after : List ℕ} → n ≡ n_of m → Filled nothing n first before
    → Valuing m sigma count before after j → count ≤ j → Filled (tried m sigma count) (n_of m) first after
valuing_done {m} {n} {count} {j} {sigma} is s w h =
    record {
      same = w.filled.same ∙ s.same;
      holds = λ i k. w.filled.holds i k ∙ ap (λ c. tried m sigma c i) whole;
      rest = λ i k. w.filled.rest i k ∙ s.rest i (omega arith);
    }
  where
    whole : j ≡ count
    whole = omega (arith, w.within)

-- what is written down of one place

pub noted_miss : (v i t found : ℕ) (xs : List ℕ) → (v ≡ 0 → ⊥) → NotedOne v i t found xs found xs
noted_miss v i t found xs n = record { same = refl; miss = λ h. (refl, refl); hit = λ e. absurd (n e) }

pub noted_hit : (v i t found : ℕ) (xs : List ℕ) → v ≡ 0 → found < length xs → NotedOne v i t found xs (found + 1) (set xs found i)
noted_hit v i t found xs e h = record { same = length-set xs found i; miss = λ n. absurd (n e); hit = λ z. (add-one found, λ l. take-suc-set xs found i h) }

pub noted_over : (v i t found : ℕ) (xs : List ℕ) → v ≡ 0 → t ≤ found → NotedOne v i t found xs (found + 1) xs
noted_over v i t found xs e h = record { same = refl; miss = λ n. absurd (n e); hit = λ z. (add-one found, λ l. absurd (omega arith)) }

-- the zeros

module _ (m : ℕ) (sigma : List ℕ) (c : ℕ) where
  pub zeros-zero : zeros m sigma c 0 ≡ []
  unfolding zeros
  zeros-zero = refl

  zeros-suc : (i : ℕ) → zeros m sigma c (suc i) ≡ cond (eqb (tried m sigma c i) 0) (zeros m sigma c i ++ (i ∷ [])) (zeros m sigma c i)
  unfolding zeros
  zeros-suc i = refl

  pub zeros_hit : (i : ℕ) → tried m sigma c i ≡ 0 → zeros m sigma c (suc i) ≡ zeros m sigma c i ++ (i ∷ [])
  zeros_hit i e = zeros-suc i ∙ ap (λ b. cond b (zeros m sigma c i ++ (i ∷ [])) (zeros m sigma c i)) (eq-eqb (tried m sigma c i) 0 e)

  pub zeros-miss : (i : ℕ) → (tried m sigma c i ≡ 0 → ⊥) → zeros m sigma c (suc i) ≡ zeros m sigma c i
  zeros-miss i n = zeros-suc i ∙ ap (λ b. cond b (zeros m sigma c i ++ (i ∷ [])) (zeros m sigma c i)) (ne_eqb (tried m sigma c i) 0 n)

  -- one place more
  zeros-cases : (P : List ℕ → Type 0) (i : ℕ) → (tried m sigma c i ≡ 0 → P (zeros m sigma c i ++ (i ∷ [])))
      → ((tried m sigma c i ≡ 0 → ⊥) → P (zeros m sigma c i)) → P (zeros m sigma c (suc i))
  zeros-cases P i h k = pick (ℕ_discrete (tried m sigma c i) 0)
    where
      pick : Dec (tried m sigma c i ≡ 0) → P (zeros m sigma c (suc i))
      pick (yes e) = rw (zeros_hit i e) (h e)
      pick (no n) = rw (zeros-miss i n) (k n)

  pub zeros_grow : (i d : ℕ) → length (zeros m sigma c i) ≤ length (zeros m sigma c (i + d))
  zeros_grow i zero = rw (add-zero i) (omega arith)
  zeros_grow i (suc d) =
      let g = zeros_grow i d in
      rw (add-suc i d)
      (zeros-cases (λ l. length (zeros m sigma c i) ≤ length l) (i + d)
      (λ e. omega (arith, length-append (zeros m sigma c (i + d)) ((i + d) ∷ []))) (λ n. g))

  -- a place is among the zeros below i exactly if it is below i and its trial is zero
  pub zeros_member : (i p : ℕ) → Memᴰ p (zeros m sigma c i) → (p < i) × (tried m sigma c p ≡ 0)
  zeros_member zero p k = absurd (Memᴰ.not-nil (rw zeros-zero at k))
  zeros_member (suc i) p k₀ =
      zeros-cases (λ l. Memᴰ p l → (p < suc i) × (tried m sigma c p ≡ 0)) i
      (λ e k. last (zeros_member i p) e (Memᴰ.append_cases (zeros m sigma c i) k)) (λ n k. weaken (zeros_member i p k)) k₀
    where
      weaken : (p < i) × (tried m sigma c p ≡ 0) → (p < suc i) × (tried m sigma c p ≡ 0)
      weaken r = (omega arith, r.1)

      last : (Memᴰ p (zeros m sigma c i) → (p < i) × (tried m sigma c p ≡ 0)) → tried m sigma c i ≡ 0
          → Memᴰ p (zeros m sigma c i) ⊎ Memᴰ p (i ∷ []) → (p < suc i) × (tried m sigma c p ≡ 0)
      last ih e (inl q) = weaken (ih q)
      last ih e (inr q) = let z : p ≡ i = Memᴰ.eq_of_singleton q in (omega arith, ap (tried m sigma c) z ∙ e)

  pub member_zeros : (i p : ℕ) → p < i → tried m sigma c p ≡ 0 → Memᴰ p (zeros m sigma c i)
  member_zeros zero p h e = absurd (omega arith)
  member_zeros (suc i) p h e =
      zeros-cases (λ l. Memᴰ p l) i (λ z. here (λ l. member_zeros i p l e) (ℕ_discrete p i))
      (λ n. there n (λ l. member_zeros i p l e) (ℕ_discrete p i))
    where
      here : (p < i → Memᴰ p (zeros m sigma c i)) → Dec (p ≡ i) → Memᴰ p (zeros m sigma c i ++ (i ∷ []))
      here ih (yes q) = Memᴰ.append_right (zeros m sigma c i) (Memᴰ.head q)
      here ih (no q) = Memᴰ.append_left (i ∷ []) (ih (omega arith))

      there : (tried m sigma c i ≡ 0 → ⊥) → (p < i → Memᴰ p (zeros m sigma c i)) → Dec (p ≡ i) → Memᴰ p (zeros m sigma c i)
      there n ih (yes q) = absurd (n (ap (tried m sigma c) (sym q) ∙ e))
      there n ih (no q) = ih (omega arith)

ascending_snoc : (ps : List ℕ) (i : ℕ) → Ascending ps → ((p : ℕ) → Memᴰ p ps → p < i) → Ascending (ps ++ (i ∷ []))
ascending_snoc [] i A h = (λ q k. absurd (Memᴰ.not-nil k), tt)
ascending_snoc (p ∷ ps) i A h = (λ q k. above q (Memᴰ.append_cases ps k), ascending_snoc ps i A.1 (λ q k. h q (Memᴰ.tail k)))
  where
    above : (q : ℕ) → Memᴰ q ps ⊎ Memᴰ q (i ∷ []) → p < q
    above q (inl k) = A.0 q k
    above q (inr k) = let z : q ≡ i = Memᴰ.eq_of_singleton k in omega (arith, h p (Memᴰ.head refl))

pub zeros_ascending : (m : ℕ) (sigma : List ℕ) (c i : ℕ) → Ascending (zeros m sigma c i)
zeros_ascending m sigma c zero = rw (zeros-zero m sigma c) tt
zeros_ascending m sigma c (suc i) =
    let A = zeros_ascending m sigma c i in
    zeros-cases m sigma c Ascending i (λ e. ascending_snoc (zeros m sigma c i) i A (λ p k. (zeros_member m sigma c i p k).0)) (λ n. A)

-- the places below i are tried

pub record Trying (m t : ℕ) (sigma : List ℕ) (c n : ℕ) (first places : List ℕ) (found i : ℕ) : Type 0 where
  pub within : i ≤ n
  pub same : length places ≡ length first
  pub room : found ≤ t
  pub counted : length (zeros m sigma c i) ≡ found
  pub noted : take found places ≡ zeros m sigma c i

pub trying_start : (m t : ℕ) (sigma : List ℕ) (c n : ℕ) (places : List ℕ) → Trying m t sigma c n places places 0 0
trying_start m t sigma c n places =
    record {
      within = omega arith;
      same = refl;
      room = omega arith;
      counted = ap length (zeros-zero m sigma c);
      noted = sym (zeros-zero m sigma c);
    }

module _ {m t c n found i v count : ℕ} {sigma first places after : List ℕ} (s : Trying m t sigma c n first places found i)
    (is : n ≡ n_of m) (h : i < n) (e : v ≡ tried m sigma c i) (o : NotedOne v i t found places count after) where
  -- the list after this place, and its length
  trying_list : count ≤ t → (length (zeros m sigma c (suc i)) ≡ count) × (take count after ≡ zeros m sigma c (suc i))
  trying_list l = pick (ℕ_discrete v 0)
    where
      pick : Dec (v ≡ 0) → (length (zeros m sigma c (suc i)) ≡ count) × (take count after ≡ zeros m sigma c (suc i))
      pick (yes z) =
          let q = o.hit z in
          let w = zeros_hit m sigma c i (sym e ∙ z) in (
            ap length w ∙ length-append (zeros m sigma c i) (i ∷ []) ∙ ap (λ k. k + 1) s.counted ∙ add-one found ∙ sym q.0,
            ap (λ k. take k after) q.0 ∙ q.1 (omega (arith, q.0)) ∙ ap (λ k. k ++ (i ∷ [])) s.noted ∙ sym w,
          )
      pick (no n) =
          let q = o.miss n in
          let w = zeros-miss m sigma c i (λ z. n (e ∙ z)) in
          (ap length w ∙ s.counted ∙ sym q.0, ap (λ k. take k after) q.0 ∙ q.1 ∙ s.noted ∙ sym w)

  pub trying_next : count ≤ t → Trying m t sigma c n first after count (i + 1)
  trying_next r =
      let w = trying_list r in
      record {
        within = omega arith;
        same = o.same ∙ s.same;
        room = r;
        counted = ap (λ k. length (zeros m sigma c k)) (add-one i) ∙ w.0;
        noted = w.1 ∙ ap (zeros m sigma c) (sym (add-one i));
      }

  -- more than t
  trying_over : t < count → t < length (zeros m sigma c (n_of m))
  trying_over l = pick (ℕ_discrete v 0)
    where
      pick : Dec (v ≡ 0) → t < length (zeros m sigma c (n_of m))
      pick (yes z) =
          let q = o.hit z in
          let w : length (zeros m sigma c (suc i)) ≡ found + 1 =
          ap length (zeros_hit m sigma c i (sym e ∙ z)) ∙ length-append (zeros m sigma c i) (i ∷ []) ∙ ap (λ k. k + 1) s.counted in
          let d : suc i + (n_of m - suc i) ≡ n_of m = omega arith in
          let g : length (zeros m sigma c (suc i)) ≤ length (zeros m sigma c (n_of m)) = rw d at (zeros_grow m sigma c (suc i) (n_of m - suc i)) in
          omega (arith, q.0)
      pick (no n) = absurd (omega (arith, (o.miss n).0, s.room))

pub trying_passed : {m t c n found i v count : ℕ} {sigma first places after : List ℕ} → Trying m t sigma c n first places found i
    → n ≡ n_of m → i < n → v ≡ tried m sigma c i
    → NotedOne v i t found places count after → t < count → Tried m t sigma c count after
trying_passed s is h e o l = record { all_of = λ k. absurd (omega arith); most = λ k. trying_over s is h e o l }

pub trying_done : {m t c n found i : ℕ} {sigma first places : List ℕ} → Trying m t sigma c n first places found i → n ≡ n_of m
    → n ≤ i → Tried m t sigma c found places
trying_done {m} {t} {c} {n} {i = i} {sigma} s is h = record { all_of = λ k. s.noted ∙ ap (zeros m sigma c) end; most = λ k. absurd (omega (arith, s.room)) }
  where
    end : i ≡ n_of m
    end = omega (arith, s.within)

-- the trial of the coefficients in front

value_front : (m y : ℕ) (xs ys : List ℕ) (k c : ℕ) → ((i : ℕ) → i < c → get_or xs (k + i) 0 ≡ get_or ys (k + i) 0)
    → value_from m y xs k c ≡ value_from m y ys k c
value_front m y xs ys k zero h = value_zero m y xs k ∙ sym (value_zero m y ys k)
value_front m y xs ys k (suc c) h =
    value_suc m y xs k c
    ∙ ap₂ (λ u v. u ⊕ y ⊗⟨ m ⟩ v) (rw (add-zero k) at (h 0 (omega arith))) (value_front m y xs ys (suc k) c (λ i l. rw (back i) (h (suc i) (omega arith))))
    ∙ sym (value_suc m y ys k c)
  where
    back : (i : ℕ) → suc k + i ≡ k + suc i
    back i = omega arith

zeros_front : (m : ℕ) (sigma : List ℕ) (c i : ℕ) → zeros m (take c sigma) c i ≡ zeros m sigma c i
zeros_front m sigma c zero = zeros-zero m (take c sigma) c ∙ sym (zeros-zero m sigma c)
zeros_front m sigma c (suc i) =
    zeros-suc m (take c sigma) c i
    ∙ ap₂ (λ (v : ℕ) (l : List ℕ). cond (eqb v 0) (l ++ (i ∷ [])) l)
    (value_front m (power m a (n_of m - i)) (take c sigma) sigma 0 c (λ j h. get_or-take c sigma (0 + j) 0 (omega arith))) (zeros_front m sigma c i)
    ∙ sym (zeros-suc m sigma c i)

pub front_tried : {m t found : ℕ} {places : List ℕ} (c : ℕ) (sigma : List ℕ) → c ≤ length sigma → Tried m t (take c sigma) (length (take c sigma)) found places
    → Tried m t sigma c found places
front_tried {m} {t} {found} {places} c sigma h s =
    record { all_of = λ k. w.all_of k ∙ zeros_front m sigma c (n_of m); most = λ k. rw (← (zeros_front m sigma c (n_of m))) (w.most k) }
  where
    w : Tried m t (take c sigma) c found places
    w = subst (λ (n : ℕ). Tried m t (take c sigma) n found places) (length-take-le c sigma h) s

-- the sums of the places found, compared
pub agrees : {m t : ℕ} {r : Bool} {places sums before own : List ℕ} → Filled (place_sum m places) t before own → Same t own sums r → Agrees m t places sums r
agrees s u =
    record {
      yes = λ e i h. sym (s.holds i h) ∙ u.yes e i h;
      no = λ e z. u.no e (λ i h. s.holds i h ∙ z i h);
    }
