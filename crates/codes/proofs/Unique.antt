-- One word for each message: the root bound for words of bits.
use mathlib.Core.Path.{◌≡◌, ◌∙◌, refl, sym, ap, ap₂, fst_path}
use mathlib.Core.Logic.{◌≢◌}
use mathlib.Core.List.Memᴰ
use mathlib.Core.List.{List, [], ◌∷◌, map, Memᴰ}
use Prim.Native.Nat.{ℕ, zero, suc, ◌-◌, ◌*◌, ◌≤◌, ◌<◌}
use native.Mathlib.Nat.{mod-lt}
use native.Mathlib.Decide.{dec_le}
use native.Mathlib.Omega.{arith}
use lib.ListN.{length, get_or, length-map}
use lib.Seq.{ext_get_or}
use Rattle.algebra.specs.Series as Series
use Rattle.algebra.proofs.Roots.{vanishing}
use Rattle.bits.specs.Bits.{AreBits, added}
use Rattle.bits.proofs.BitLaws.{bits_tail, bits_added}
use Rattle.field.specs.Sum.{◌⊕◌}
use Rattle.field.specs.Product.{IsField, ◌⊗⟨◌⟩◌}
use Rattle.field.specs.Power.{a, n_of, power}
use Rattle.field.proofs.SumLaws.{sum_self, zero-sum, equal_of_sum}
use Rattle.field.proofs.ProductLaws.{product-zero}
use Rattle.field.proofs.PowerLaws.{power_bound, one_bound}
use Rattle.field.proofs.Order.{power_injective, eight_bound}
use Rattle.field.proofs.Field.{Element, el_path, element, ring_of, field}
use Rattle.codes.specs.Table.{ks, ts}
use Rattle.codes.specs.Rows.{RowOf}
use Rattle.codes.specs.Rule.{Residue}
use Rattle.codes.specs.Sums.{sum_of, CodeWord}
use Rattle.codes.proofs.Count.{members, members_distinct}
use Rattle.codes.proofs.Walk.{right_row_at}
use Rattle.codes.proofs.SumLaws.{added_place, sum_of-nil, sum_none, sum-cons, sum_added, sum_class}

-- d different residues of t; the sums of a code word at them are 0
pub record Roots (m t d : ℕ) (rs : List ℕ) : Type 0 where
  pub long : length rs ≡ d
  pub differ : (i j : ℕ) → i < j → j < d → get_or rs i 0 ≢ get_or rs j 0
  pub residue : (i : ℕ) → i < d → Residue (n_of m) t (get_or rs i 0)

module _ {m : ℕ} (L : IsField m) where
  -- a series that holds the word's bits: its value at a^j is the sum
  pub evaluate_word : (j d : ℕ) (p : ℕ → Element m) (y : Element m) (xs : List ℕ) → AreBits xs → ((i : ℕ) → (p i).0 ≡ get_or xs i 0)
      → ((i : ℕ) → d ≤ i → get_or xs i 0 ≡ 0) → y.0 ≡ power m a j → (Series.evaluate (ring_of m L) d p y).0 ≡ sum_of m j xs
  unfolding Series.evaluate
  evaluate_word j zero p y xs b e z h = sym (sum_none m j xs (λ i. z i (omega arith)))
  evaluate_word j (suc d) p y [] b e z h =
      ap₂ (λ u v. u ⊕ y.0 ⊗⟨ m ⟩ v) (e 0) (evaluate_word j d (λ n. p (suc n)) y [] b (λ i. e (suc i)) (λ i l. refl) h ∙ sum_of-nil m j)
      ∙ ap (λ v. 0 ⊕ v) (product-zero m y.0)
      ∙ zero-sum 0
      ∙ sym (sum_of-nil m j)
  evaluate_word j (suc d) p y (x ∷ xs) b e z h =
      ap₂ (λ u v. u ⊕ y.0 ⊗⟨ m ⟩ v) (e 0)
      (evaluate_word j d (λ n. p (suc n)) y xs (bits_tail b) (λ i. e (suc i)) (λ i l. z (suc i) (omega arith)) h)
      ∙ ap (λ u. x ⊕ u ⊗⟨ m ⟩ sum_of m j xs) h
      ∙ sym (sum-cons L j x xs b)

  abbrev point : ℕ → Element m
  point r = element (power m a r) (power_bound L a r)

  points_place : (y : Element m) (rs : List ℕ) → Memᴰ y (map point rs) → (i : ℕ) × (i < length rs) × (y.0 ≡ power m a (get_or rs i 0))
  points_place y [] k = absurd (Memᴰ.not-nil k)
  points_place y (r ∷ rs) (Memᴰ.head e) = (0, omega arith, fst_path e)
  points_place y (r ∷ rs) (Memᴰ.tail k) =
      let (i, l, e) = points_place y rs k in
      (suc i, omega arith, e)

  points_distinct : (rs : List ℕ) → ((i j : ℕ) → i < j → j < length rs → get_or rs i 0 ≢ get_or rs j 0) → ((i : ℕ) → i < length rs → get_or rs i 0 < n_of m)
      → Series.Distinct (ring_of m L) (map point rs)
  points_distinct [] h l = tt
  points_distinct (r ∷ rs) h l = (other, points_distinct rs (λ i j u v. h (suc i) (suc j) (omega arith) (omega arith)) (λ i u. l (suc i) (omega arith)))
    where
      other : Memᴰ (point r) (map point rs) → ⊥
      other k =
          let (i, u, e) = points_place (point r) rs k in
          h 0 (suc i) (omega arith) (omega arith) (power_injective L r (get_or rs i 0) (l 0 (omega arith)) (l (suc i) (omega arith)) e)

  -- d bits whose sums are 0 at d different exponents below n are all 0
  pub zero_by_roots : (d : ℕ) (rs : List ℕ) → length rs ≡ d → ((i j : ℕ) → i < j → j < d → get_or rs i 0 ≢ get_or rs j 0)
      → ((i : ℕ) → i < d → get_or rs i 0 < n_of m)
      → (xs : List ℕ) → AreBits xs → ((i : ℕ) → d ≤ i → get_or xs i 0 ≡ 0) → ((i : ℕ) → i < d → sum_of m (get_or rs i 0) xs ≡ 0)
      → (i : ℕ) → get_or xs i 0 ≡ 0
  zero_by_roots d rs long differ below xs b z h i = pick (dec_le d i)
    where
      bits : ℕ → Element m
      bits k = element (get_or xs k 0) (omega (arith, b.at k, one_bound L))

      at_root : (y : Element m) → Memᴰ y (map point rs) → Series.evaluate (ring_of m L) d bits y ≡ (ring_of m L).𝟘
      at_root y k =
          let (i, l, e) = points_place y rs k in
          el_path (evaluate_word (get_or rs i 0) d bits y xs b (λ k. refl) z e ∙ h i (omega arith))

      pick : Dec (d ≤ i) → get_or xs i 0 ≡ 0
      pick (yes l) = z i l
      pick (no l) =
          fst_path (vanishing (field m L) d bits (map point rs)
          (points_distinct rs (λ i j u v. differ i j u (omega arith)) (λ i u. below i (omega arith)))
          (length-map rs point ∙ long) at_root i (omega arith))

  module _ {t d : ℕ} {rs : List ℕ} (R : Roots m t d rs) where
    root_below : (i : ℕ) → i < d → get_or rs i 0 < n_of m
    root_below i l = rw (← (R.residue i l).is) (mod-lt _ (omega (arith, eight_bound L)))

    -- the sums that are 0 for 1 to 2t are 0 at every root
    root_sum : (xs : List ℕ) → AreBits xs → ((j : ℕ) → 1 ≤ j → j ≤ 2 * t → sum_of m j xs ≡ 0) → (i : ℕ) → i < d → sum_of m (get_or rs i 0) xs ≡ 0
    root_sum xs b h i l =
        let r = R.residue i l in
        rw (← r.is) (sum_class L r.i r.j xs b (h r.i r.least r.most))

    -- d bits whose sums are 0 for 1 to 2t are all 0
    pub only_zero : (xs : List ℕ) → AreBits xs → ((i : ℕ) → d ≤ i → get_or xs i 0 ≡ 0) → ((j : ℕ) → 1 ≤ j → j ≤ 2 * t → sum_of m j xs ≡ 0)
        → (i : ℕ) → get_or xs i 0 ≡ 0
    only_zero xs b z h = zero_by_roots d rs R.long R.differ root_below xs b z (root_sum xs b h)

    -- two words that agree from place d on, with the same sums
    pub same_words : (xs ys : List ℕ) → AreBits xs → AreBits ys → length xs ≡ length ys → ((i : ℕ) → d ≤ i → get_or xs i 0 ≡ get_or ys i 0)
        → ((j : ℕ) → 1 ≤ j → j ≤ 2 * t → sum_of m j xs ≡ 0) → ((j : ℕ) → 1 ≤ j → j ≤ 2 * t → sum_of m j ys ≡ 0) → xs ≡ ys
    same_words xs ys b c e z h k =
        ext_get_or 0 xs ys e
        (λ i l. equal_of_sum
        (sym (at i)
        ∙ only_zero (added xs ys) (bits_added b c)
        (λ i l. at i ∙ ap (λ x. x ⊕ get_or ys i 0) (z i l) ∙ sum_self (get_or ys i 0))
        (λ j l u. sum_added L j xs ys b c (omega arith) ∙ ap₂ (λ x y. x ⊕ y) (h j l u) (k j l u) ∙ zero-sum 0) i))
      where
        at : (i : ℕ) → get_or (added xs ys) i 0 ≡ get_or xs i 0 ⊕ get_or ys i 0
        at = added_place xs ys (omega arith)

    pub one_code_word : (c w : List ℕ) → CodeWord m t c → CodeWord m t w → ((i : ℕ) → d ≤ i → get_or c i 0 ≡ get_or w i 0) → c ≡ w
    one_code_word c w C W z = same_words c w C.bits W.bits (C.long ∙ sym W.long) z C.sums W.sums

-- d different residues of t, for users of the root bound
pub roots_of_row : {m r : ℕ} → RowOf m r → (rs : List ℕ) × Roots m (get_or ts r 0) (n_of m - get_or ks r 0) rs
roots_of_row w =
    let M = members (right_row_at w).count in
    (M.list, record { long = M.long; differ = members_distinct M; residue = M.have })
