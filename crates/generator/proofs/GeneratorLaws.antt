-- The product of the minimal polynomials of the rows up to r is the generator of row r: its bits, its degree, its sums, and that there is no other.
use mathlib.Core.Path.{◌≡◌, ◌∙◌, refl, sym, ap}
use mathlib.Core.List.{List, [], ◌∷◌}
use Prim.Native.Nat.{ℕ, zero, suc, ◌+◌, ◌-◌, ◌*◌, ◌≤◌, ◌<◌}
use native.Mathlib.Decide.{dec_le, ℕ_discrete}
use native.Mathlib.Omega.{arith}
use lib.ListN.{get_or, take, get_or-eq_default}
use Rattle.bits.specs.Bits.{AreBits}
use Rattle.bits.specs.Polynomial.{product_bits}
use Rattle.bits.proofs.BitLaws.{bits_take, bits_ones, bits_product}
use Rattle.field.specs.Product.{IsField, ◌⊗⟨◌⟩◌}
use Rattle.field.specs.Power.{n_of}
use Rattle.field.proofs.ProductLaws.{zero-product, product-zero}
use Rattle.codes.specs.Table.{ks, ts, first}
use Rattle.codes.specs.Rows.{RowOf, before_k, before_t}
use Rattle.codes.specs.Sums.{sum_of}
use Rattle.codes.proofs.Rows.{RowBefore, at_first, after, row_before, row_facts, smaller_class}
use Rattle.codes.proofs.SumLaws.{sum_same, sum_class}
use Rattle.codes.proofs.Unique.{Roots, same_words, roots_of_row}
use Rattle.generator.specs.Generator.{Generator}
use Rattle.generator.specs.Factors.{minimal_of, product_of, generator_of}
use Rattle.generator.proofs.Multiple.{sum-product}
use Rattle.generator.proofs.Degrees.{HasDegree, degree_of-one, cut_long, cut_at, product_degree}
use Rattle.generator.proofs.Minimals.{minimal_bits, minimal_root, minimal_degree}

-- the product for the row (k, t)
record Generated (m k t : ℕ) (g : List ℕ) : Type 0 where
  bits : AreBits g
  degree : HasDegree (n_of m - k) g
  sums : (j : ℕ) → 1 ≤ j → j ≤ 2 * t → sum_of m j g ≡ 0

-- before the first row
nothing_generated : (m : ℕ) → Generated m (n_of m) 0 (1 ∷ [])
nothing_generated m =
    let z : n_of m - n_of m ≡ 0 = omega arith in
    record { bits = bits_ones 1; degree = rw z degree_of-one; sums = λ j l h. absurd (omega arith) }

module _ {m r : ℕ} (w : RowOf m r) where
  -- sums that are 0 up to the first of a class that the row adds are 0 up to 2t
  sums_up : (xs : List ℕ) → AreBits xs → ((j : ℕ) → 1 ≤ j → j ≤ 2 * before_t m r + 1 → sum_of m j xs ≡ 0)
      → (b j : ℕ) → j ≤ b → 1 ≤ j → j ≤ 2 * get_or ts r 0 → sum_of m j xs ≡ 0
  sums_up xs c old zero j u l h = absurd (omega arith)
  sums_up xs c old (suc b) j u l h = pick (dec_le j (2 * before_t m r + 1)) (sums_up xs c old b)
    where
      pick : Dec (j ≤ 2 * before_t m r + 1) → ((i : ℕ) → i ≤ b → 1 ≤ i → i ≤ 2 * get_or ts r 0 → sum_of m i xs ≡ 0) → sum_of m j xs ≡ 0
      pick (yes p) rest = old j l p
      pick (no p) rest =
          let (i, e, x, y, z) = smaller_class w j (omega arith) h in
          rw (← z) (sum_class w.listed i e xs c (rest i (omega arith) x (omega arith)))

  one_more : {g : List ℕ} → Generated m (before_k m r) (before_t m r) g → Generated m (get_or ks r 0) (get_or ts r 0) (product_bits (minimal_of r) g)
  one_more {g} G =
      let F = row_facts w in
      let e : before_k m r - get_or ks r 0 + (n_of m - before_k m r) ≡ n_of m - get_or ks r 0 = omega arith in
      record {
        bits = both_bits;
        degree = rw (← e) (product_degree (minimal_degree w) G.degree);
        sums = λ j. sums_up (product_bits (minimal_of r) g) both_bits start j j (omega arith);
      }
    where
      both_bits : AreBits (product_bits (minimal_of r) g)
      both_bits = bits_product (minimal_bits r) G.bits

      start : (j : ℕ) → 1 ≤ j → j ≤ 2 * before_t m r + 1 → sum_of m j (product_bits (minimal_of r) g) ≡ 0
      start j l h = sum-product w.listed j (minimal_of r) g (minimal_bits r) G.bits ∙ pick (ℕ_discrete j (2 * before_t m r + 1))
        where
          pick : Dec (j ≡ 2 * before_t m r + 1) → sum_of m j (minimal_of r) ⊗⟨ m ⟩ sum_of m j g ≡ 0
          pick (yes p) =
              ap (λ i. sum_of m i (minimal_of r) ⊗⟨ m ⟩ sum_of m j g) p ∙ ap (λ z. z ⊗⟨ m ⟩ sum_of m j g) (minimal_root w) ∙ zero-product m (sum_of m j g)
          pick (no p) = ap (λ z. sum_of m j (minimal_of r) ⊗⟨ m ⟩ z) (G.sums j l (omega arith)) ∙ product-zero m (sum_of m j (minimal_of r))

product_of_none : (r : ℕ) → product_of r zero ≡ 1 ∷ []
unfolding product_of
product_of_none r = refl

product_of_more : (r c : ℕ) → product_of r (suc c) ≡ product_bits (minimal_of (r + c)) (product_of r c)
unfolding product_of
product_of_more r c = refl

-- the rows of m before row first m + c
before_generated : (m c : ℕ) → RowOf m (first m + c) → Generated m (before_k m (first m + c)) (before_t m (first m + c)) (product_of (first m) c)
before_generated m zero w = pick (row_before w)
  where
    pick : RowBefore m (first m + zero) → Generated m (before_k m (first m + zero)) (before_t m (first m + zero)) (product_of (first m) zero)
    pick (at_first e f g) = rw (f, g, product_of_none (first m)) (nothing_generated m)
    pick (after u e f g) = absurd (omega arith)
before_generated m (suc c) w = pick (row_before w) (before_generated m c)
  where
    pick : RowBefore m (first m + suc c) → (RowOf m (first m + c) → Generated m (before_k m (first m + c)) (before_t m (first m + c)) (product_of (first m) c))
        → Generated m (before_k m (first m + suc c)) (before_t m (first m + suc c)) (product_of (first m) (suc c))
    pick (at_first e f g) rest = absurd (omega arith)
    pick (after {q} u e f g) rest =
        let i : q ≡ first m + c = omega arith in
        let v : RowOf m (first m + c) = rw i at u in
        rw (f, g, i, product_of_more (first m) c) (one_more v (rest v))

generated : {m r : ℕ} → RowOf m r → Generated m (get_or ks r 0) (get_or ts r 0) (generator_of m r)
unfolding generator_of
generated {m} {r} w =
    let i : first m + (r - first m) ≡ r = omega arith in
    let c : suc r - first m ≡ suc (r - first m) = omega arith in
    let before : Generated m (before_k m r) (before_t m r) (product_of (first m) (r - first m)) = rw i at (before_generated m (r - first m) (rw i w)) in
    rw (c, product_of_more (first m) (r - first m), i) (one_more w before)

module _ {m : ℕ} (L : IsField m) {t d : ℕ} {rs : List ℕ} (R : Roots m t d rs) where
  pub one_generator : (g h : List ℕ) → Generator m t d g → Generator m t d h → g ≡ h
  one_generator g h G H = same_words L R g h G.bits H.bits (G.long ∙ sym H.long) above G.sums H.sums
    where
      past : (w : List ℕ) → Generator m t d w → (i : ℕ) → d < i → get_or w i 0 ≡ 0
      past w W i l = get_or-eq_default w 0 (omega (arith, W.long))

      above : (i : ℕ) → d ≤ i → get_or g i 0 ≡ get_or h i 0
      above i l = pick (ℕ_discrete i d)
        where
          pick : Dec (i ≡ d) → get_or g i 0 ≡ get_or h i 0
          pick (yes e) = rw e (G.top ∙ sym H.top)
          pick (no e) = past g G i (omega arith) ∙ sym (past h H i (omega arith))

module _ {m r : ℕ} (w : RowOf m r) where
  pub generator_top : get_or (generator_of m r) (n_of m - get_or ks r 0) 0 ≡ 1
  generator_top = (generated w).degree.top

  pub generator_exists : Generator m (get_or ts r 0) (n_of m - get_or ks r 0) (take (n_of m - get_or ks r 0 + 1) (generator_of m r))
  generator_exists =
      let G = generated w in
      record {
        long = cut_long G.degree;
        bits = bits_take (n_of m - get_or ks r 0 + 1) G.bits;
        top = cut_at G.degree (n_of m - get_or ks r 0) ∙ G.degree.top;
        sums = λ j l h. sum_same m j (take (n_of m - get_or ks r 0 + 1) (generator_of m r)) (generator_of m r) (cut_at G.degree) ∙ G.sums j l h;
      }

  -- the one generator of the row is the product
  pub generator_is_product : (g : List ℕ) → Generator m (get_or ts r 0) (n_of m - get_or ks r 0) g → (i : ℕ) → get_or g i 0 ≡ get_or (generator_of m r) i 0
  generator_is_product g G i =
      ap (λ (xs : List ℕ). get_or xs i 0)
      (one_generator w.listed (roots_of_row w).1 g (take (n_of m - get_or ks r 0 + 1) (generator_of m r)) G generator_exists)
      ∙ cut_at (generated w).degree i
