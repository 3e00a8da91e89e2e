-- The sums of a product of bit polynomials, long division over bits, and that every code word is a multiple of the generator.
use mathlib.Core.Path.{◌≡◌, ◌∙◌, refl, sym, ap, ap₂}
use mathlib.Core.List.{List, [], ◌∷◌, map}
use Prim.Native.Nat.{ℕ, zero, suc, ◌+◌, ◌*◌, ◌≤◌}
use native.Mathlib.Nat.{zero-mul, one-mul, mul-one, mul-zero}
use native.Mathlib.Decide.{ℕ_discrete}
use native.Mathlib.Omega.{arith}
use lib.ListN.{length, get_or, replicate, length-map, length-replicate, get_or-eq_default}
use Rattle.bits.specs.Bits.{AreBits, added}
use Rattle.bits.specs.Polynomial.{product_bits}
use Rattle.bits.proofs.BitLaws.{times_at, bit_cases, bits_head, bits_tail, bits_nil, bits_cons, bits_replicate, bits_added}
use Rattle.bits.proofs.BitLaws.{bits_times, bits_product, length-added, product-nil, product-cons, length-product, zeros_at}
use Rattle.field.specs.Sum.{◌⊕◌}
use Rattle.field.specs.Product.{IsField, ◌⊗⟨◌⟩◌}
use Rattle.field.specs.Power.{a, power}
use Rattle.field.proofs.SumLaws.{sum, sum_self, sum-zero, zero-sum}
use Rattle.field.proofs.ProductLaws.{product, product-zero, zero-product, one_product}
use Rattle.codes.specs.Sums.{sum_of}
use Rattle.codes.proofs.SumLaws.{sum_of-nil, sum_same, sum_none, sum_zeros, sum-cons, sum_bounded, sum_added, sum_linear, added_place}
use Rattle.codes.proofs.Unique.{Roots, only_zero}
use Rattle.generator.specs.Generator.{Generator}
use Rattle.generator.proofs.ProductPlaces.{product_place}

module _ {m : ℕ} (L : IsField m) where
  sum_times : (j x : ℕ) (ys : List ℕ) → x ≤ 1 → AreBits ys → sum_of m j (map (λ y. x * y) ys) ≡ x ⊗⟨ m ⟩ sum_of m j ys
  sum_times j x ys h b =
      bit_cases (λ x. sum_of m j (map (λ y. x * y) ys) ≡ x ⊗⟨ m ⟩ sum_of m j ys)
      (sum_none m j (map (λ y. 0 * y) ys) (λ i. times_at 0 ys i ∙ zero-mul (get_or ys i 0)) ∙ sym (zero-product m (sum_of m j ys)))
      (sum_same m j (map (λ y. 1 * y) ys) ys (λ i. times_at 1 ys i ∙ one-mul (get_or ys i 0)) ∙ sym (one_product L (sum_of m j ys) (sum_bounded L j ys b))) x h

  product_shape : (x p s t : ℕ) → 0 ⊕ p ⊗⟨ m ⟩ (s ⊗⟨ m ⟩ t) ⊕ x ⊗⟨ m ⟩ t ≡ (x ⊕ p ⊗⟨ m ⟩ s) ⊗⟨ m ⟩ t
  product_shape x p s t = simp product

  pub sum-product : (j : ℕ) (xs ys : List ℕ) → AreBits xs → AreBits ys → sum_of m j (product_bits xs ys) ≡ sum_of m j xs ⊗⟨ m ⟩ sum_of m j ys
  sum-product j [] ys b c =
      ap (sum_of m j) (product-nil ys)
      ∙ sum_zeros m j (length ys)
      ∙ sym (ap (λ z. z ⊗⟨ m ⟩ sum_of m j ys) (sum_of-nil m j) ∙ zero-product m (sum_of m j ys))
  sum-product j (x ∷ xs) ys b c =
      let shifted : AreBits (0 ∷ product_bits xs ys) = bits_cons (omega arith) (bits_product (bits_tail b) c) in
      let fits : length (map (λ y. x * y) ys) ≤ length (0 ∷ product_bits xs ys) = omega (arith, length-map ys (λ y. x * y), length-product xs ys) in
      ap (sum_of m j) (product-cons x xs ys)
      ∙ sum_added L j (0 ∷ product_bits xs ys) (map (λ y. x * y) ys) shifted (bits_times (bits_head b) c) fits
      ∙ ap₂ (λ y z. y ⊕ z)
      (sum-cons L j 0 (product_bits xs ys) shifted ∙ ap (λ z. 0 ⊕ power m a j ⊗⟨ m ⟩ z) (sum-product j xs ys (bits_tail b) c))
      (sum_times j x ys (bits_head b) c)
      ∙ product_shape x (power m a j) (sum_of m j xs) (sum_of m j ys)
      ∙ sym (ap (λ z. z ⊗⟨ m ⟩ sum_of m j ys) (sum-cons L j x xs b))

-- a multiple of g has the roots of g
pub multiple_root : {m : ℕ} → IsField m → (j : ℕ) {g q : List ℕ} (c : List ℕ) → AreBits g → AreBits q
    → ((i : ℕ) → get_or c i 0 ≡ get_or (product_bits q g) i 0) → sum_of m j g ≡ 0 → sum_of m j c ≡ 0
multiple_root {m} L j {g} {q} c b e w z =
    sum_same m j c (product_bits q g) w ∙ sum-product L j q g e b ∙ ap (λ (y : ℕ). sum_of m j q ⊗⟨ m ⟩ y) z ∙ product-zero m (sum_of m j q)

-- c divided by g of degree d: c is q times g plus r, and r is 0 from place d on
pub record Divided (d : ℕ) (g c : List ℕ) : Type 0 where
  pub q : List ℕ
  pub r : List ℕ
  pub q_bits : AreBits q
  pub r_bits : AreBits r
  pub r_long : d ≤ length r
  pub r_zero : (i : ℕ) → d ≤ i → get_or r i 0 ≡ 0
  pub whole : (i : ℕ) → get_or c i 0 ≡ get_or (product_bits q g) i 0 ⊕ get_or r i 0

twice_shape : (x y z : ℕ) → x ⊕ y ≡ x ⊕ z ⊕ (y ⊕ z)
twice_shape x y z = simp sum

module _ (d : ℕ) (g : List ℕ) (long : length g ≡ d + 1) (bits : AreBits g) (top : get_or g d 0 ≡ 1) where
  divided_nil : Divided d g []
  divided_nil = record {
    q = [];
    r = replicate d 0;
    q_bits = bits_nil;
    r_bits = bits_replicate d;
    r_long = omega (arith, length-replicate {A = ℕ} d 0);
    r_zero = λ i l. zeros_at d i;
    whole = λ i. sym (ap₂ (λ x y. x ⊕ y) (ap (λ xs. get_or xs i 0) (product-nil g) ∙ zeros_at (length g) i) (zeros_at d i) ∙ zero-sum 0);
  }

  -- one more bit brought down: where place d of what is left then holds 1, g is taken away
  divided_cons : (x : ℕ) (c : List ℕ) → x ≤ 1 → Divided d g c → Divided d g (x ∷ c)
  divided_cons x c h D = record {
    q = e ∷ D.q;
    r = added next taken;
    q_bits = bits_cons (next_bits.at d) D.q_bits;
    r_bits = bits_added next_bits (bits_times (next_bits.at d) bits);
    r_long = omega (arith, length-added next taken, D.r_long);
    r_zero = λ i l. left_at i ∙ above i l;
    whole = whole;
  }
    where
      next : List ℕ
      next = x ∷ D.r

      next_bits : AreBits next
      next_bits = bits_cons h D.r_bits

      e : ℕ
      e = get_or next d 0

      taken : List ℕ
      taken = map (λ y. e * y) g

      left_at : (i : ℕ) → get_or (added next taken) i 0 ≡ get_or next i 0 ⊕ e * get_or g i 0
      left_at i = added_place next taken (omega (arith, length-map g (λ y. e * y), D.r_long)) i ∙ ap (λ z. get_or next i 0 ⊕ z) (times_at e g i)

      above : (i : ℕ) → d ≤ i → get_or next i 0 ⊕ e * get_or g i 0 ≡ 0
      above i l = pick i l (ℕ_discrete i d)
        where
          pick : (i : ℕ) → d ≤ i → Dec (i ≡ d) → get_or next i 0 ⊕ e * get_or g i 0 ≡ 0
          pick i l (yes p) = rw (p, top, mul-one e) (sum_self e)
          pick zero l (no p) = absurd (omega arith)
          pick (suc i) l (no p) = rw (D.r_zero i (omega arith), get_or-eq_default g 0 {n = suc i} (omega arith), mul-zero e) (zero-sum 0)

      brought : (i : ℕ) → get_or (x ∷ c) i 0 ≡ get_or (0 ∷ product_bits D.q g) i 0 ⊕ get_or next i 0
      brought zero = sym (zero-sum x)
      brought (suc i) = D.whole i

      whole : (i : ℕ) → get_or (x ∷ c) i 0 ≡ get_or (product_bits (e ∷ D.q) g) i 0 ⊕ get_or (added next taken) i 0
      whole i =
          brought i
          ∙ twice_shape (get_or (0 ∷ product_bits D.q g) i 0) (get_or next i 0) (e * get_or g i 0)
          ∙ sym (ap₂ (λ y z. y ⊕ z) (product_place e D.q g i) (left_at i))

  pub divided : (c : List ℕ) → AreBits c → Divided d g c
  divided [] b = divided_nil
  divided (x ∷ c) b = divided_cons x c (bits_head b) (divided c (bits_tail b))

-- what is left of a division of c by g has the roots that c and g both have
pub left_root : {m : ℕ} → IsField m → (j : ℕ) {d : ℕ} {g c : List ℕ} → AreBits g → (D : Divided d g c) → sum_of m j g ≡ 0 → sum_of m j c ≡ 0
    → sum_of m j D.r ≡ 0
left_root {m} L j {d} {g} {c} b D z h =
    sym (zero-sum (sum_of m j D.r))
    ∙ ap (λ (y : ℕ). y ⊕ sum_of m j D.r) (sym (multiple_root L j (product_bits D.q g) b D.q_bits (λ i. refl) z))
    ∙ sym (sum_linear L j c (product_bits D.q g) D.r (bits_product D.q_bits b) D.r_bits D.whole)
    ∙ h

-- where nothing is left, c is a multiple of g
pub none_left : {d : ℕ} {g c : List ℕ} (D : Divided d g c) → ((i : ℕ) → get_or D.r i 0 ≡ 0)
    → (q : List ℕ) × AreBits q × ((i : ℕ) → get_or c i 0 ≡ get_or (product_bits q g) i 0)
none_left {g = g} D left =
    (D.q, D.q_bits, λ i. D.whole i ∙ ap (λ (y : ℕ). get_or (product_bits D.q g) i 0 ⊕ y) (left i) ∙ sum-zero (get_or (product_bits D.q g) i 0))

-- every word with the sums of a code word is a multiple of the generator
pub multiple : {m : ℕ} (L : IsField m) {t d : ℕ} {rs : List ℕ} → Roots m t d rs → {g : List ℕ} → Generator m t d g → (c : List ℕ) → AreBits c
    → ((j : ℕ) → 1 ≤ j → j ≤ 2 * t → sum_of m j c ≡ 0) → (q : List ℕ) × AreBits q × ((i : ℕ) → get_or c i 0 ≡ get_or (product_bits q g) i 0)
multiple L {d = d} R {g} G c b h =
    let D = divided d g G.long G.bits G.top c b in
    none_left D (only_zero L R D.r D.r_bits D.r_zero (λ j l u. left_root L j G.bits D (G.sums j l u) (h j l u)))
