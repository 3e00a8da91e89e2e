-- The laws of the sums of a word: clauses, linearity, flips, squares, exponents modulo n.
use mathlib.Core.Path.{◌≡◌, ◌∙◌, refl, sym, ap, ap₂}
use mathlib.Core.List.{List, [], ◌∷◌, ◌++◌, Memᴰ}
use Prim.Native.Nat.{ℕ, zero, suc, ◌+◌, ◌*◌, ◌%◌, ◌^◌, ◌≤◌, ◌<◌, ◌-◌, ◌/◌}
use native.Mathlib.Nat.{add-suc, zero-mul, one-mul, mul-one, mul_left_comm, suc-mul, add-mul, pow-suc}
use native.Mathlib.Decide.{ℕ_discrete}
use native.Mathlib.Omega.{arith}
use lib.Bits.{bit_xor}
use lib.ListN.{length, get_or, replicate, length-append, length-replicate}
use lib.Pow.{pow_pos}
use Rattle.bits.specs.Bits.{AreBits, added, flip, flipped}
use Rattle.bits.specs.Work.{added_at}
use Rattle.bits.specs.Differences.{differences}
use Rattle.bits.proofs.DistanceLaws.{differences_place, flipped-differences}
use Rattle.bits.proofs.BitLaws.{added_at_at, bit_cases, bits_head, bits_tail, bits_cons, bits_replicate, bits_ones, bits_append}
use Rattle.bits.proofs.BitLaws.{bits_flip, added_none, added-cons, added_everywhere, added_at-zero, added_at-cons, flip-added}
use Rattle.bits.proofs.BitLaws.{length-flip, flipped-nil, flipped-cons, padded_at, zeros_at, bits_added, bits_added_at}
use Rattle.field.specs.Sum.{◌⊕◌}
use Rattle.field.specs.Product.{IsField, ◌⊗⟨◌⟩◌}
use Rattle.field.specs.Power.{a, n_of, power}
use Rattle.field.proofs.SumLaws.{xor-sum, sum-zero, zero-sum, sum_bound, sum_assoc}
use Rattle.field.proofs.ProductLaws.{product, product-zero, zero-product, one_product, product-one, product_bound, product_over, square_sum, product_rearrange}
use Rattle.field.proofs.PowerLaws.{power_zero, power-add, power_bound, power-one, power_even, one_bound, zero-power}
use Rattle.field.proofs.Order.{power-mod}
use Rattle.codes.specs.Sums.{sum_from, sum_of, sum_over}

-- the clauses

pub sum_from-nil : (m j i : ℕ) → sum_from m j i [] ≡ 0
unfolding sum_from
sum_from-nil m j i = refl

pub sum_from-cons : (m j i x : ℕ) (xs : List ℕ) → sum_from m j i (x ∷ xs) ≡ x * power m a (i * j) ⊕ sum_from m j (suc i) xs
unfolding sum_from
sum_from-cons m j i x xs = refl

pub sum_of_from : (m j : ℕ) (xs : List ℕ) → sum_of m j xs ≡ sum_from m j 0 xs
unfolding sum_of
sum_of_from m j xs = refl

pub sum_of-nil : (m j : ℕ) → sum_of m j [] ≡ 0
unfolding sum_of sum_from
sum_of-nil m j = refl

pub sum_over-nil : (m j : ℕ) → sum_over m j [] ≡ 0
unfolding sum_over
sum_over-nil m j = refl

pub sum_over-cons : (m j p : ℕ) (ps : List ℕ) → sum_over m j (p ∷ ps) ≡ power m a (p * j) ⊕ sum_over m j ps
unfolding sum_over
sum_over-cons m j p ps = refl

-- what stands at a place of two words added, as a sum of the field
pub added_place : (xs ys : List ℕ) → length ys ≤ length xs → (i : ℕ) → get_or (added xs ys) i 0 ≡ get_or xs i 0 ⊕ get_or ys i 0
unfolding ◌⊕◌
added_place = added_everywhere

-- a place of a sum from place at on
pub sum_place : (xs : List ℕ) (at : ℕ) (ys : List ℕ) (i : ℕ) → at ≤ i → i < length xs → get_or (added_at xs at ys) i 0 ≡ get_or xs i 0 ⊕ get_or ys (i - at) 0
unfolding ◌⊕◌
sum_place = added_at_at

-- only what stands at the places matters, not the length

sum_from-zeros : (m j i : ℕ) (xs : List ℕ) → ((k : ℕ) → get_or xs k 0 ≡ 0) → sum_from m j i xs ≡ 0
sum_from-zeros m j i [] h = sum_from-nil m j i
sum_from-zeros m j i (x ∷ xs) h =
    sum_from-cons m j i x xs
    ∙ ap₂ (λ y z. y * power m a (i * j) ⊕ z) (h 0) (sum_from-zeros m j (suc i) xs (λ k. h (suc k)))
    ∙ simp (zero-mul, zero-sum)

sum_from_same : (m j i : ℕ) (xs ys : List ℕ) → ((k : ℕ) → get_or xs k 0 ≡ get_or ys k 0) → sum_from m j i xs ≡ sum_from m j i ys
sum_from_same m j i [] ys h = sum_from-nil m j i ∙ sym (sum_from-zeros m j i ys (λ k. sym (h k)))
sum_from_same m j i (x ∷ xs) [] h = sum_from-zeros m j i (x ∷ xs) h ∙ sym (sum_from-nil m j i)
sum_from_same m j i (x ∷ xs) (y ∷ ys) h =
    sum_from-cons m j i x xs
    ∙ ap₂ (λ z w. z * power m a (i * j) ⊕ w) (h 0) (sum_from_same m j (suc i) xs ys (λ k. h (suc k)))
    ∙ sym (sum_from-cons m j i y ys)

pub sum_same : (m j : ℕ) (xs ys : List ℕ) → ((k : ℕ) → get_or xs k 0 ≡ get_or ys k 0) → sum_of m j xs ≡ sum_of m j ys
sum_same m j xs ys h = sum_of_from m j xs ∙ sum_from_same m j 0 xs ys h ∙ sym (sum_of_from m j ys)

pub sum_none : (m j : ℕ) (xs : List ℕ) → ((k : ℕ) → get_or xs k 0 ≡ 0) → sum_of m j xs ≡ 0
sum_none m j xs h = sum_of_from m j xs ∙ sum_from-zeros m j 0 xs h

pub sum_zeros : (m j s : ℕ) → sum_of m j (replicate s 0) ≡ 0
sum_zeros m j s = sum_none m j (replicate s 0) (zeros_at s)

module _ {m : ℕ} (L : IsField m) where
  bit_bound : {x : ℕ} → x ≤ 1 → x < 2 ^ m
  bit_bound h = omega (arith, one_bound L)

  -- a bit that multiplies a product may multiply its second factor instead
  bit_slides : (x y z : ℕ) → x ≤ 1 → x * (y ⊗⟨ m ⟩ z) ≡ y ⊗⟨ m ⟩ (x * z)
  bit_slides x y z h = bit_cases (λ x. x * (y ⊗⟨ m ⟩ z) ≡ y ⊗⟨ m ⟩ (x * z)) (simp (zero-mul, product-zero)) (simp one-mul) x h

  bit_square : (x : ℕ) → x ≤ 1 → x ⊗⟨ m ⟩ x ≡ x
  bit_square x h = bit_cases (λ x. x ⊗⟨ m ⟩ x ≡ x) (zero-product m 0) (one_product L 1 (one_bound L)) x h

  -- counting the places from k further on multiplies the sum by a^(k*j)
  sum_from_later : (j k i : ℕ) (xs : List ℕ) → AreBits xs → sum_from m j (k + i) xs ≡ power m a (k * j) ⊗⟨ m ⟩ sum_from m j i xs
  sum_from_later j k i [] b = sum_from-nil m j (k + i) ∙ sym (ap (λ z. power m a (k * j) ⊗⟨ m ⟩ z) (sum_from-nil m j i) ∙ product-zero m (power m a (k * j)))
  sum_from_later j k i (x ∷ xs) b =
      let later : sum_from m j (suc (k + i)) xs ≡ power m a (k * j) ⊗⟨ m ⟩ sum_from m j (suc i) xs =
      rw (← add-suc k i) (sum_from_later j k (suc i) xs (bits_tail b)) in
      sum_from-cons m j (k + i) x xs
      ∙ ap₂ (λ y z. x * y ⊕ z) (ap (power m a) (add-mul k i j) ∙ power-add L a (k * j) (i * j)) later
      ∙ ap (λ y. y ⊕ power m a (k * j) ⊗⟨ m ⟩ sum_from m j (suc i) xs) (bit_slides x (power m a (k * j)) (power m a (i * j)) (bits_head b))
      ∙ sym (product_over m (power m a (k * j)) (x * power m a (i * j)) (sum_from m j (suc i) xs))
      ∙ sym (ap (λ z. power m a (k * j) ⊗⟨ m ⟩ z) (sum_from-cons m j i x xs))

  -- the sum by its first place: the sum of the other places is multiplied by a^j
  pub sum-cons : (j x : ℕ) (xs : List ℕ) → AreBits (x ∷ xs) → sum_of m j (x ∷ xs) ≡ x ⊕ power m a j ⊗⟨ m ⟩ sum_of m j xs
  sum-cons j x xs b =
      let later : sum_from m j 1 xs ≡ power m a (1 * j) ⊗⟨ m ⟩ sum_from m j 0 xs = sum_from_later j 1 0 xs (bits_tail b) in
      rw (sum_of_from m j (x ∷ xs), sum_from-cons m j 0 x xs, later, zero-mul j, one-mul j, power_zero m a, mul-one x, sum_of_from m j xs) refl

  pub sum_bounded : (j : ℕ) (xs : List ℕ) → AreBits xs → sum_of m j xs < 2 ^ m
  sum_bounded j [] b = rw (sum_of-nil m j) (pow_pos m)
  sum_bounded j (x ∷ xs) b = rw (sum-cons j x xs b) (sum_bound m (bit_bound (bits_head b)) (product_bound L (power m a j) (sum_of m j xs)))

  pub next_power : (k j : ℕ) → power m a (suc k * j) ≡ power m a j ⊗⟨ m ⟩ power m a (k * j)
  next_power k j =
      let e : suc k * j ≡ j + k * j = omega (arith, suc-mul k j) in
      ap (power m a) e ∙ power-add L a j (k * j)

  pub first_power : (j : ℕ) → power m a (0 * j) ≡ 1
  first_power j = rw (zero-mul j) (power_zero m a)

  append_shape : (x p y q z : ℕ) → x ⊕ p ⊗⟨ m ⟩ (y ⊕ q ⊗⟨ m ⟩ z) ≡ x ⊕ p ⊗⟨ m ⟩ y ⊕ p ⊗⟨ m ⟩ q ⊗⟨ m ⟩ z
  append_shape x p y q z = simp product

  pub sum-append : (j : ℕ) (xs ys : List ℕ) → AreBits xs → AreBits ys
      → sum_of m j (xs ++ ys) ≡ sum_of m j xs ⊕ power m a (length xs * j) ⊗⟨ m ⟩ sum_of m j ys
  sum-append j [] ys b c =
      sym (ap₂ (λ y z. y ⊕ z ⊗⟨ m ⟩ sum_of m j ys) (sum_of-nil m j) (first_power j)
      ∙ zero-sum _
      ∙ one_product L (sum_of m j ys) (sum_bounded j ys c))
  sum-append j (x ∷ xs) ys b c =
      sum-cons j x (xs ++ ys) (bits_append b c)
      ∙ ap (λ z. x ⊕ power m a j ⊗⟨ m ⟩ z) (sum-append j xs ys (bits_tail b) c)
      ∙ append_shape x (power m a j) (sum_of m j xs) (power m a (length xs * j)) (sum_of m j ys)
      ∙ sym (ap₂ (λ y z. y ⊕ z ⊗⟨ m ⟩ sum_of m j ys) (sum-cons j x xs b) (next_power (length xs) j))

  added_shape : (x y p s t : ℕ) → x ⊕ y ⊕ p ⊗⟨ m ⟩ (s ⊕ t) ≡ x ⊕ p ⊗⟨ m ⟩ s ⊕ (y ⊕ p ⊗⟨ m ⟩ t)
  added_shape x y p s t = simp product

  pub sum_added : (j : ℕ) (xs ys : List ℕ) → AreBits xs → AreBits ys → length ys ≤ length xs
      → sum_of m j (added xs ys) ≡ sum_of m j xs ⊕ sum_of m j ys
  sum_added j xs [] b c h = ap (sum_of m j) (added_none xs) ∙ sym (ap (λ z. sum_of m j xs ⊕ z) (sum_of-nil m j) ∙ sum-zero _)
  sum_added j [] (y ∷ ys) b c h = absurd (omega arith)
  sum_added j (x ∷ xs) (y ∷ ys) b c h =
      let bits : AreBits (bit_xor x y ∷ added xs ys) = rw added-cons at (bits_added b c) in
      ap (sum_of m j) (added-cons x xs y ys)
      ∙ sum-cons j (bit_xor x y) (added xs ys) bits
      ∙ ap₂ (λ z w. z ⊕ power m a j ⊗⟨ m ⟩ w) (xor-sum x y) (sum_added j xs ys (bits_tail b) (bits_tail c) (omega arith))
      ∙ added_shape x y (power m a j) (sum_of m j xs) (sum_of m j ys)
      ∙ sym (ap₂ (λ z w. z ⊕ w) (sum-cons j x xs b) (sum-cons j y ys c))

  -- a word that is at every place the sum of two others
  pub sum_linear : (j : ℕ) (zs xs ys : List ℕ) → AreBits xs → AreBits ys → ((i : ℕ) → get_or zs i 0 ≡ get_or xs i 0 ⊕ get_or ys i 0)
      → sum_of m j zs ≡ sum_of m j xs ⊕ sum_of m j ys
  sum_linear j zs xs ys b c h =
      let padded : List ℕ = xs ++ replicate (length ys) 0 in
      let long : length ys ≤ length padded = omega (arith, length-append xs (replicate (length ys) 0), length-replicate {A = ℕ} (length ys) 0) in
      sum_same m j zs (added padded ys)
      (λ i. h i ∙ ap (λ x. x ⊕ get_or ys i 0) (sym (padded_at xs (length ys) i)) ∙ sym (added_place padded ys long i))
      ∙ sum_added j padded ys (bits_append b (bits_replicate (length ys))) c long
      ∙ ap (λ z. z ⊕ sum_of m j ys) (sum_same m j padded xs (padded_at xs (length ys)))

  pub sum-added_at : (j : ℕ) (xs : List ℕ) (at : ℕ) (ys : List ℕ) → AreBits xs → AreBits ys → at + length ys ≤ length xs
      → sum_of m j (added_at xs at ys) ≡ sum_of m j xs ⊕ power m a (at * j) ⊗⟨ m ⟩ sum_of m j ys
  sum-added_at j xs zero ys b c h =
      ap (sum_of m j) (added_at-zero xs ys)
      ∙ sum_added j xs ys b c (omega arith)
      ∙ sym (ap (λ z. sum_of m j xs ⊕ z) (ap (λ z. z ⊗⟨ m ⟩ sum_of m j ys) (first_power j) ∙ one_product L (sum_of m j ys) (sum_bounded j ys c)))
  sum-added_at j [] (suc at) ys b c h = absurd (omega arith)
  sum-added_at j (x ∷ xs) (suc at) ys b c h =
      let bits : AreBits (x ∷ added_at xs at ys) = bits_cons (bits_head b) (bits_added_at at (bits_tail b) c) in
      ap (sum_of m j) (added_at-cons x xs at ys)
      ∙ sum-cons j x (added_at xs at ys) bits
      ∙ ap (λ z. x ⊕ power m a j ⊗⟨ m ⟩ z) (sum-added_at j xs at ys (bits_tail b) c (omega arith))
      ∙ append_shape x (power m a j) (sum_of m j xs) (power m a (at * j)) (sum_of m j ys)
      ∙ sym (ap₂ (λ y z. y ⊕ z ⊗⟨ m ⟩ sum_of m j ys) (sum-cons j x xs b) (next_power at j))

  pub sum_one : (j : ℕ) → sum_of m j (1 ∷ []) ≡ 1
  sum_one j = sum-cons j 1 [] (bits_ones 1) ∙ (rw (sum_of-nil m j) (simp (product-zero, sum-zero)))

  pub sum-flip : (j : ℕ) (xs : List ℕ) (p : ℕ) → AreBits xs → p < length xs → sum_of m j (flip xs p) ≡ sum_of m j xs ⊕ power m a (p * j)
  sum-flip j xs p b h =
      ap (sum_of m j) (flip-added xs p b)
      ∙ sum-added_at j xs p (1 ∷ []) b (bits_ones 1) (omega arith)
      ∙ ap (λ z. sum_of m j xs ⊕ z) (ap (λ z. power m a (p * j) ⊗⟨ m ⟩ z) (sum_one j) ∙ product-one L (power m a (p * j)) (power_bound L a (p * j)))

  pub sum-flipped : (j : ℕ) (xs ps : List ℕ) → AreBits xs → ((p : ℕ) → Memᴰ p ps → p < length xs)
      → sum_of m j (flipped xs ps) ≡ sum_of m j xs ⊕ sum_over m j ps
  sum-flipped j xs [] b h = ap (sum_of m j) (flipped-nil xs) ∙ sym (ap (λ z. sum_of m j xs ⊕ z) (sum_over-nil m j) ∙ sum-zero _)
  sum-flipped j xs (p ∷ ps) b h =
      ap (sum_of m j) (flipped-cons xs p ps)
      ∙ sum-flipped j (flip xs p) ps (bits_flip p b) (λ q k. rw (length-flip xs p) (h q (Memᴰ.tail k)))
      ∙ ap (λ z. z ⊕ sum_over m j ps) (sum-flip j xs p b (h p (Memᴰ.head refl)))
      ∙ sum_assoc (sum_of m j xs) (power m a (p * j)) (sum_over m j ps)
      ∙ sym (ap (λ z. sum_of m j xs ⊕ z) (sum_over-cons m j p ps))

  -- two words' sums differ by those of the places where they differ
  pub sum-differences : (j : ℕ) (xs ys : List ℕ) → AreBits xs → AreBits ys → length xs ≡ length ys
      → sum_of m j ys ≡ sum_of m j xs ⊕ sum_over m j (differences xs ys)
  sum-differences j xs ys b c l =
      sym (ap (sum_of m j) (flipped-differences xs ys l b c)) ∙ sum-flipped j xs (differences xs ys) b (λ p k. (differences_place xs ys p k).0)

  -- squares

  pub sum_square : (j : ℕ) (xs : List ℕ) → AreBits xs → sum_of m (2 * j) xs ≡ sum_of m j xs ⊗⟨ m ⟩ sum_of m j xs
  sum_square j [] b = sum_of-nil m (2 * j) ∙ sym (rw (sum_of-nil m j) (product-zero m 0))
  sum_square j (x ∷ xs) b =
      let p : ℕ = power m a j in
      let s : ℕ = sum_of m j xs in
      sum-cons (2 * j) x xs b
      ∙ ap₂ (λ y z. x ⊕ y ⊗⟨ m ⟩ z) (power_even L a j) (sum_square j xs (bits_tail b))
      ∙ ap₂ (λ y z. y ⊕ z) (sym (bit_square x (bits_head b))) (product_rearrange L p p s s)
      ∙ sym (square_sum L x (p ⊗⟨ m ⟩ s))
      ∙ sym (ap (λ z. z ⊗⟨ m ⟩ z) (sum-cons j x xs b))

  pub sum_over_square : (j : ℕ) (ps : List ℕ) → sum_over m (2 * j) ps ≡ sum_over m j ps ⊗⟨ m ⟩ sum_over m j ps
  sum_over_square j [] = sum_over-nil m (2 * j) ∙ sym (rw (sum_over-nil m j) (product-zero m 0))
  sum_over_square j (p ∷ ps) =
      sum_over-cons m (2 * j) p ps
      ∙ ap₂ (λ y z. y ⊕ z) (ap (power m a) (mul_left_comm p 2 j) ∙ power_even L a (p * j)) (sum_over_square j ps)
      ∙ sym (square_sum L (power m a (p * j)) (sum_over m j ps))
      ∙ sym (ap (λ z. z ⊗⟨ m ⟩ z) (sum_over-cons m j p ps))

  -- exponents count modulo n
  pub sum-mod : (j : ℕ) (xs : List ℕ) → AreBits xs → sum_of m (j % n_of m) xs ≡ sum_of m j xs
  sum-mod j [] b = sum_of-nil m (j % n_of m) ∙ sym (sum_of-nil m j)
  sum-mod j (x ∷ xs) b =
      sum-cons (j % n_of m) x xs b ∙ ap₂ (λ y z. x ⊕ y ⊗⟨ m ⟩ z) (power-mod L j) (sum-mod j xs (bits_tail b)) ∙ sym (sum-cons j x xs b)

  sum_doubled : (i e : ℕ) (xs : List ℕ) → AreBits xs → sum_of m (i * 2 ^ e) xs ≡ power m (sum_of m i xs) (2 ^ e)
  sum_doubled i zero xs b = ap (λ j. sum_of m j xs) (mul-one i) ∙ sym (power-one L (sum_of m i xs) (sum_bounded i xs b))
  sum_doubled i (suc e) xs b =
      let twice : 2 ^ suc e ≡ 2 * 2 ^ e = omega (arith, pow-suc 2 e) in
      let moved : i * 2 ^ suc e ≡ 2 * (i * 2 ^ e) = ap (λ z. i * z) twice ∙ mul_left_comm i 2 (2 ^ e) in
      ap (λ j. sum_of m j xs) moved
      ∙ sum_square (i * 2 ^ e) xs b
      ∙ ap (λ z. z ⊗⟨ m ⟩ z) (sum_doubled i e xs b)
      ∙ sym (ap (power m (sum_of m i xs)) twice ∙ power_even L (sum_of m i xs) (2 ^ e))

  pub sum_residue : (i e : ℕ) (xs : List ℕ) → AreBits xs → sum_of m (i * 2 ^ e % n_of m) xs ≡ power m (sum_of m i xs) (2 ^ e)
  sum_residue i e xs b = sum-mod (i * 2 ^ e) xs b ∙ sum_doubled i e xs b

  -- a sum that is 0 makes those of its class 0
  pub sum_class : (i e : ℕ) (xs : List ℕ) → AreBits xs → sum_of m i xs ≡ 0 → sum_of m (i * 2 ^ e % n_of m) xs ≡ 0
  sum_class i e xs b h = sum_residue i e xs b ∙ ap (λ z. power m z (2 ^ e)) h ∙ zero-power L (2 ^ e) (pow_pos e)

-- "Over bits S_(2j) is the square of S_j, so S_1, S_3, .. S_(2t-1) are enough."
module _ {m : ℕ} (L : IsField m) (xs : List ℕ) (b : AreBits xs) (t : ℕ) (odd : (i : ℕ) → i < t → sum_of m (2 * i + 1) xs ≡ 0) where
  vanish_to : (most j : ℕ) → j ≤ most → 1 ≤ j → j ≤ 2 * t → sum_of m j xs ≡ 0
  vanish_to zero j h l u = absurd (omega arith)
  vanish_to (suc most) j h l u = pick (vanish_to most (j / 2)) (ℕ_discrete (j % 2) 0)
    where
      pick : (j / 2 ≤ most → 1 ≤ j / 2 → j / 2 ≤ 2 * t → sum_of m (j / 2) xs ≡ 0) → Dec (j % 2 ≡ 0) → sum_of m j xs ≡ 0
      pick f (yes e) =
          let half : j ≡ 2 * (j / 2) = omega arith in
          let z = f (omega arith) (omega arith) (omega arith) in
          ap (λ (k : ℕ). sum_of m k xs) half ∙ sum_square L (j / 2) xs b ∙ ap (λ (s : ℕ). s ⊗⟨ m ⟩ sum_of m (j / 2) xs) z ∙ zero-product m (sum_of m (j / 2) xs)
      pick f (no n) =
          let same : j ≡ 2 * (j / 2) + 1 = omega arith in
          ap (λ (k : ℕ). sum_of m k xs) same ∙ odd (j / 2) (omega arith)

  pub odd_sums : (j : ℕ) → 1 ≤ j → j ≤ 2 * t → sum_of m j xs ≡ 0
  odd_sums j l u = vanish_to j j (omega arith) l u
