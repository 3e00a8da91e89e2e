-- The laws of lists of bits: lengths, what stands at a place, and that bits stay bits.
use mathlib.Core.Path.{◌≡◌, ◌∙◌, refl, sym, ap, ap₂, subst}
use mathlib.Core.Logic.{◌≢◌}
use mathlib.Core.Bool.{Bool, true, false, cond}
use mathlib.Core.List.{List, [], ◌∷◌, ◌++◌, map}
use Prim.Native.Nat.{ℕ, zero, suc, ◌+◌, ◌-◌, ◌*◌, ◌≤◌, ◌<◌}
use native.Mathlib.Nat.{le_antisymm, zero-add, suc-add, lt_of_not-le, suc_inj, zero-mul, one-mul, mul-zero}
use native.Mathlib.Decide.{dec_le}
use native.Mathlib.Omega.{arith}
use borrow.Author.Tests.{le-ltb, ltb-false}
use lib.Bits.{bit_xor, xor_lt, xor_zero_r, xor_self, xor_comm}
use lib.Dec.{T, leb, leb→le}
use lib.ListN.{length, get_or, set, take, drop, replicate, length-set, length-replicate, length-map, get_or-eq_default}
use lib.Seq.{get_or-set_same, get_or-set_other, get_or-drop}
use Rattle.bits.specs.Bits.{AreBits, first_above, has_bad_bit, added, flip, flipped}
use Rattle.bits.specs.Work.{added_at}
use Rattle.bits.specs.Polynomial.{product_bits}

-- one bit

-- what holds of 0 and of 1 holds of a bit
pub bit_cases : (P : ℕ → Type 0) → P 0 → P 1 → (x : ℕ) → x ≤ 1 → P x
bit_cases P h l zero k = h
bit_cases P h l (suc zero) k = l
bit_cases P h l (suc (suc x)) k = absurd (omega arith)

pub xor_bit : {x y : ℕ} → x ≤ 1 → y ≤ 1 → bit_xor x y ≤ 1
xor_bit {x} {y} h l = omega (arith, xor_lt 1 x y (omega arith) (omega arith))

pub product_bit : {x y : ℕ} → x ≤ 1 → y ≤ 1 → x * y ≤ 1
product_bit {x} {y} h l = bit_cases (λ x. x * y ≤ 1) (rw zero-mul (omega arith)) (rw one-mul l) x h

pub turned_bit : {x : ℕ} → x ≤ 1 → 1 - x ≤ 1
turned_bit h = omega arith

pub turned_xor : {x : ℕ} → x ≤ 1 → 1 - x ≡ bit_xor x 1
turned_xor {x} h = bit_cases (λ x. 1 - x ≡ bit_xor x 1) refl refl x h

pub xor_cancel_bit : {x y : ℕ} → x ≤ 1 → y ≤ 1 → bit_xor (bit_xor x y) y ≡ x
xor_cancel_bit {x} {y} h l = bit_cases (λ x. bit_xor (bit_xor x y) y ≡ x) (xor_self y) (bit_cases (λ y. bit_xor (bit_xor 1 y) y ≡ 1) refl refl y l) x h

-- lists of bits

pub bits_head : {x : ℕ} {xs : List ℕ} → AreBits (x ∷ xs) → x ≤ 1
bits_head b = b.at 0

pub bits_tail : {x : ℕ} {xs : List ℕ} → AreBits (x ∷ xs) → AreBits xs
bits_tail b = record { at = λ i. b.at (suc i) }

pub bits_nil : AreBits []
bits_nil = record { at = λ i. omega arith }

pub bits_cons : {x : ℕ} {xs : List ℕ} → x ≤ 1 → AreBits xs → AreBits (x ∷ xs)
bits_cons {x} {xs} h b = record { at = at }
  where
    at : (i : ℕ) → get_or (x ∷ xs) i 0 ≤ 1
    at zero = h
    at (suc i) = b.at i

pub bits_replicate : (n : ℕ) → AreBits (replicate n 0)
bits_replicate zero = bits_nil
bits_replicate (suc n) = bits_cons (omega arith) (bits_replicate n)

pub zeros_at : (n i : ℕ) → get_or {A = ℕ} (replicate n 0) i 0 ≡ 0
zeros_at zero i = refl
zeros_at (suc n) zero = refl
zeros_at (suc n) (suc i) = zeros_at n i

-- zeros behind a list change no place
pub padded_at : (xs : List ℕ) (n i : ℕ) → get_or (xs ++ replicate n 0) i 0 ≡ get_or xs i 0
padded_at [] n i = zeros_at n i
padded_at (x ∷ xs) n zero = refl
padded_at (x ∷ xs) n (suc i) = padded_at xs n i

pub bits_ones : (n : ℕ) → AreBits (replicate n 1)
bits_ones zero = bits_nil
bits_ones (suc n) = bits_cons (omega arith) (bits_ones n)

pub bits_take : (n : ℕ) {xs : List ℕ} → AreBits xs → AreBits (take n xs)
bits_take zero b = bits_nil
bits_take (suc n) {xs = []} b = bits_nil
bits_take (suc n) {xs = x ∷ xs} b = bits_cons (bits_head b) (bits_take n (bits_tail b))

pub bits_drop : (n : ℕ) {xs : List ℕ} → AreBits xs → AreBits (drop n xs)
bits_drop n {xs} b = record { at = λ i. rw (get_or-drop n xs i 0) (b.at (n + i)) }

pub bits_append : {xs ys : List ℕ} → AreBits xs → AreBits ys → AreBits (xs ++ ys)
bits_append {xs = []} b c = c
bits_append {xs = x ∷ xs} b c = bits_cons (bits_head b) (bits_append (bits_tail b) c)

pub bits_set : {xs : List ℕ} (p : ℕ) {x : ℕ} → AreBits xs → x ≤ 1 → AreBits (set xs p x)
bits_set {xs = []} p b h = b
bits_set {xs = y ∷ xs} zero b h = bits_cons h (bits_tail b)
bits_set {xs = y ∷ xs} (suc p) b h = bits_cons (bits_head b) (bits_set p (bits_tail b) h)

-- added

pub added-nil : (ys : List ℕ) → added [] ys ≡ []
unfolding added
added-nil ys = refl

pub added_none : (xs : List ℕ) → added xs [] ≡ xs
unfolding added
added_none [] = refl
added_none (x ∷ xs) = refl

pub added-cons : (x : ℕ) (xs : List ℕ) (y : ℕ) (ys : List ℕ) → added (x ∷ xs) (y ∷ ys) ≡ bit_xor x y ∷ added xs ys
unfolding added
added-cons x xs y ys = refl

pub length-added : (xs ys : List ℕ) → length (added xs ys) ≡ length xs
unfolding added
length-added [] ys = refl
length-added (x ∷ xs) [] = refl
length-added (x ∷ xs) (y ∷ ys) = ap suc (length-added xs ys)

pub added_at_lem : (xs ys : List ℕ) (i : ℕ) → i < length xs → get_or (added xs ys) i 0 ≡ bit_xor (get_or xs i 0) (get_or ys i 0)
unfolding added
added_at_lem [] ys i h = absurd (omega arith)
added_at_lem (x ∷ xs) [] i h = sym (xor_zero_r _)
added_at_lem (x ∷ xs) (y ∷ ys) zero h = refl
added_at_lem (x ∷ xs) (y ∷ ys) (suc i) h = added_at_lem xs ys i (omega arith)

-- where the second list is not the longer one
pub added_everywhere : (xs ys : List ℕ) → length ys ≤ length xs → (i : ℕ) → get_or (added xs ys) i 0 ≡ bit_xor (get_or xs i 0) (get_or ys i 0)
unfolding added
added_everywhere [] [] h i = refl
added_everywhere [] (y ∷ ys) h i = absurd (omega arith)
added_everywhere (x ∷ xs) [] h i = sym (xor_zero_r _)
added_everywhere (x ∷ xs) (y ∷ ys) h zero = refl
added_everywhere (x ∷ xs) (y ∷ ys) h (suc i) = added_everywhere xs ys (omega arith) i

pub bits_added : {xs ys : List ℕ} → AreBits xs → AreBits ys → AreBits (added xs ys)
unfolding added
bits_added {xs = []} {ys} b c = b
bits_added {xs = x ∷ xs} {ys = []} b c = b
bits_added {xs = x ∷ xs} {ys = y ∷ ys} b c = bits_cons (xor_bit (bits_head b) (bits_head c)) (bits_added (bits_tail b) (bits_tail c))

pub added_self : (xs : List ℕ) → added xs xs ≡ replicate (length xs) 0
unfolding added
added_self [] = refl
added_self (x ∷ xs) = ap₂ (λ y ys. y ∷ ys) (xor_self x) (added_self xs)

pub added_comm : (xs ys : List ℕ) → length xs ≡ length ys → added xs ys ≡ added ys xs
unfolding added
added_comm [] [] h = refl
added_comm [] (y ∷ ys) h = absurd (omega arith)
added_comm (x ∷ xs) [] h = absurd (omega arith)
added_comm (x ∷ xs) (y ∷ ys) h = ap₂ (λ z zs. z ∷ zs) (xor_comm x y) (added_comm xs ys (suc_inj h))

-- to add the same bits twice changes nothing
pub added_twice : (xs ys : List ℕ) → AreBits xs → AreBits ys → added (added xs ys) ys ≡ xs
unfolding added
added_twice [] ys b c = refl
added_twice (x ∷ xs) [] b c = refl
added_twice (x ∷ xs) (y ∷ ys) b c =
    ap₂ (λ z zs. z ∷ zs) (xor_cancel_bit (bits_head b) (bits_head c)) (added_twice xs ys (bits_tail b) (bits_tail c))

-- xs added to the sum of xs and ys gives ys
pub added_back : (xs ys : List ℕ) → length xs ≡ length ys → AreBits xs → AreBits ys → added xs (added xs ys) ≡ ys
added_back xs ys h b c = added_comm xs (added xs ys) (sym (length-added xs ys)) ∙ ap (λ zs. added zs xs) (added_comm xs ys h) ∙ added_twice ys xs c b

-- added_at

pub added_at-zero : (xs ys : List ℕ) → added_at xs 0 ys ≡ added xs ys
unfolding added_at
added_at-zero [] ys = refl
added_at-zero (x ∷ xs) ys = refl

pub added_at-cons : (x : ℕ) (xs : List ℕ) (at : ℕ) (ys : List ℕ) → added_at (x ∷ xs) (suc at) ys ≡ x ∷ added_at xs at ys
unfolding added_at
added_at-cons x xs at ys = refl

pub added_at-nil : (at : ℕ) (ys : List ℕ) → added_at [] at ys ≡ []
unfolding added_at
added_at-nil zero ys = added-nil ys
added_at-nil (suc at) ys = refl

pub length-added_at : (xs : List ℕ) (at : ℕ) (ys : List ℕ) → length (added_at xs at ys) ≡ length xs
unfolding added_at
length-added_at xs zero ys = ap length (added_at-zero xs ys) ∙ length-added xs ys
length-added_at [] (suc at) ys = refl
length-added_at (x ∷ xs) (suc at) ys = ap suc (length-added_at xs at ys)

pub added_at_before : (xs : List ℕ) (at : ℕ) (ys : List ℕ) (i : ℕ) → i < at → get_or (added_at xs at ys) i 0 ≡ get_or xs i 0
unfolding added_at
added_at_before xs zero ys i h = absurd (omega arith)
added_at_before [] (suc at) ys i h = refl
added_at_before (x ∷ xs) (suc at) ys zero h = refl
added_at_before (x ∷ xs) (suc at) ys (suc i) h = added_at_before xs at ys i (omega arith)

pub added_at_from : (xs : List ℕ) (at : ℕ) (ys : List ℕ) (k : ℕ) → at + k < length xs
    → get_or (added_at xs at ys) (at + k) 0 ≡ bit_xor (get_or xs (at + k) 0) (get_or ys k 0)
unfolding added_at
added_at_from xs zero ys k h = rw (zero-add k, added_at-zero xs ys) (added_at_lem xs ys k (omega arith))
added_at_from [] (suc at) ys k h = absurd (omega arith)
added_at_from (x ∷ xs) (suc at) ys k h = rw (suc-add at k) (added_at_from xs at ys k (omega arith))

-- place i holds what place i - at adds
pub added_at_at : (xs : List ℕ) (at : ℕ) (ys : List ℕ) (i : ℕ) → at ≤ i → i < length xs
    → get_or (added_at xs at ys) i 0 ≡ bit_xor (get_or xs i 0) (get_or ys (i - at) 0)
added_at_at xs at ys i h l =
    let e : at + (i - at) ≡ i = omega arith in
    subst (λ k. get_or (added_at xs at ys) k 0 ≡ bit_xor (get_or xs k 0) (get_or ys (i - at) 0)) e (added_at_from xs at ys (i - at) (omega arith))

pub added_at_after : (xs : List ℕ) (at : ℕ) (ys : List ℕ) (i : ℕ) → at + length ys ≤ i → get_or (added_at xs at ys) i 0 ≡ get_or xs i 0
added_at_after xs at ys i h = pick (dec_le (suc i) (length xs))
  where
    pick : Dec (i < length xs) → get_or (added_at xs at ys) i 0 ≡ get_or xs i 0
    pick (yes l) =
        added_at_at xs at ys i (omega arith) l
        ∙ ap (bit_xor (get_or xs i 0)) (get_or-eq_default ys 0 (omega arith))
        ∙ xor_zero_r (get_or xs i 0)
    pick (no l) = get_or-eq_default (added_at xs at ys) 0 (rw (length-added_at xs at ys) (omega arith)) ∙ sym (get_or-eq_default xs 0 (omega arith))

pub bits_added_at : {xs : List ℕ} (at : ℕ) {ys : List ℕ} → AreBits xs → AreBits ys → AreBits (added_at xs at ys)
unfolding added_at
bits_added_at {xs} zero {ys} b c = rw (added_at-zero xs ys) (bits_added b c)
bits_added_at {xs = []} (suc at) b c = b
bits_added_at {xs = x ∷ xs} (suc at) b c = bits_cons (bits_head b) (bits_added_at at (bits_tail b) c)

-- flip

pub flip-set : (xs : List ℕ) (p : ℕ) → flip xs p ≡ set xs p (1 - get_or xs p 0)
unfolding flip
flip-set xs p = refl

pub length-flip : (xs : List ℕ) (p : ℕ) → length (flip xs p) ≡ length xs
unfolding flip
length-flip xs p = length-set xs p (1 - get_or xs p 0)

pub flip_at : (xs : List ℕ) (p : ℕ) → p < length xs → get_or (flip xs p) p 0 ≡ 1 - get_or xs p 0
unfolding flip
flip_at xs p h = get_or-set_same xs p (1 - get_or xs p 0) 0 h

pub flip_other : (xs : List ℕ) (p i : ℕ) → i ≢ p → get_or (flip xs p) i 0 ≡ get_or xs i 0
unfolding flip
flip_other xs p i h = get_or-set_other xs p i (1 - get_or xs p 0) 0 h

pub bits_flip : {xs : List ℕ} (p : ℕ) → AreBits xs → AreBits (flip xs p)
unfolding flip
bits_flip p b = bits_set p b (turned_bit (b.at p))

-- to turn a bit over is to add a 1
pub flip-added : (xs : List ℕ) (p : ℕ) → AreBits xs → flip xs p ≡ added_at xs p (1 ∷ [])
unfolding flip added_at added
flip-added [] zero b = refl
flip-added [] (suc p) b = refl
flip-added (x ∷ []) zero b = ap (λ y. y ∷ []) (turned_xor (bits_head b))
flip-added (x ∷ y ∷ xs) zero b = ap (λ z. z ∷ y ∷ xs) (turned_xor (bits_head b))
flip-added (x ∷ xs) (suc p) b = ap (λ ys. x ∷ ys) (flip-added xs p (bits_tail b))

-- flipped

pub flipped-nil : (xs : List ℕ) → flipped xs [] ≡ xs
unfolding flipped
flipped-nil xs = refl

pub flipped-cons : (xs : List ℕ) (p : ℕ) (ps : List ℕ) → flipped xs (p ∷ ps) ≡ flipped (flip xs p) ps
unfolding flipped
flipped-cons xs p ps = refl

pub length-flipped : (xs ps : List ℕ) → length (flipped xs ps) ≡ length xs
unfolding flipped
length-flipped xs [] = refl
length-flipped xs (p ∷ ps) = length-flipped (flip xs p) ps ∙ length-flip xs p

pub bits_flipped : {xs : List ℕ} (ps : List ℕ) → AreBits xs → AreBits (flipped xs ps)
unfolding flipped
bits_flipped [] b = b
bits_flipped {xs = xs} (p ∷ ps) b = bits_flipped {xs = flip xs p} ps (bits_flip p b)

-- product_bits

pub product-nil : (ys : List ℕ) → product_bits [] ys ≡ replicate (length ys) 0
unfolding product_bits
product-nil ys = refl

pub product-cons : (x : ℕ) (xs ys : List ℕ) → product_bits (x ∷ xs) ys ≡ added (0 ∷ product_bits xs ys) (map (λ y. x * y) ys)
unfolding product_bits
product-cons x xs ys = refl

pub length-product : (xs ys : List ℕ) → length (product_bits xs ys) ≡ length xs + length ys
length-product [] ys = rw (product-nil ys, zero-add (length ys)) (length-replicate (length ys) 0)
length-product (x ∷ xs) ys =
    rw (product-cons x xs ys, length-added (0 ∷ product_bits xs ys) (map (λ y. x * y) ys), suc-add (length xs) (length ys)) (ap suc (length-product xs ys))

pub times_at : (x : ℕ) (ys : List ℕ) (i : ℕ) → get_or (map (λ y. x * y) ys) i 0 ≡ x * get_or ys i 0
times_at x [] i = sym (mul-zero x)
times_at x (y ∷ ys) zero = refl
times_at x (y ∷ ys) (suc i) = times_at x ys i

pub product_place : (x : ℕ) (xs ys : List ℕ) (i : ℕ) → get_or (product_bits (x ∷ xs) ys) i 0 ≡ bit_xor (get_or (0 ∷ product_bits xs ys) i 0) (x * get_or ys i 0)
product_place x xs ys i =
    ap (λ zs. get_or zs i 0) (product-cons x xs ys)
    ∙ added_everywhere (0 ∷ product_bits xs ys) (map (λ y. x * y) ys) (omega (arith, length-map ys (λ y. x * y), length-product xs ys)) i
    ∙ ap (bit_xor (get_or (0 ∷ product_bits xs ys) i 0)) (times_at x ys i)

pub bits_times : {x : ℕ} {ys : List ℕ} → x ≤ 1 → AreBits ys → AreBits (map (λ y. x * y) ys)
bits_times {ys = []} h b = b
bits_times {ys = y ∷ ys} h b = bits_cons (product_bit h (bits_head b)) (bits_times h (bits_tail b))

pub bits_product : {xs ys : List ℕ} → AreBits xs → AreBits ys → AreBits (product_bits xs ys)
bits_product {xs = []} {ys} b c = rw (product-nil ys) (bits_replicate (length ys))
bits_product {xs = x ∷ xs} {ys} b c =
    rw (product-cons x xs ys) (bits_added (bits_cons (omega arith) (bits_product (bits_tail b) c)) (bits_times (bits_head b) c))

-- first_above

pub first_above-nil : first_above [] ≡ 0
unfolding first_above
first_above-nil = refl

pub first_above_bit : {x : ℕ} (xs : List ℕ) → x ≤ 1 → first_above (x ∷ xs) ≡ suc (first_above xs)
unfolding first_above
first_above_bit {x} xs h = bit_cases (λ x. cond (leb x 1) (suc (first_above xs)) 0 ≡ suc (first_above xs)) refl refl x h

pub first_above_above : {x : ℕ} (xs : List ℕ) → 1 < x → first_above (x ∷ xs) ≡ 0
unfolding first_above
first_above_above {x} xs h = pick (leb x 1) (leb→le x 1)
  where
    pick : (b : Bool) → (T b → x ≤ 1) → cond b (suc (first_above xs)) 0 ≡ 0
    pick true f = absurd (omega (arith, f tt))
    pick false f = refl

pub first_above_most : (xs : List ℕ) → first_above xs ≤ length xs
first_above_most [] = rw first_above-nil (omega arith)
first_above_most (x ∷ xs) = pick (dec_le x 1) (first_above_most xs)
  where
    pick : Dec (x ≤ 1) → first_above xs ≤ length xs → first_above (x ∷ xs) ≤ suc (length xs)
    pick (yes h) l = rw (first_above_bit xs h) (omega arith)
    pick (no h) l = rw (first_above_above xs (lt_of_not-le h)) (omega arith)

-- the places before the one found hold bits
pub first_above_before : (xs : List ℕ) (i : ℕ) → i < first_above xs → get_or xs i 0 ≤ 1
first_above_before [] i l = omega arith
first_above_before (x ∷ xs) i l = pick (dec_le x 1) (first_above_before xs) i l
  where
    pick : Dec (x ≤ 1) → ((i : ℕ) → i < first_above xs → get_or xs i 0 ≤ 1) → (i : ℕ) → i < first_above (x ∷ xs) → get_or (x ∷ xs) i 0 ≤ 1
    pick (yes h) rest zero l = h
    pick (yes h) rest (suc i) l = rest i (omega (arith, first_above_bit xs h))
    pick (no h) rest i l = absurd (omega (arith, first_above_above xs (lt_of_not-le h)))

-- and that one does not, where there is one
pub first_above_here : (xs : List ℕ) → first_above xs < length xs → 1 < get_or xs (first_above xs) 0
first_above_here [] l = absurd (omega arith)
first_above_here (x ∷ xs) l = pick (dec_le x 1) (first_above_here xs)
  where
    pick : Dec (x ≤ 1) → (first_above xs < length xs → 1 < get_or xs (first_above xs) 0) → 1 < get_or (x ∷ xs) (first_above (x ∷ xs)) 0
    pick (yes h) rest = rw (first_above_bit xs h) (rest (omega (arith, first_above_bit xs h)))
    pick (no h) rest = rw (first_above_above xs (lt_of_not-le h)) (lt_of_not-le h)

pub bits_of_first_above : (xs : List ℕ) → first_above xs ≡ length xs → AreBits xs
bits_of_first_above xs e = record { at = λ i. pick i (dec_le (suc i) (length xs)) }
  where
    pick : (i : ℕ) → Dec (i < length xs) → get_or xs i 0 ≤ 1
    pick i (yes h) = first_above_before xs i (omega arith)
    pick i (no h) = rw (get_or-eq_default xs 0 {n = i} (omega arith)) (omega arith)

pub first_above_of_bits : (xs : List ℕ) → AreBits xs → first_above xs ≡ length xs
first_above_of_bits [] b = first_above-nil
first_above_of_bits (x ∷ xs) b = first_above_bit xs (bits_head b) ∙ ap suc (first_above_of_bits xs (bits_tail b))

-- a search that has come to the end has found nothing
pub all_bits : (xs : List ℕ) {bad : ℕ} → bad ≡ first_above xs → length xs ≤ bad → AreBits xs
all_bits xs {bad} e h = bits_of_first_above xs (le_antisymm (first_above_most xs) (rw (← e) h))

-- the search finds no place above 1 exactly if all places hold bits
pub not_bad : {xs : List ℕ} → AreBits xs → has_bad_bit xs ≡ false
not_bad {xs} b = le-ltb (first_above xs) (length xs) (omega (arith, first_above_of_bits xs b))

pub bits_of_not_bad : (xs : List ℕ) → has_bad_bit xs ≡ false → AreBits xs
bits_of_not_bad xs e = all_bits xs refl (ltb-false (first_above xs) (length xs) e)
