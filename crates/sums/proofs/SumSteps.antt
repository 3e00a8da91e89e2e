-- Adding places into sums: one power after the other, one place after the other.
use mathlib.Core.Path.{◌≡◌, ◌∙◌, refl, sym, ap, ap₂}
use mathlib.Core.List.{List, [], ◌∷◌, ◌++◌}
use Prim.Native.Nat.{ℕ, ◌+◌, ◌*◌, ◌%◌, ◌^◌, ◌≤◌, ◌<◌}
use native.Mathlib.Numerals.{add-one}
use native.Mathlib.Nat.{add-zero, zero-mul, one-mul, ne_of_lt}
use borrow.Author.Count.{below_none, below_more}
use native.Mathlib.Omega.{arith}
use lib.ListN.{length, get_or, set, take, replicate, length-set, length-replicate}
use lib.Seq.{get_or-take, get_or-set_same, get_or-set_other, take-suc, take-suc-set, take-set-le, length-take-le, take_all}
use Rattle.bits.specs.Bits.{AreBits}
use Rattle.bits.proofs.BitLaws.{bit_cases, bits_cons, bits_replicate, bits_take, zeros_at}
use Rattle.field.specs.Sum.{◌⊕◌}
use Rattle.field.specs.Product.{IsField, ◌⊗⟨◌⟩◌}
use Rattle.field.specs.Power.{a, n_of, power}
use Rattle.field.proofs.SumLaws.{sum-zero, zero-sum, sum_assoc}
use Rattle.field.proofs.ProductLaws.{product-one, product-zero, product_comm}
use Rattle.field.proofs.PowerLaws.{power-one, power-add, power-mul, power_bound}
use Rattle.codes.specs.Sums.{sum_of, sum_over}
use Rattle.codes.proofs.SumLaws.{sum-cons, sum-append, sum_over-nil, sum_over-cons, sum_none}
use Rattle.entries.specs.Entries.{Filled, nothing}
use Rattle.entries.proofs.FillLaws.{fill_from, fill_as, fill_after}
use Rattle.walks.specs.Multiples.{plus_walk}
use Rattle.field.proofs.Exponents.{around_power}
use Rattle.sums.specs.Rows.{plus_power, word_sum, place_sum, Ones}
use Rattle.sums.specs.OddSums.{OddSums}

-- a walk from exponent p on by 2p adds the odd powers of a^p
pub place_added : {m n step t : ℕ} {before after : List ℕ} (p : ℕ) → IsField m → n ≡ n_of m → step ≡ 2 * p % n
    → Filled (plus_walk m p step before) t before after → Filled (plus_power m (power m a p) before) t before after
place_added {m} {n} {step} {before = before} p L is q u = fill_as u (λ i h. ap (λ z. get_or before i 0 ⊕ z) (power-add L a p (step * i) ∙ odd i))
  where
    x : ℕ
    x = power m a p

    double : 2 * p ≡ p * 2
    double = omega arith

    square : power m a step ≡ power m x 2
    square = around_power L (2 * p) is q ∙ ap (power m a) double ∙ power-mul L a p 2

    odd : (i : ℕ) → x ⊗⟨ m ⟩ power m a (step * i) ≡ power m x (2 * i + 1)
    odd i =
        ap (λ z. x ⊗⟨ m ⟩ z) (power-mul L a step i ∙ ap (λ z. power m z i) square ∙ sym (power-mul L x 2 i))
        ∙ product_comm m x (power m x (2 * i))
        ∙ ap (λ z. power m x (2 * i) ⊗⟨ m ⟩ z) (sym (power-one L x (power_bound L a p)))
        ∙ sym (power-add L x (2 * i) 1)

bits_one : (b : ℕ) → b ≤ 1 → AreBits (b ∷ [])
bits_one b h = bits_cons h (bits_replicate 0)

module _ {m : ℕ} (L : IsField m) where
  bit_product : (b y : ℕ) → b ≤ 1 → y < 2 ^ m → y ⊗⟨ m ⟩ b ≡ b * y
  bit_product b y h k = bit_cases (λ b. y ⊗⟨ m ⟩ b ≡ b * y) (product-zero m y ∙ sym (zero-mul y)) (product-one L y k ∙ sym (one-mul y)) b h

  sum_bit : (j b : ℕ) → b ≤ 1 → sum_of m j (b ∷ []) ≡ b
  sum_bit j b h =
      sum-cons L j b [] (bits_one b h) ∙ ap (λ z. b ⊕ power m a j ⊗⟨ m ⟩ z) (sum_none m j [] (λ k. refl))
      ∙ ap (λ z. b ⊕ z) (product-zero m (power m a j)) ∙ sum-zero b

  sum_more : (j i : ℕ) (word : List ℕ) → AreBits word → i < length word
      → sum_of m j (take (i + 1) word) ≡ sum_of m j (take i word) ⊕ get_or word i 0 * power m (power m a i) j
  sum_more j i word b h =
      let d : ℕ = get_or word i 0 in
      ap (λ n. sum_of m j (take n word)) (add-one i)
      ∙ ap (sum_of m j) (take-suc word i 0 h)
      ∙ sum-append L j (take i word) (d ∷ []) (bits_take i b) (bits_one d (b.at i))
      ∙ ap₂ (λ y z. sum_of m j (take i word) ⊕ y ⊗⟨ m ⟩ z)
      (ap (λ n. power m a (n * j)) (length-take-le i word (omega arith)) ∙ power-mul L a i j) (sum_bit j d (b.at i))
      ∙ ap (λ z. sum_of m j (take i word) ⊕ z) (bit_product d (power m (power m a i) j) (b.at i) (power_bound L _ j))

pub sum_over_snoc : (m j p : ℕ) (ps : List ℕ) → sum_over m j (ps ++ (p ∷ [])) ≡ sum_over m j ps ⊕ power m a (p * j)
sum_over_snoc m j p [] =
    sum_over-cons m j p [] ∙ ap (λ z. power m a (p * j) ⊕ z) (sum_over-nil m j) ∙ sum-zero _
    ∙ sym (ap (λ z. z ⊕ power m a (p * j)) (sum_over-nil m j) ∙ zero-sum _)
sum_over_snoc m j p (q ∷ ps) =
    sum_over-cons m j q (ps ++ (p ∷ []))
    ∙ ap (λ z. power m a (q * j) ⊕ z) (sum_over_snoc m j p ps)
    ∙ sym (sum_assoc (power m a (q * j)) (sum_over m j ps) (power m a (p * j)))
    ∙ ap (λ z. z ⊕ power m a (p * j)) (sym (sum_over-cons m j q ps))

-- the ones among the first i places are written down
pub record Listing (word first places : List ℕ) (count i : ℕ) : Type 0 where
  pub long : length places ≡ length first
  pub fewer : count ≤ i
  pub within : i ≤ length word
  pub below : (k : ℕ) → k < count → get_or places k 0 < i
  pub same : {m : ℕ} → IsField m → (j : ℕ) → sum_over m j (take count places) ≡ sum_of m j (take i word)

pub listing_start : (word places : List ℕ) → Listing word places places 0 0
listing_start word places =
    record {
      long = refl;
      fewer = omega arith;
      within = omega arith;
      below = below_none _;
      same = λ {m} L j. sum_over-nil m j ∙ sym (sum_none m j [] (λ k. refl));
    }

-- place i is written behind those that were found, and counted if it holds 1
module _ {word first places : List ℕ} {count i : ℕ} (B : AreBits word) (s : Listing word first places count i)
    (h : i < length word) (k : i < length places) where
  still : (q : ℕ) → q < count → get_or (set places count i) q 0 < i + 1
  still q l = rw (get_or-set_other places count q i 0 (ne_of_lt l)) (omega (arith, s.below q l))

  listing_zero : get_or word i 0 ≡ 0 → Listing word first (set places count i) (count + 0) (i + 1)
  listing_zero z =
      record {
        long = length-set places count i ∙ s.long;
        fewer = omega (arith, s.fewer);
        within = omega arith;
        below = λ q l. still q (omega arith);
        same = λ {m} L j.
            ap (λ c. sum_over m j (take c (set places count i))) (add-zero count)
            ∙ ap (sum_over m j) (take-set-le count places count i (omega arith))
            ∙ s.same L j
            ∙ sym (sum_more L j i word B h
            ∙ ap (λ d. sum_of m j (take i word) ⊕ d * power m (power m a i) j) z
            ∙ ap (λ d. sum_of m j (take i word) ⊕ d) (zero-mul (power m (power m a i) j))
            ∙ sum-zero (sum_of m j (take i word)));
      }

  listing_one : get_or word i 0 ≡ 1 → Listing word first (set places count i) (count + 1) (i + 1)
  listing_one z =
      record {
        long = length-set places count i ∙ s.long;
        fewer = omega (arith, s.fewer);
        within = omega arith;
        below = below_more _ count still (rw (get_or-set_same places count i 0 (omega (arith, s.fewer))) (omega arith));
        same = λ {m} L j.
            ap (λ c. sum_over m j (take c (set places count i))) (add-one count)
            ∙ ap (sum_over m j) (take-suc-set places count i (omega (arith, s.fewer)))
            ∙ sum_over_snoc m j i (take count places)
            ∙ ap₂ (λ x y. x ⊕ y) (s.same L j) (power-mul L a i j)
            ∙ sym (sum_more L j i word B h
            ∙ ap (λ d. sum_of m j (take i word) ⊕ d * power m (power m a i) j) z
            ∙ ap (λ d. sum_of m j (take i word) ⊕ d) (one-mul (power m (power m a i) j)));
      }

  pub listing_next : Listing word first (set places count i) (count + get_or word i 0) (i + 1)
  listing_next =
      bit_cases (λ b. get_or word i 0 ≡ b → Listing word first (set places count i) (count + b) (i + 1)) listing_zero listing_one
      (get_or word i 0) (B.at i) refl

pub listing_done : {word first places : List ℕ} {count i : ℕ} → Listing word first places count i → length word ≤ i
    → length word ≤ length first → Ones word count places
listing_done {word} {i = i} s h l =
    record {
      within = omega (arith, s.long, s.fewer, s.within);
      below = λ k q. omega (arith, s.below k q, s.within);
      same = λ {m} L j. s.same L j ∙ ap (sum_of m j) (take_all i word h);
    }

-- places that are below n are so in the front of their list
pub front_below : {n count : ℕ} (places : List ℕ) → count ≤ length places → ((i : ℕ) → i < count → get_or places i 0 < n)
    → (i : ℕ) → i < length (take count places) → get_or (take count places) i 0 < n
front_below {n} {count} places h b i k =
    let l : i < count = omega (arith, length-take-le count places h) in
    rw (get_or-take count places i 0 l) (b i l)

-- the sums of the list are those of the word
pub ones_summed : {m t count : ℕ} {word places first after : List ℕ} → IsField m → Ones word count places
    → Filled (place_sum m (take count places)) t first after → Filled (word_sum m word) t first after
ones_summed L o u = fill_as u (λ i h. o.same L (2 * i + 1))

pub record Placing (m t : ℕ) (places before after : List ℕ) (i : ℕ) : Type 0 where
  pub filled : Filled (place_sum m (take i places)) t before after

pub placing_start : {m t : ℕ} {first before : List ℕ} (places : List ℕ) → Filled nothing t first before → Placing m t places before before 0
placing_start {m} {t} {before = before} places s =
    record { filled = fill_from _ t before (λ i h. s.holds i h ∙ sym (sum_over-nil m (2 * i + 1))) }

pub placing_next : {m t x i : ℕ} {places before middle after : List ℕ} → IsField m → Placing m t places before middle i → i < length places
    → x ≡ power m a (get_or places i 0) → Filled (plus_power m x middle) t middle after → Placing m t places before after (i + 1)
placing_next {m} {t} {x} {i} {places} {before} {middle} L s h e u =
    record {
      filled = fill_after s.filled (fill_as u (λ j k.
          ap₂ (λ y z. y ⊕ power m z (2 * j + 1)) (s.filled.holds j k) e
          ∙ ap (λ z. sum_over m (2 * j + 1) (take i places) ⊕ z) (sym (power-mul L a (get_or places i 0) (2 * j + 1)))
          ∙ sym
          (ap (λ n. sum_over m (2 * j + 1) (take n places)) (add-one i) ∙ ap (sum_over m (2 * j + 1)) (take-suc places i 0 h)
          ∙ sum_over_snoc m (2 * j + 1) (get_or places i 0) (take i places))));
    }

pub placing_done : {m t i : ℕ} {places first before after : List ℕ} → Filled nothing t first before
    → Placing m t places before after i → length places ≤ i → Filled (place_sum m places) t first after
placing_done {m} {i = i} {places} c s h = fill_after c (fill_as s.filled (λ j k. ap (sum_over m (2 * j + 1)) (take_all i places h)))

-- room for the odd sums of every code, t at most 255
pub room_long : length (replicate {A = ℕ} 255 0) ≡ 255
room_long = length-replicate {A = ℕ} 255 0

-- the sums of a word in room that was clear
pub sums_in_room : {m t : ℕ} {word sums : List ℕ} → Filled (word_sum m word) t (replicate 255 0) sums → OddSums m t word sums
sums_in_room s = record { long = sym (s.same ∙ room_long); holds = s.holds; rest = λ i h. s.rest i h ∙ zeros_at 255 i }
