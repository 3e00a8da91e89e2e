-- There is exactly one minimal polynomial of each power of a, and it divides exactly the polynomials that have that root.
use mathlib.Core.Path.{◌≡◌, ◌∙◌, refl, sym, ap, ap₂, subst}
use mathlib.Core.Logic.{◌⊎◌, inl, inr}
use mathlib.Core.List.{List, [], ◌∷◌, ◌++◌}
use Prim.Native.Nat.{ℕ, zero, suc, ◌+◌, ◌-◌, ◌*◌, ◌≤◌, ◌<◌}
use native.Mathlib.Decide.{dec_le, dec_lt, ℕ_discrete}
use native.Mathlib.Omega.{arith}
use lib.ListN.{length, get_or, take, replicate, length-append, length-replicate, get_or-eq_default}
use lib.Seq.{ext_get_or, get_or_at}
use Rattle.bits.specs.Bits.{AreBits, added}
use Rattle.bits.specs.Polynomial.{product_bits}
use Rattle.bits.proofs.BitLaws.{bit_cases, bits_head, bits_tail, bits_nil, bits_cons, bits_take, bits_replicate, bits_ones, bits_append, bits_added}
use Rattle.field.specs.Sum.{◌⊕◌}
use Rattle.field.specs.Product.{IsField, ◌⊗⟨◌⟩◌}
use Rattle.field.specs.Power.{a, n_of, power}
use Rattle.field.proofs.SumLaws.{sum_self, sum-zero, zero-sum, equal_of_sum}
use Rattle.field.proofs.ProductLaws.{product-zero, one_product}
use Rattle.field.proofs.PowerLaws.{one_bound}
use Rattle.field.proofs.Order.{eight_bound, power_rounds}
use Rattle.codes.specs.Sums.{sum_of}
use Rattle.codes.proofs.SumLaws.{added_place, sum_same, sum_zeros, sum-cons, sum-append, sum_added, sum_one}
use Rattle.generator.specs.Minimal.{Minimal}
use Rattle.generator.proofs.Degrees.{HasDegree, zero_or_degree, cut_long, cut_at}
use Rattle.generator.proofs.Multiple.{divided, left_root, none_left}

pub minimal_above : {m i d : ℕ} {p : List ℕ} → Minimal m i d p → (j : ℕ) → d < j → get_or p j 0 ≡ 0
minimal_above {p = p} M j h = get_or-eq_default p 0 {n = j} (omega (arith, M.long))

-- one

no_shorter : {m i d e : ℕ} {p q : List ℕ} → Minimal m i d p → Minimal m i e q → e ≤ d
no_shorter {d = d} {e} {p} M N = pick (dec_le e d)
  where
    pick : Dec (e ≤ d) → e ≤ d
    pick (yes h) = h
    pick (no h) =
        let z : get_or p d 0 ≡ 0 = N.least p M.bits (λ j l. minimal_above M j (omega arith)) M.root d in
        absurd (omega (arith, M.top))

-- two minimal polynomials of the same power are the same list
pub minimal_one : {m i d e : ℕ} {p q : List ℕ} → IsField m → Minimal m i d p → Minimal m i e q → (d ≡ e) × (p ≡ q)
minimal_one {m} {i} {d} {e} {p} {q} L M N = (same, ext_get_or 0 p q long (λ j h. equal_of_sum (sym (at j) ∙ none j)))
  where
    same : d ≡ e
    same = omega (arith, no_shorter M N, no_shorter N M)

    long : length p ≡ length q
    long = omega (arith, same, M.long, N.long)

    at : (j : ℕ) → get_or (added p q) j 0 ≡ get_or p j 0 ⊕ get_or q j 0
    at = added_place p q (omega (arith, long))

    above : (j : ℕ) → d ≤ j → Dec (j ≡ d) → get_or p j 0 ⊕ get_or q j 0 ≡ 0
    above j h (yes z) =
        ap₂ (λ (x y : ℕ). x ⊕ y) (ap (λ (k : ℕ). get_or p k 0) z ∙ M.top) (ap (λ (k : ℕ). get_or q k 0) (z ∙ same) ∙ N.top) ∙ sum_self 1
    above j h (no z) =
        ap₂ (λ (x y : ℕ). x ⊕ y) (minimal_above M j (omega arith)) (minimal_above N j (omega (arith, same))) ∙ zero-sum 0

    none : (j : ℕ) → get_or (added p q) j 0 ≡ 0
    none =
        M.least (added p q) (bits_added M.bits N.bits) (λ j h. at j ∙ above j h (ℕ_discrete j d))
        (sum_added L i p q M.bits N.bits (omega (arith, long)) ∙ ap₂ (λ (x y : ℕ). x ⊕ y) M.root N.root ∙ zero-sum 0)

-- at least one: the first degree at which a search through all bits finds something

-- c bits that have P
record Some (c : ℕ) (P : List ℕ → Type 0) : Type 0 where
  list : List ℕ
  long : length list ≡ c
  bits : AreBits list
  has : P list

before : {c x : ℕ} {P : List ℕ → Type 0} → x ≤ 1 → Some c (λ xs. P (x ∷ xs)) → Some (suc c) P
before {x = x} h s = record { list = x ∷ s.list; long = ap suc s.long; bits = bits_cons h s.bits; has = s.has }

some? : (c : ℕ) (P : List ℕ → Type 0) → ((xs : List ℕ) → Dec (P xs)) → Dec (Some c P)
some? zero P told = pick (told [])
  where
    empty : (xs : List ℕ) → length xs ≡ 0 → P xs → P []
    empty [] l p = p
    empty (x ∷ xs) l p = absurd (omega arith)

    pick : Dec (P []) → Dec (Some zero P)
    pick (yes p) = yes (record { list = []; long = refl; bits = bits_nil; has = p })
    pick (no n) = no (λ s. n (empty s.list s.long s.has))
some? (suc c) P told = pick (some? c (λ xs. P (0 ∷ xs)) (λ xs. told (0 ∷ xs))) (some? c (λ xs. P (1 ∷ xs)) (λ xs. told (1 ∷ xs)))
  where
    neither : (Some c (λ xs. P (0 ∷ xs)) → ⊥) → (Some c (λ xs. P (1 ∷ xs)) → ⊥) → (xs : List ℕ) → length xs ≡ suc c → AreBits xs → P xs → ⊥
    neither f g [] l b p = omega arith
    neither f g (x ∷ xs) l b p =
        bit_cases (λ (y : ℕ). P (y ∷ xs) → ⊥)
        (λ h. f (record { list = xs; long = omega arith; bits = bits_tail b; has = h }))
        (λ h. g (record { list = xs; long = omega arith; bits = bits_tail b; has = h }))
        x (bits_head b) p

    pick : Dec (Some c (λ xs. P (0 ∷ xs))) → Dec (Some c (λ xs. P (1 ∷ xs))) → Dec (Some (suc c) P)
    pick (yes s) e = yes (before {P = P} (omega arith) s)
    pick (no f) (yes s) = yes (before {P = P} (omega arith) s)
    pick (no f) (no g) = no (λ s. neither f g s.list s.long s.bits s.has)

-- the first number with P
record First (P : ℕ → Type 0) : Type 0 where
  at : ℕ
  has : P at
  none : (e : ℕ) → e < at → P e → ⊥

first : (P : ℕ → Type 0) → ((e : ℕ) → Dec (P e)) → (left d b : ℕ) → left + d ≡ b → ((e : ℕ) → e < d → P e → ⊥) → P b → First P
first P told zero d b l f p = record { at = b; has = p; none = λ e h. f e (omega arith) }
first P told (suc left) d b l f p = pick (told d) (first P told left (suc d) b (omega arith))
  where
    later : (P d → ⊥) → (e : ℕ) → e < suc d → Dec (e ≡ d) → P e → ⊥
    later n e h (yes z) q = n (subst P z q)
    later n e h (no z) q = f e (omega arith) q

    pick : Dec (P d) → (((e : ℕ) → e < suc d → P e → ⊥) → P b → First P) → First P
    pick (yes q) rest = record { at = d; has = q; none = f }
    pick (no n) rest = rest (λ e h. later n e h (ℕ_discrete e d)) p

-- d is the top place, and a^i a root
abbrev TopRoot : ℕ → ℕ → ℕ → List ℕ → Type 0
TopRoot m i d xs = (get_or xs d 0 ≡ 1) × (sum_of m i xs ≡ 0)

-- there is a polynomial of degree d with the root a^i
record Rooted (m i d : ℕ) : Type 0 where
  some : Some (d + 1) (TopRoot m i d)

rooted? : (m i d : ℕ) → Dec (Rooted m i d)
rooted? m i d = pick (some? (d + 1) (TopRoot m i d) (λ xs. told xs (ℕ_discrete (get_or xs d 0) 1) (ℕ_discrete (sum_of m i xs) 0)))
  where
    told : (xs : List ℕ) → Dec (get_or xs d 0 ≡ 1) → Dec (sum_of m i xs ≡ 0) → Dec (TopRoot m i d xs)
    told xs (yes p) (yes q) = yes (p, q)
    told xs (yes p) (no q) = no (λ h. q h.1)
    told xs (no p) e = no (λ h. p h.0)

    pick : Dec (Some (d + 1) (TopRoot m i d)) → Dec (Rooted m i d)
    pick (yes s) = yes (record { some = s })
    pick (no n) = no (λ r. n r.some)

-- one of degree n: x^n + 1
rooted_n : {m : ℕ} → IsField m → (i : ℕ) → Rooted m i (n_of m)
rooted_n {m} L i =
    record {
      some = record {
        list = low ++ (1 ∷ []);
        long = long;
        bits = bits_append low_bits (bits_ones 1);
        has = (get_or_at low 1 [] 0 (n_of m) low_long, root);
      };
    }
  where
    low : List ℕ
    low = 1 ∷ replicate (n_of m - 1) 0

    low_bits : AreBits low
    low_bits = bits_cons (omega arith) (bits_replicate (n_of m - 1))

    low_long : length low ≡ n_of m
    low_long =
        let e : suc (n_of m - 1) ≡ n_of m = omega (arith, eight_bound L) in
        ap suc (length-replicate {A = ℕ} (n_of m - 1) 0) ∙ e

    long : length (low ++ (1 ∷ [])) ≡ n_of m + 1
    long = omega (arith, length-append low (1 ∷ []), low_long)

    one : sum_of m i low ≡ 1
    one =
        sum-cons L i 1 (replicate (n_of m - 1) 0) low_bits
        ∙ ap (λ (z : ℕ). 1 ⊕ power m a i ⊗⟨ m ⟩ z) (sum_zeros m i (n_of m - 1))
        ∙ ap (λ (z : ℕ). 1 ⊕ z) (product-zero m (power m a i))
        ∙ sum-zero 1

    around : power m a (length low * i) ⊗⟨ m ⟩ sum_of m i (1 ∷ []) ≡ 1
    around =
        ap₂ (λ (x y : ℕ). x ⊗⟨ m ⟩ y) (ap (λ (k : ℕ). power m a (k * i)) low_long ∙ power_rounds L i) (sum_one L i) ∙ one_product L 1 (one_bound L)

    root : sum_of m i (low ++ (1 ∷ [])) ≡ 0
    root = sum-append L i low (1 ∷ []) low_bits (bits_ones 1) ∙ ap₂ (λ (x y : ℕ). x ⊕ y) one around ∙ sum_self 1

-- if no polynomial of a degree below b has the root, then among the polynomials below place b only 0 has it
all-zero : (m i b : ℕ) (q : List ℕ) → AreBits q → ((e : ℕ) → e < b → Rooted m i e → ⊥) → ((j : ℕ) → b ≤ j → get_or q j 0 ≡ 0) → sum_of m i q ≡ 0
    → (j : ℕ) → get_or q j 0 ≡ 0
all-zero m i b q c f z h = pick (zero_or_degree b q c z)
  where
    below : {d : ℕ} → HasDegree d q → Dec (d < b) → d < b
    below D (yes l) = l
    below {d} D (no n) = absurd (omega (arith, D.top, z d (omega arith)))

    rooted : {d : ℕ} → HasDegree d q → Rooted m i d
    rooted {d} D =
        record {
          some = record {
            list = take (d + 1) q;
            long = cut_long D;
            bits = bits_take (d + 1) c;
            has = (cut_at D d ∙ D.top, sum_same m i (take (d + 1) q) q (cut_at D) ∙ h);
          };
        }

    pick : ((j : ℕ) → get_or q j 0 ≡ 0) ⊎ ((d : ℕ) × HasDegree d q) → (j : ℕ) → get_or q j 0 ≡ 0
    pick (inl none) = none
    pick (inr (d, D)) = absurd (f d (below D (dec_lt d b)) (rooted D))

-- every power of a has a minimal polynomial
pub minimal_is : {m : ℕ} → IsField m → (i : ℕ) → (d : ℕ) × (p : List ℕ) × Minimal m i d p
minimal_is {m} L i =
    let B = first (Rooted m i) (rooted? m i) (n_of m) 0 (n_of m) (omega arith) (λ e h. absurd (omega arith)) (rooted_n L i) in
    let s = B.has.some in (
      B.at,
      s.list,
      record {
        long = s.long;
        bits = s.bits;
        top = s.has.0;
        root = s.has.1;
        least = λ q c z h. all-zero m i B.at q c B.none z h;
      },
    )

-- what has the root is a multiple of the minimal polynomial
module _ {m : ℕ} (L : IsField m) {i d : ℕ} {p : List ℕ} (M : Minimal m i d p) where
  pub root_multiple : (h : List ℕ) → AreBits h → sum_of m i h ≡ 0 → (q : List ℕ) × AreBits q × ((k : ℕ) → get_or h k 0 ≡ get_or (product_bits q p) k 0)
  root_multiple h b z =
      let D = divided d p M.long M.bits M.top h b in
      none_left D (M.least D.r D.r_bits D.r_zero (left_root L i M.bits D M.root z))
