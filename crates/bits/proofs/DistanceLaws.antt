-- The laws of differences and distance of two words.
use mathlib.Core.Path.{◌≡◌, ◌∙◌, refl, sym, ap, ap₂, subst}
use mathlib.Core.Logic.{◌≢◌}
use mathlib.Core.Bool.{Bool, true, false, cond}
use mathlib.Core.List.Memᴰ
use mathlib.Core.List.{List, [], ◌∷◌, ◌++◌, map, map-append, Memᴰ}
use Prim.Native.Nat.{ℕ, zero, suc, ◌-◌, ◌≤◌, ◌<◌}
use native.Mathlib.Nat.{suc_inj}
use native.Mathlib.Decide.{ℕ_discrete}
use native.Mathlib.Omega.{arith}
use lib.Dec.{T, eqb, eqb→eq, eqb_refl}
use lib.ListN.{length, get_or, set, take, drop, get_or-eq_default}
use lib.Seq.{ext_get_or}
use Rattle.bits.specs.Bits.{AreBits, flip, flipped}
use Rattle.bits.specs.Differences.{differences_from, differences, distance, Ascending}
use Rattle.bits.proofs.BitLaws.{bits_head, bits_tail, length-flip, flip_at, flip_other, flipped-nil, flipped-cons, length-flipped}
use Rattle.bits.proofs.Places.{member?, later_member, member_later, ascending_later, ascending_same}

-- the clauses

from_nil : (i : ℕ) (xs : List ℕ) → differences_from i xs [] ≡ []
unfolding differences_from
from_nil i [] = refl
from_nil i (x ∷ xs) = refl

from_same : (i : ℕ) {x y : ℕ} (xs ys : List ℕ) → x ≡ y → differences_from i (x ∷ xs) (y ∷ ys) ≡ differences_from (suc i) xs ys
unfolding differences_from
from_same i {x} {y} xs ys e = subst (λ z. cond (eqb x z) rest (i ∷ rest) ≡ rest) e (pick (eqb x x) (eqb_refl x))
  where
    rest : List ℕ
    rest = differences_from (suc i) xs ys

    pick : (b : Bool) → T b → cond b rest (i ∷ rest) ≡ rest
    pick true t = refl
    pick false t = absurd t

from_other : (i : ℕ) {x y : ℕ} (xs ys : List ℕ) → x ≢ y → differences_from i (x ∷ xs) (y ∷ ys) ≡ i ∷ differences_from (suc i) xs ys
unfolding differences_from
from_other i {x} {y} xs ys n = pick (eqb x y) (eqb→eq x y)
  where
    rest : List ℕ
    rest = differences_from (suc i) xs ys

    pick : (b : Bool) → (T b → x ≡ y) → cond b rest (i ∷ rest) ≡ i ∷ rest
    pick true f = absurd (n (f tt))
    pick false f = refl

from_later : (i : ℕ) (xs ys : List ℕ) → differences_from (suc i) xs ys ≡ map suc (differences_from i xs ys)
unfolding differences_from
from_later i [] ys = refl
from_later i (x ∷ xs) [] = refl
from_later i (x ∷ xs) (y ∷ ys) = pick (ℕ_discrete x y) (from_later (suc i) xs ys)
  where
    pick : Dec (x ≡ y) → differences_from (suc (suc i)) xs ys ≡ map suc (differences_from (suc i) xs ys)
        → differences_from (suc i) (x ∷ xs) (y ∷ ys) ≡ map suc (differences_from i (x ∷ xs) (y ∷ ys))
    pick (yes e) rest = from_same (suc i) xs ys e ∙ rest ∙ sym (ap (map suc) (from_same i xs ys e))
    pick (no n) rest = from_other (suc i) xs ys n ∙ ap (λ ps. suc i ∷ ps) rest ∙ sym (ap (map suc) (from_other i xs ys n))

pub differences-nil : (ys : List ℕ) → differences [] ys ≡ []
unfolding differences differences_from
differences-nil ys = refl

pub differences_none : (xs : List ℕ) → differences xs [] ≡ []
unfolding differences
differences_none xs = from_nil 0 xs

pub differences_same : {x y : ℕ} (xs ys : List ℕ) → x ≡ y → differences (x ∷ xs) (y ∷ ys) ≡ map suc (differences xs ys)
unfolding differences
differences_same xs ys e = from_same 0 xs ys e ∙ from_later 0 xs ys

pub differences_other : {x y : ℕ} (xs ys : List ℕ) → x ≢ y → differences (x ∷ xs) (y ∷ ys) ≡ 0 ∷ map suc (differences xs ys)
unfolding differences
differences_other xs ys n = from_other 0 xs ys n ∙ ap (λ ps. 0 ∷ ps) (from_later 0 xs ys)

-- induction over the differences: no bits, one more place where the two agree, one more place where they differ
differences_ind : (P : List ℕ → List ℕ → List ℕ → Type 0) → ((ys : List ℕ) → P [] ys []) → ((xs : List ℕ) → P xs [] [])
    → ((x y : ℕ) (xs ys ps : List ℕ) → x ≡ y → P xs ys ps → P (x ∷ xs) (y ∷ ys) (map suc ps))
    → ((x y : ℕ) (xs ys ps : List ℕ) → x ≢ y → P xs ys ps → P (x ∷ xs) (y ∷ ys) (0 ∷ map suc ps))
    → (xs ys : List ℕ) → P xs ys (differences xs ys)
differences_ind P n e s o [] ys = rw (differences-nil ys) (n ys)
differences_ind P n e s o (x ∷ xs) [] = rw (differences_none (x ∷ xs)) (e (x ∷ xs))
differences_ind P n e s o (x ∷ xs) (y ∷ ys) = pick (ℕ_discrete x y) (differences_ind P n e s o xs ys)
  where
    pick : Dec (x ≡ y) → P xs ys (differences xs ys) → P (x ∷ xs) (y ∷ ys) (differences (x ∷ xs) (y ∷ ys))
    pick (yes q) h = rw (differences_same xs ys q) (s x y xs ys (differences xs ys) q h)
    pick (no q) h = rw (differences_other xs ys q) (o x y xs ys (differences xs ys) q h)

pub differences_ascending : (xs ys : List ℕ) → Ascending (differences xs ys)
differences_ascending =
    differences_ind (λ xs ys ps. Ascending ps) (λ ys. tt) (λ xs. tt) (λ x y xs ys ps e A. ascending_later ps A)
    (λ x y xs ys ps n A. (λ q k. positive q ps k, ascending_later ps A))
  where
    positive : (q : ℕ) (ps : List ℕ) → Memᴰ q (map suc ps) → 0 < q
    positive q ps k = omega (arith, (member_later ps k).1)

-- a place of the list is a place of the words, and the two differ there
pub differences_place : (xs ys : List ℕ) (p : ℕ) → Memᴰ p (differences xs ys) → (p < length xs) × (get_or xs p 0 ≢ get_or ys p 0)
differences_place =
    differences_ind Held (λ ys p k. absurd (Memᴰ.not-nil k)) (λ xs p k. absurd (Memᴰ.not-nil k))
    (λ x y xs ys ps e h. later x y xs ys ps h) other
  where
    Held : List ℕ → List ℕ → List ℕ → Type 0
    Held xs ys ps = (p : ℕ) → Memᴰ p ps → (p < length xs) × (get_or xs p 0 ≢ get_or ys p 0)

    later : (x y : ℕ) (xs ys ps : List ℕ) → Held xs ys ps → Held (x ∷ xs) (y ∷ ys) (map suc ps)
    later x y xs ys ps h p k =
        let (q, e, l) = member_later ps k in
        rw e (omega (arith, (h q l).0), (h q l).1)

    other : (x y : ℕ) (xs ys ps : List ℕ) → x ≢ y → Held xs ys ps → Held (x ∷ xs) (y ∷ ys) (0 ∷ map suc ps)
    other x y xs ys ps n h p (Memᴰ.head e) = rw e (omega arith, n)
    other x y xs ys ps n h p (Memᴰ.tail k) = later x y xs ys ps h p k

-- every place where the two differ is in the list
pub differences_member : (xs ys : List ℕ) → length xs ≡ length ys → (p : ℕ) → get_or xs p 0 ≢ get_or ys p 0 → Memᴰ p (differences xs ys)
differences_member =
    differences_ind Held (λ ys e p n. absurd (n (sym (get_or-eq_default ys 0 (omega arith)))))
    (λ xs e p n. absurd (n (get_or-eq_default xs 0 (omega arith)))) same other
  where
    Held : List ℕ → List ℕ → List ℕ → Type 0
    Held xs ys ps = length xs ≡ length ys → (p : ℕ) → get_or xs p 0 ≢ get_or ys p 0 → Memᴰ p ps

    same : (x y : ℕ) (xs ys ps : List ℕ) → x ≡ y → Held xs ys ps → Held (x ∷ xs) (y ∷ ys) (map suc ps)
    same x y xs ys ps e h l zero n = absurd (n e)
    same x y xs ys ps e h l (suc p) n = later_member ps (h (suc_inj l) p n)

    other : (x y : ℕ) (xs ys ps : List ℕ) → x ≢ y → Held xs ys ps → Held (x ∷ xs) (y ∷ ys) (0 ∷ map suc ps)
    other x y xs ys ps e h l zero n = Memᴰ.head refl
    other x y xs ys ps e h l (suc p) n = Memᴰ.tail (later_member ps (h (suc_inj l) p n))

pub differences_self : (xs : List ℕ) → differences xs xs ≡ []
differences_self [] = differences-nil []
differences_self (x ∷ xs) = differences_same xs xs refl ∙ ap (map suc) (differences_self xs)

-- a place past all differences that is changed comes last in the list
pub differences_more : (xs ys : List ℕ) (p x : ℕ) → length xs ≡ length ys → p < length ys → ((i : ℕ) → p ≤ i → get_or xs i 0 ≡ get_or ys i 0)
    → get_or ys p 0 ≢ x
    → differences xs (set ys p x) ≡ differences xs ys ++ p ∷ []
differences_more xs [] p x l h same n = absurd (omega arith)
differences_more [] (y ∷ ys) p x l h same n = absurd (omega arith)
differences_more (z ∷ xs) (y ∷ ys) zero x l h same n =
    let rest : xs ≡ ys = ext_get_or 0 xs ys (suc_inj l) (λ i k. same (suc i) (omega arith)) in
    let none : differences xs ys ≡ [] = ap (differences xs) (sym rest) ∙ differences_self xs in
    differences_other xs ys (λ e. n (sym (same 0 (omega arith)) ∙ e))
    ∙ ap (λ ps. 0 ∷ map suc ps) none
    ∙ sym (ap (λ ps. ps ++ 0 ∷ []) (differences_same xs ys (same 0 (omega arith)) ∙ ap (map suc) none))
differences_more (z ∷ xs) (y ∷ ys) (suc p) x l h same n =
    pick (ℕ_discrete z y) (differences_more xs ys p x (suc_inj l) (omega arith) (λ i k. same (suc i) (omega arith)) n)
  where
    pick : Dec (z ≡ y) → differences xs (set ys p x) ≡ differences xs ys ++ p ∷ []
        → differences (z ∷ xs) (y ∷ set ys p x) ≡ differences (z ∷ xs) (y ∷ ys) ++ suc p ∷ []
    pick (yes e) r =
        differences_same xs (set ys p x) e
        ∙ ap (map suc) r
        ∙ map-append suc (differences xs ys) (p ∷ [])
        ∙ sym (ap (λ ps. ps ++ suc p ∷ []) (differences_same xs ys e))
    pick (no e) r =
        differences_other xs (set ys p x) e
        ∙ ap (λ ps. 0 ∷ map suc ps) r
        ∙ ap (λ ps. 0 ∷ ps) (map-append suc (differences xs ys) (p ∷ []))
        ∙ sym (ap (λ ps. ps ++ suc p ∷ []) (differences_other xs ys e))

-- two words that agree from place n on differ where their first n places do
pub differences_front : (n : ℕ) (xs ys : List ℕ) → length xs ≡ length ys → drop n xs ≡ drop n ys → differences xs ys ≡ differences (take n xs) (take n ys)
differences_front zero xs ys l e = ap (differences xs) (sym e) ∙ differences_self xs ∙ sym (differences-nil [])
differences_front (suc n) [] ys l e = differences-nil ys ∙ sym (differences-nil (take (suc n) ys))
differences_front (suc n) (x ∷ xs) [] l e = absurd (omega arith)
differences_front (suc n) (x ∷ xs) (y ∷ ys) l e = pick (ℕ_discrete x y) (differences_front n xs ys (suc_inj l) e)
  where
    pick : Dec (x ≡ y) → differences xs ys ≡ differences (take n xs) (take n ys) → differences (x ∷ xs) (y ∷ ys) ≡ differences (x ∷ take n xs) (y ∷ take n ys)
    pick (yes q) r = differences_same xs ys q ∙ ap (map suc) r ∙ sym (differences_same (take n xs) (take n ys) q)
    pick (no q) r = differences_other xs ys q ∙ ap (λ ps. 0 ∷ map suc ps) r ∙ sym (differences_other (take n xs) (take n ys) q)

pub differences_comm : (xs ys : List ℕ) → differences xs ys ≡ differences ys xs
differences_comm =
    differences_ind (λ xs ys ps. ps ≡ differences ys xs) (λ ys. sym (differences_none ys)) (λ xs. sym (differences-nil xs))
    (λ x y xs ys ps e h. ap (map suc) h ∙ sym (differences_same ys xs (sym e)))
    (λ x y xs ys ps n h. ap (λ qs. 0 ∷ map suc qs) h ∙ sym (differences_other ys xs (λ e. n (sym e))))

-- distance

pub distance-length : (xs ys : List ℕ) → distance xs ys ≡ length (differences xs ys)
unfolding distance
distance-length xs ys = refl

pub distance_self : (xs : List ℕ) → distance xs xs ≡ 0
distance_self xs = distance-length xs xs ∙ ap length (differences_self xs)

pub distance_comm : (xs ys : List ℕ) → distance xs ys ≡ distance ys xs
distance_comm xs ys = distance-length xs ys ∙ ap length (differences_comm xs ys) ∙ sym (distance-length ys xs)

-- flipping

flip_later : (x : ℕ) (xs : List ℕ) (p : ℕ) → flip (x ∷ xs) (suc p) ≡ x ∷ flip xs p
unfolding flip
flip_later x xs p = refl

flip_first : (x : ℕ) (xs : List ℕ) → flip (x ∷ xs) 0 ≡ (1 - x) ∷ xs
unfolding flip
flip_first x xs = refl

flipped_later : (x : ℕ) (xs ps : List ℕ) → flipped (x ∷ xs) (map suc ps) ≡ x ∷ flipped xs ps
flipped_later x xs [] = flipped-nil (x ∷ xs) ∙ sym (ap (λ ys. x ∷ ys) (flipped-nil xs))
flipped_later x xs (p ∷ ps) =
    flipped-cons (x ∷ xs) (suc p) (map suc ps)
    ∙ ap (λ ys. flipped ys (map suc ps)) (flip_later x xs p)
    ∙ flipped_later x (flip xs p) ps
    ∙ sym (ap (λ ys. x ∷ ys) (flipped-cons xs p ps))

-- to turn over the places where xs differs from ys makes ys
pub flipped-differences : (xs ys : List ℕ) → length xs ≡ length ys → AreBits xs → AreBits ys → flipped xs (differences xs ys) ≡ ys
flipped-differences = differences_ind Held none none_left same other
  where
    Held : List ℕ → List ℕ → List ℕ → Type 0
    Held xs ys ps = length xs ≡ length ys → AreBits xs → AreBits ys → flipped xs ps ≡ ys

    none : (ys : List ℕ) → Held [] ys []
    none [] l b c = flipped-nil []
    none (y ∷ ys) l b c = absurd (omega arith)

    none_left : (xs : List ℕ) → Held xs [] []
    none_left [] l b c = flipped-nil []
    none_left (x ∷ xs) l b c = absurd (omega arith)

    same : (x y : ℕ) (xs ys ps : List ℕ) → x ≡ y → Held xs ys ps → Held (x ∷ xs) (y ∷ ys) (map suc ps)
    same x y xs ys ps e h l b c = flipped_later x xs ps ∙ ap₂ (λ z zs. z ∷ zs) e (h (suc_inj l) (bits_tail b) (bits_tail c))

    other : (x y : ℕ) (xs ys ps : List ℕ) → x ≢ y → Held xs ys ps → Held (x ∷ xs) (y ∷ ys) (0 ∷ map suc ps)
    other x y xs ys ps n h l b c =
        let turned : 1 - x ≡ y = omega (arith, bits_head b, bits_head c) in
        flipped-cons (x ∷ xs) 0 (map suc ps)
        ∙ ap (λ zs. flipped zs (map suc ps)) (flip_first x xs)
        ∙ flipped_later (1 - x) xs ps
        ∙ ap₂ (λ z zs. z ∷ zs) turned (h (suc_inj l) (bits_tail b) (bits_tail c))

pub flipped_other : (xs ps : List ℕ) (p : ℕ) → (Memᴰ p ps → ⊥) → get_or (flipped xs ps) p 0 ≡ get_or xs p 0
flipped_other xs [] p n = ap (λ ys. get_or ys p 0) (flipped-nil xs)
flipped_other xs (q ∷ ps) p n =
    ap (λ ys. get_or ys p 0) (flipped-cons xs q ps)
    ∙ flipped_other (flip xs q) ps p (λ k. n (Memᴰ.tail k))
    ∙ flip_other xs q p (λ e. n (Memᴰ.head e))

pub flipped_at : (xs ps : List ℕ) → Ascending ps → (p : ℕ) → Memᴰ p ps → p < length xs → get_or (flipped xs ps) p 0 ≡ 1 - get_or xs p 0
flipped_at xs [] A p k h = absurd (Memᴰ.not-nil k)
flipped_at xs (q ∷ ps) A p (Memᴰ.head e) h =
    ap (λ ys. get_or ys p 0) (flipped-cons xs q ps)
    ∙ flipped_other (flip xs q) ps p (λ k. omega (arith, A.0 p k))
    ∙ ap (λ r. get_or (flip xs r) p 0) (sym e)
    ∙ flip_at xs p h
flipped_at xs (q ∷ ps) A p (Memᴰ.tail k) h =
    ap (λ ys. get_or ys p 0) (flipped-cons xs q ps)
    ∙ flipped_at (flip xs q) ps A.1 p k (rw (length-flip xs q) h)
    ∙ ap (λ x. 1 - x) (flip_other xs q p (omega (arith, A.0 p k)))

-- the places turned over are the differences
pub differences-flipped : (xs ps : List ℕ) → AreBits xs → Ascending ps → ((p : ℕ) → Memᴰ p ps → p < length xs) → differences xs (flipped xs ps) ≡ ps
differences-flipped xs ps b A h = ascending_same (differences xs (flipped xs ps)) ps (differences_ascending xs (flipped xs ps)) A there back
  where
    there : (p : ℕ) → Memᴰ p (differences xs (flipped xs ps)) → Memᴰ p ps
    there p k = pick (member? p ps)
      where
        pick : Dec (Memᴰ p ps) → Memᴰ p ps
        pick (yes l) = l
        pick (no n) = absurd ((differences_place xs (flipped xs ps) p k).1 (sym (flipped_other xs ps p n)))

    back : (p : ℕ) → Memᴰ p ps → Memᴰ p (differences xs (flipped xs ps))
    back p k =
        differences_member xs (flipped xs ps) (sym (length-flipped xs ps)) p
        (λ e. omega (arith, b.at p, flipped_at xs ps A p k (h p k)))

pub distance-flipped : (xs ps : List ℕ) → AreBits xs → Ascending ps → ((p : ℕ) → Memᴰ p ps → p < length xs) → distance xs (flipped xs ps) ≡ length ps
distance-flipped xs ps b A h = distance-length xs (flipped xs ps) ∙ ap length (differences-flipped xs ps b A h)
