-- Laws of Count: a count is unique, can be computed by a test, and gives a list of what was counted.
use mathlib.Core.Path.{◌≡◌, refl, ap}
use mathlib.Core.Logic.{◌≢◌, ◌↔◌}
use mathlib.Core.Bool.{Bool, true, false}
use mathlib.Core.List.{List, [], ◌∷◌}
use Prim.Native.Nat.{ℕ, zero, suc, ◌+◌, ◌≤◌, ◌<◌}
use native.Mathlib.Nat.{le_refl, not-suc-le-zero}
use native.Mathlib.Omega.{arith}
use lib.Dec.{T}
use lib.ListN.{length, get_or}
use Rattle.codes.specs.Rule.{Count, none, hit, miss}

pub count_unique : {P : ℕ → Type 0} {n c c' : ℕ} → Count P n c → Count P n c' → c ≡ c'
count_unique none none = refl
count_unique (hit p x) (hit q y) = ap suc (count_unique x y)
count_unique (hit p x) (miss q y) = absurd (q p)
count_unique (miss p x) (hit q y) = absurd (p q)
count_unique (miss p x) (miss q y) = count_unique x y

pub count_nothing : {P : ℕ → Type 0} (n : ℕ) → ((x : ℕ) → P x → ⊥) → Count P n 0
count_nothing zero f = none
count_nothing (suc n) f = miss (f n) (count_nothing n f)

pub count_nearly_all : {P : ℕ → Type 0} {n c : ℕ} → ((x : ℕ) → 1 ≤ x → x < n → P x) → Count P n c → n ≤ suc c
count_nearly_all f none = omega arith
count_nearly_all f (hit p x) = omega (arith, count_nearly_all (λ y l h. f y l (omega arith)) x)
count_nearly_all f (miss {n = zero} p x) = omega arith
count_nearly_all f (miss {n = suc n} p x) = absurd (p (f (suc n) (omega arith) (omega arith)))

-- the numbers that have P and do not have Q
pub count_rest : {P Q R : ℕ → Type 0} {n a b : ℕ} → ((x : ℕ) → x < n → Q x → P x) → ((x : ℕ) → x < n → R x ↔ P x × (Q x → ⊥))
    → Count P n a → Count Q n b → (c : ℕ) × (b + c ≡ a) × Count R n c
count_rest f g none none = (0, omega arith, none)
count_rest f g (hit {n} p x) (hit q y) =
    let (c, e, z) = count_rest (λ w h. f w (omega arith)) (λ w h. g w (omega arith)) x y in
    (c, omega arith, miss (λ r. ((g n (le_refl (suc n))).0 r).1 q) z)
count_rest f g (hit {n} p x) (miss q y) =
    let (c, e, z) = count_rest (λ w h. f w (omega arith)) (λ w h. g w (omega arith)) x y in
    (suc c, omega arith, hit ((g n (omega arith)).1 (p, q)) z)
count_rest f g (miss {n} p x) (hit q y) = absurd (p (f n (omega arith) q))
count_rest f g (miss {n} p x) (miss q y) =
    let (c, e, z) = count_rest (λ w h. f w (omega arith)) (λ w h. g w (omega arith)) x y in
    (c, omega arith, miss (λ r. p ((g n (le_refl (suc n))).0 r).0) z)

-- f (n - 1) down to f 0
abbrev pub down : (ℕ → ℕ) → ℕ → List ℕ
down f zero = []
down f (suc n) = f n ∷ down f n

-- how many of the list pass the test
abbrev pub raise : Bool → ℕ → ℕ
raise true c = suc c
raise false c = c

abbrev pub passing : (ℕ → Bool) → List ℕ → ℕ
passing test [] = 0
passing test (x ∷ xs) = raise (test x) (passing test xs)

raised : {P : ℕ → Type 0} {n c : ℕ} (b : Bool) → T b ↔ P n → Count P n c → Count P (suc n) (raise b c)
raised true e x = hit (e.0 tt) x
raised false e x = miss e.1 x

-- f is computed once for each number, and its values may be tested as often as wanted
pub count_computed : {P : ℕ → Type 0} (f : ℕ → ℕ) (test : ℕ → Bool) (n : ℕ) → ((x : ℕ) → x < n → T (test (f x)) ↔ P x)
    → Count P n (passing test (down f n))
count_computed f test zero e = none
count_computed f test (suc n) e = raised (test (f n)) (e n (omega arith)) (count_computed f test n (λ x h. e x (omega arith)))

pub record Members (P : ℕ → Type 0) (n c : ℕ) : Type 0 where
  pub list : List ℕ
  pub long : length list ≡ c
  pub below : (i : ℕ) → i < c → get_or list i 0 < n
  pub have : (i : ℕ) → i < c → P (get_or list i 0)
  pub descending : (i j : ℕ) → i < j → j < c → get_or list j 0 < get_or list i 0

more : {P : ℕ → Type 0} {n c : ℕ} → P n → Members P n c → Members P (suc n) (suc c)
more {P} {n} {c} p m =
    record { list = n ∷ m.list; long = ap suc m.long; below = below; have = have; descending = descending }
  where
    below : (i : ℕ) → i < suc c → get_or (n ∷ m.list) i 0 < suc n
    below zero h = omega arith
    below (suc i) h = omega (arith, m.below i (omega arith))

    have : (i : ℕ) → i < suc c → P (get_or (n ∷ m.list) i 0)
    have zero h = p
    have (suc i) h = m.have i (omega arith)

    descending : (i j : ℕ) → i < j → j < suc c → get_or (n ∷ m.list) j 0 < get_or (n ∷ m.list) i 0
    descending i zero h k = absurd (not-suc-le-zero h)
    descending zero (suc j) h k = m.below j (omega arith)
    descending (suc i) (suc j) h k = m.descending i j (omega arith) (omega arith)

pub members : {P : ℕ → Type 0} {n c : ℕ} → Count P n c → Members P n c
members none =
    record {
      list = [];
      long = refl;
      below = λ i h. absurd (not-suc-le-zero h);
      have = λ i h. absurd (not-suc-le-zero h);
      descending = λ i j h k. absurd (not-suc-le-zero k);
    }
members (hit p x) = more p (members x)
members (miss p x) =
    let m = members x in
    record { list = m.list; long = m.long; below = λ i h. omega (arith, m.below i h); have = m.have; descending = m.descending }

pub members_distinct : {P : ℕ → Type 0} {n c : ℕ} (m : Members P n c) (i j : ℕ) → i < j → j < c → get_or m.list i 0 ≢ get_or m.list j 0
members_distinct m i j h k = omega (arith, m.descending i j h k)
