-- The lead of r: the least i from 1 on with i * 2^j mod n = r for some j. The residues of t are the r whose lead is at most 2t.
use mathlib.Core.Path.{◌≡◌, ◌∙◌, sym, ap}
use mathlib.Core.Logic.{◌↔◌}
use Prim.Native.Nat.{ℕ, zero, suc, ◌+◌, ◌-◌, ◌*◌, ◌/◌, ◌%◌, ◌^◌, ◌≤◌, ◌<◌, min}
use native.Mathlib.Nat.{add_comm, zero-mul, mul-one, mul_comm, mul-suc, suc-mul, mul_assoc, mul_left_comm, add-mul, pow-suc}
use native.Mathlib.Nat.{zero-mod, mod-mod, mod_self, mod-le, mod-lt, mod-add-div, div-add-mod', mod-eq_of_lt}
use native.Mathlib.Nat.{add-mul-mod_self_right, add-mul-mod_self_left, min-le_left, min-eq_left, min-eq_right, le_trans}
use native.Mathlib.Decide.{dec_le}
use native.Mathlib.Omega.{arith}
use lib.Pow.{pow-lt, pow-add, suc_ones}
use Rattle.field.specs.Power.{n_of}
use Rattle.codes.specs.Rule.{Residue}

-- a reduction before a product does not matter
mod_times : (a b n : ℕ) → a % n * b % n ≡ a * b % n
mod_times a b n =
    sym (add-mul-mod_self_left (a % n * b) n (a / n * b))
    ∙ ap (λ x. x % n) (ap (λ x. a % n * b + x) (sym (mul_assoc n (a / n) b)) ∙ sym (add-mul (a % n) (n * (a / n)) b) ∙ ap (λ x. x * b) (mod-add-div a n))

-- doublings one after the other
pub doublings_add : (n x i j : ℕ) → x * 2 ^ i % n * 2 ^ j % n ≡ x * 2 ^ (i + j) % n
doublings_add n x i j = mod_times (x * 2 ^ i) (2 ^ j) n ∙ ap (λ z. z % n) (mul_assoc x (2 ^ i) (2 ^ j) ∙ ap (λ z. x * z) (sym (pow-add 2 i j)))

-- m doublings lead back
around : (m x : ℕ) → x * 2 ^ m % n_of m ≡ x % n_of m
around m x =
    let e : x * 2 ^ m ≡ x + x * n_of m = ap (λ z. x * z) (sym (suc_ones m)) ∙ mul-suc x (n_of m) ∙ add_comm (x * n_of m) x in
    ap (λ z. z % n_of m) e ∙ add-mul-mod_self_right x x (n_of m)

arounds : (m x j : ℕ) → x * 2 ^ (j * m) % n_of m ≡ x % n_of m
arounds m x zero = rw (zero-mul m, mul-one x)
arounds m x (suc j) =
    ap (λ z. x * 2 ^ z % n_of m) (suc-mul j m)
    ∙ sym (doublings_add (n_of m) x (j * m) m)
    ∙ around m (x * 2 ^ (j * m) % n_of m)
    ∙ mod-mod (x * 2 ^ (j * m)) (n_of m)
    ∙ arounds m x j

-- so that doublings can be undone
pub back : (m i j r : ℕ) → 1 ≤ m → i * 2 ^ j % n_of m ≡ r → r * 2 ^ (j * (m - 1)) % n_of m ≡ i % n_of m
back m i j r h e =
    let p : suc (m - 1) ≡ m = omega arith in
    ap (λ z. z * 2 ^ (j * (m - 1)) % n_of m) (sym e)
    ∙ doublings_add (n_of m) i j (j * (m - 1))
    ∙ ap (λ z. i * 2 ^ z % n_of m) (add_comm j (j * (m - 1)) ∙ sym (mul-suc j (m - 1)) ∙ ap (λ z. j * z) p)
    ∙ arounds m i j

-- the least of x and the numbers that so many doublings make of it
abbrev pub least : ℕ → ℕ → ℕ → ℕ
least n zero x = x
least n (suc left) x = min x (least n left (2 * x % n))

-- the lead of r; for 0 it is n
unfoldable pub lead : ℕ → ℕ → ℕ
lead m zero = n_of m
lead m (suc r) = least (n_of m) m (suc r)

still : (n x : ℕ) → x < n → x * 2 ^ 0 % n ≡ x
still n x h = rw (mul-one x, mod-eq_of_lt h)

once : (n x j : ℕ) → 2 * x % n * 2 ^ j % n ≡ x * 2 ^ suc j % n
once n x j = mod_times (2 * x) (2 ^ j) n ∙ ap (λ z. z % n) (simp (pow-suc, mul_assoc, mul_comm, mul_left_comm))

least_most : (n left x : ℕ) → x < n → (j : ℕ) → j ≤ left → least n left x ≤ x * 2 ^ j % n
least_most n zero x h j k =
    let e : j ≡ 0 = omega arith in
    rw (e, still n x h) (omega arith)
least_most n (suc left) x h zero k = rw (still n x h) (min-le_left x (least n left (2 * x % n)))
least_most n (suc left) x h (suc j) k =
    rw (← once n x j) (omega (arith, least_most n left (2 * x % n) (mod-lt (2 * x) (omega arith)) j (omega arith)))

least_made : (n left x : ℕ) → x < n → (j : ℕ) × (least n left x ≡ x * 2 ^ j % n)
least_made n zero x h = (0, sym (still n x h))
least_made n (suc left) x h = pick (dec_le x y) (least_made n left (2 * x % n) (mod-lt (2 * x) (omega arith)))
  where
    y : ℕ
    y = least n left (2 * x % n)

    pick : Dec (x ≤ y) → (j : ℕ) × (y ≡ 2 * x % n * 2 ^ j % n) → (j : ℕ) × (min x y ≡ x * 2 ^ j % n)
    pick (yes p) w = (0, min-eq_left p ∙ sym (still n x h))
    pick (no p) (j, e) =
        let q : y ≤ x = omega arith in
        (suc j, min-eq_right q ∙ e ∙ once n x j)

whole_turns : (m x j : ℕ) → x * 2 ^ (j % m) % n_of m ≡ x * 2 ^ j % n_of m
whole_turns m x j =
    let e : j % m + j / m * m ≡ j = omega (arith, div-add-mod' j m) in
    sym (mod-mod (x * 2 ^ (j % m)) (n_of m))
    ∙ sym (arounds m (x * 2 ^ (j % m) % n_of m) (j / m))
    ∙ doublings_add (n_of m) x (j % m) (j / m * m)
    ∙ ap (λ z. x * 2 ^ z % n_of m) e

least_always : (m x : ℕ) → 1 ≤ m → x < n_of m → (j : ℕ) → least (n_of m) m x ≤ x * 2 ^ j % n_of m
least_always m x l h j = rw (← whole_turns m x j) (least_most (n_of m) m x h (j % m) (omega (arith, mod-lt j l)))

pub n_positive : (m : ℕ) → 1 ≤ m → 0 < n_of m
n_positive m l = omega (arith, pow-lt l)

nothing : (n j : ℕ) → 0 * 2 ^ j % n ≡ 0
nothing n j = rw (zero-mul (2 ^ j), zero-mod n)

-- no smaller number reaches r
pub lead_least : (m i j r : ℕ) → 1 ≤ m → 1 ≤ i → i * 2 ^ j % n_of m ≡ r → lead m r ≤ i
unfolding lead
lead_least m i j zero l h e = pick (dec_le (n_of m) i)
  where
    pick : Dec (n_of m ≤ i) → n_of m ≤ i
    pick (yes p) = p
    pick (no p) =
        let q : i < n_of m = omega arith in
        let z : 0 ≡ i = sym (nothing (n_of m) (j * (m - 1))) ∙ back m i j 0 l e ∙ mod-eq_of_lt q in
        absurd (omega arith)
lead_least m i j (suc r) l h e =
    le_trans (least_always m (suc r) l (rw (← e) (mod-lt (i * 2 ^ j) (n_positive m l))) (j * (m - 1))) (rw (back m i j (suc r) l e) (mod-le i (n_of m)))

-- the lead reaches r
pub lead_reaches : (m r : ℕ) → 1 ≤ m → r < n_of m → (j : ℕ) × (lead m r * 2 ^ j % n_of m ≡ r)
unfolding lead
lead_reaches m zero l h = (0, rw (mul-one (n_of m), mod_self (n_of m)))
lead_reaches m (suc r) l h =
    let (j, e) = least_made (n_of m) m (suc r) h in
    (j * (m - 1), back m (suc r) j (least (n_of m) m (suc r)) l (sym e) ∙ mod-eq_of_lt h)

pub lead_positive : (m r : ℕ) → 1 ≤ m → r < n_of m → 1 ≤ lead m r
lead_positive m zero l h = unfold lead in n_positive m l
lead_positive m (suc r) l h = pick (lead m (suc r)) (lead_reaches m (suc r) l h)
  where
    pick : (i : ℕ) → (j : ℕ) × (i * 2 ^ j % n_of m ≡ suc r) → 1 ≤ i
    pick zero (j, e) = absurd (omega (arith, nothing (n_of m) j))
    pick (suc i) w = omega arith

-- r is a residue of t exactly if its lead is at most 2t, whatever t is
pub residue_lead : (m t r : ℕ) → 1 ≤ m → r < n_of m → Residue (n_of m) t r ↔ lead m r ≤ 2 * t
residue_lead m t r l h = (to, from)
  where
    to : Residue (n_of m) t r → lead m r ≤ 2 * t
    to w = le_trans (lead_least m w.i w.j r l w.least w.is) w.most

    from : lead m r ≤ 2 * t → Residue (n_of m) t r
    from k =
        let (j, e) = lead_reaches m r l h in
        record { i = lead m r; j = j; least = lead_positive m r l h; most = k; is = e }

pub lead_at_most : (m r : ℕ) → 1 ≤ m → 1 ≤ r → r < n_of m → lead m r ≤ r
lead_at_most m r l p h = lead_least m r 0 r l p (still (n_of m) r h)

pub all_residues : (m t r : ℕ) → 1 ≤ m → n_of m ≤ 2 * t → r < n_of m → Residue (n_of m) t r
unfolding lead
all_residues m t zero l k h = (residue_lead m t zero l h).1 k
all_residues m t (suc r) l k h = (residue_lead m t (suc r) l h).1 (omega (arith, lead_at_most m (suc r) l (omega arith) h))

lead_carried : (m r s j : ℕ) → 1 ≤ m → r < n_of m → r * 2 ^ j % n_of m ≡ s → lead m s ≤ lead m r
lead_carried m r s j l h e =
    let (i, f) = lead_reaches m r l h in
    lead_least m (lead m r) (i + j) s l (lead_positive m r l h)
    (sym (doublings_add (n_of m) (lead m r) i j) ∙ ap (λ z. z * 2 ^ j % n_of m) f ∙ e)

-- one class, one lead
pub lead_same : (m r s j : ℕ) → 1 ≤ m → r < n_of m → r * 2 ^ j % n_of m ≡ s → lead m s ≡ lead m r
lead_same m r s j l h e =
    let k : s < n_of m = rw (← e) (mod-lt (r * 2 ^ j) (n_positive m l)) in
    omega (arith, lead_carried m r s j l h e, lead_carried m s r (j * (m - 1)) l k (back m r j s l e ∙ mod-eq_of_lt h))
