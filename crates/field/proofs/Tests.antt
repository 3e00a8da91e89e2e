-- Computed tests and what they prove: for every number in a range, for every listed m, for every test of a list.
use mathlib.Core.Path.{◌≡◌, subst}
use mathlib.Core.Bool.{Bool, true, false}
use mathlib.Core.List.{List, [], ◌∷◌}
use Prim.Native.Nat.{ℕ, zero, suc, ◌+◌, ◌-◌, ◌≤◌, ◌<◌}
use native.Mathlib.Nat.{add-zero, not-suc-le-zero}
use native.Mathlib.Omega.{arith}
use lib.Dec.{T}
use Rattle.field.specs.Product.{IsField}

abbrev pub both : Bool → Bool → Bool
both true b = b
both false b = false

pub both_left : (a b : Bool) → T (both a b) → T a
both_left true b t = tt
both_left false b t = t

pub both_right : (a b : Bool) → T (both a b) → T b
both_right true b t = t
both_right false b t = absurd t

-- the test f passes at n numbers from s on
abbrev pub passes : (ℕ → Bool) → ℕ → ℕ → Bool
passes f s zero = true
passes f s (suc n) = both (f s) (passes f (suc s) n)

passed : (f : ℕ → Bool) (s n : ℕ) → T (passes f s n) → (k : ℕ) → k < n → T (f (s + k))
passed f s zero t k h = absurd (not-suc-le-zero h)
passed f s (suc n) t zero h = rw (add-zero s) (both_left (f s) (passes f (suc s) n) t)
passed f s (suc n) t (suc k) h =
    let e : s + suc k ≡ suc s + k = omega arith in
    rw e (passed f (suc s) n (both_right (f s) (passes f (suc s) n) t) k (omega arith))

pub passed_at : (f : ℕ → Bool) (s n : ℕ) → T (passes f s n) → (x : ℕ) → s ≤ x → x < s + n → T (f x)
passed_at f s n t x l h =
    let e : s + (x - s) ≡ x = omega arith in
    subst (λ k. T (f k)) e (passed f s n t (x - s) (omega arith))

pub at_listed : (f : ℕ → Bool) → T (passes f 3 8) → {m : ℕ} → IsField m → T (f m)
at_listed f t {m} L = passed_at f 3 8 t m L.least (omega arith)

abbrev pub all : List Bool → Bool
all [] = true
all (b ∷ bs) = both b (all bs)

pub data All : List Bool → Type 0 where
  done : All []
  also : {b : Bool} {bs : List Bool} → T b → All bs → All (b ∷ bs)

pub all_passed : (bs : List Bool) → T (all bs) → All bs
all_passed [] t = done
all_passed (b ∷ bs) t = also (both_left b (all bs) t) (all_passed bs (both_right b (all bs) t))
