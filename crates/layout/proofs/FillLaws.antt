-- Loops that fill a list from the front.
use mathlib.Core.Path.{◌≡◌, ◌∙◌, sym, subst}
use mathlib.Core.List.{List}
use Prim.Native.Nat.{ℕ, ◌+◌, ◌≤◌, ◌<◌}
use native.Mathlib.Decide.{dec_lt}
use native.Mathlib.Omega.{arith}
use lib.ListN.{length, get_or, set, length-set}
use lib.Seq.{get_or-set_same, get_or-set_other}

-- the first i of n entries are as P wants them
pub record Filling (P : ℕ → ℕ → Type 0) (n : ℕ) (xs : List ℕ) (i : ℕ) : Type 0 where
  pub within : i ≤ n
  pub long : length xs ≡ n
  pub is : (j : ℕ) → j < i → P j (get_or xs j 0)

pub fill_start : (P : ℕ → ℕ → Type 0) {n : ℕ} {xs : List ℕ} → length xs ≡ n → Filling P n xs 0
fill_start P l = record { within = omega arith; long = l; is = λ j h. absurd (omega arith) }

pub fill_next : {P : ℕ → ℕ → Type 0} {n : ℕ} {xs : List ℕ} {i v : ℕ} → Filling P n xs i → i < n → P i v → Filling P n (set xs i v) (i + 1)
fill_next {P} {n} {xs} {i} {v} f h p = record { within = omega arith; long = length-set xs i v ∙ f.long; is = λ j l. pick j l (dec_lt j i) }
  where
    pick : (j : ℕ) → j < i + 1 → Dec (j < i) → P j (get_or (set xs i v) j 0)
    pick j l (yes k) = subst (P j) (sym (get_or-set_other xs i j v 0 (λ e. absurd (omega arith)))) (f.is j k)
    pick j l (no k) =
        let e : j ≡ i = omega arith in
        rw e (subst (P i) (sym (get_or-set_same xs i v 0 (omega (arith, f.long)))) p)

pub fill_done : {P : ℕ → ℕ → Type 0} {n : ℕ} {xs : List ℕ} {i : ℕ} → Filling P n xs i → n ≤ i → (j : ℕ) → j < n → P j (get_or xs j 0)
fill_done f h j l = f.is j (omega (arith, f.within))

-- entry i is f i
abbrev pub EntryOf : (ℕ → ℕ) → ℕ → ℕ → Type 0
EntryOf f i v = v ≡ f i
