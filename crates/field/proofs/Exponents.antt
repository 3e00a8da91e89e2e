-- Exponents brought below n, and logarithms.
use mathlib.Core.Path.{◌≡◌, ◌∙◌, sym, ap}
use mathlib.Core.List.{List}
use mathlib.Core.Logic.{◌≢◌}
use Prim.Native.Nat.{ℕ, ◌-◌, ◌*◌, ◌%◌, ◌^◌, ◌≤◌, ◌<◌}
use native.Mathlib.Nat.{mod-lt, mod-eq_of_lt, mod-eq-sub-mod}
use native.Mathlib.Omega.{arith}
use lib.ListN.{get_or}
use Rattle.field.specs.Product.{IsField}
use Rattle.field.specs.Power.{a, n_of, power}
use Rattle.field.specs.Tables.{Tables}
use Rattle.field.proofs.Order.{eight_bound, power-mod, every_power}

-- once around at most

pub around_within : {n e : ℕ} → e < n → e ≡ e % n
around_within h = sym (mod-eq_of_lt h)

pub around_past : {n e : ℕ} → e < 2 * n → n ≤ e → e - n ≡ e % n
around_past {n} {e} h k = sym (mod-eq-sub-mod k ∙ mod-eq_of_lt less)
  where
    less : e - n < n
    less = omega arith

module _ {m : ℕ} (L : IsField m) where
  pub around_below : {n r : ℕ} (e : ℕ) → n ≡ n_of m → r ≡ e % n → r < n_of m
  around_below {n} {r} e is q = rw (q ∙ ap (λ k. e % k) is) (mod-lt e (omega (arith, eight_bound L)))

  pub around_power : {n r : ℕ} (e : ℕ) → n ≡ n_of m → r ≡ e % n → power m a r ≡ power m a e
  around_power {n} {r} e is q = ap (power m a) (q ∙ ap (λ k. e % k) is) ∙ power-mod L e

-- the logarithm of x, as the table has it
pub record Logarithm (m : ℕ) (logs : List ℕ) (x : ℕ) : Type 0 where
  pub below : get_or logs x 0 < n_of m
  pub is : power m a (get_or logs x 0) ≡ x

pub logarithm : {m x : ℕ} {powers logs : List ℕ} → Tables m powers logs → x < 2 ^ m → x ≢ 0 → Logarithm m logs x
logarithm {m} {x} {logs = logs} t h z =
    let (i, b, e) = every_power t.listed x h z in
    let l : get_or logs x 0 ≡ i = ap (λ (y : ℕ). get_or logs y 0) (sym e) ∙ t.logs_hold.holds i b in
    record { below = rw l b; is = rw l e }
