-- The few numbers that m from 3 to 10 allows.
use mathlib.Core.Path.{◌≡◌}
use Prim.Native.Nat.{ℕ, ◌*◌, ◌/◌, ◌%◌, ◌^◌, ◌≤◌, ◌<◌}
use native.Mathlib.Omega.{arith}
use native.Mathlib.Nat.{mod-eq_of_lt, one-mul, div-lt_iff_lt-mul, mul-lt-mul_of_pos_left, zero-lt-suc}
use lib.Pow.{pow_mono, pow_pos}
use Rattle.field.specs.Product.{IsField}
use Rattle.field.specs.Power.{n_of}

pub record Sizes (m : ℕ) : Type 0 where
  pub least : 8 ≤ 2 ^ m
  pub most : 2 ^ m ≤ 1024

pub sizes : {m : ℕ} → IsField m → Sizes m
sizes l = record { least = pow_mono l.least; most = pow_mono l.most }

-- a shift of 1 as the machine does it
pub one_shifted : {m : ℕ} → IsField m → 1 * 2 ^ m % 2 ^ 64 ≡ 2 ^ m
one_shifted {m} l = let s = sizes l in rw (one-mul (2 ^ m), mod-eq_of_lt {n = 2 ^ m} {m = 2 ^ 64} (omega arith))

-- what a shift by one brings to place m and above
pub over_lt : (m : ℕ) {x : ℕ} → x < 2 ^ m → 2 * x / 2 ^ m < 2
over_lt m h = (div-lt_iff_lt-mul (pow_pos m)).1 (mul-lt-mul_of_pos_left h (zero-lt-suc 1))

-- room for 2,046 powers and 1,024 logarithms is enough for every m
pub powers_room : {m : ℕ} → IsField m → {d : ℕ} → 2046 ≡ d → 2 * n_of m ≤ d
powers_room l e = let s = sizes l in omega arith

pub logs_room : {m : ℕ} → IsField m → {d : ℕ} → 1024 ≡ d → 2 ^ m ≤ d
logs_room l e = let s = sizes l in omega arith
