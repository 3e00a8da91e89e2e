-- The rule of the list. docs/SCOPE.md 3.4: "n - k is the number of different residues i * 2^j mod n with i from 1 to 2t and j from 0";
-- "2t + 1 mod n is none of these"; "t is at least 1 and k at least 2".
use Rattle.std.specs.Prelude.{◌≡◌, ℕ, suc, ◌+◌, ◌-◌, ◌*◌, ◌%◌, ◌^◌, ◌≤◌}
use Rattle.field.specs.Power.{n_of}

pub record Residue (n t r : ℕ) : Type 0 where
  pub i : ℕ
  pub j : ℕ
  pub least : 1 ≤ i
  pub most : i ≤ 2 * t
  pub is : i * 2 ^ j % n ≡ r

-- Count P n c: c of the numbers below n have P
pub data Count (P : ℕ → Type 0) : ℕ → ℕ → Type 0 where
  none : Count P 0 0
  hit : {n c : ℕ} → P n → Count P n c → Count P (suc n) (suc c)
  miss : {n c : ℕ} → (P n → ⊥) → Count P n c → Count P (suc n) c

pub record Rule (m k t : ℕ) : Type 0 where
  pub count : Count (Residue (n_of m) t) (n_of m) (n_of m - k)
  pub free : Residue (n_of m) t ((2 * t + 1) % n_of m) → ⊥
  pub positive : 1 ≤ t
  pub wide : 2 ≤ k
