-- Laws of binary, the lowest digits of a number: its length, its entries, one more digit, and the place of the highest digit.
use mathlib.Core.Path.{◌≡◌, ◌∙◌, refl, sym, ap}
use mathlib.Core.List.{[], ◌∷◌, ◌++◌}
use Prim.Native.Nat.{ℕ, zero, suc, ◌+◌, ◌/◌, ◌%◌, ◌^◌, ◌≤◌, ◌<◌}
use native.Mathlib.Nat.{div-one, div-eq_of_lt, div-eq_of_lt-le, le_trans, pow-suc}
use native.Mathlib.Decide.{dec_lt}
use native.Mathlib.Omega.{arith}
use lib.ListN.{length, get_or, get_or-eq_default}
use lib.Pow.{pow_mono, shr-shr}
use Rattle.bits.specs.Bits.{AreBits}
use Rattle.bits.proofs.BitLaws.{bits_nil, bits_cons}
use Rattle.generator.specs.Factors.{binary}

pub binary-zero : (p : ℕ) → binary zero p ≡ []
unfolding binary
binary-zero p = refl

pub binary-suc : (c p : ℕ) → binary (suc c) p ≡ p % 2 ∷ binary c (p / 2)
unfolding binary
binary-suc c p = refl

pub length-binary : (c p : ℕ) → length (binary c p) ≡ c
length-binary zero p = rw (binary-zero p)
length-binary (suc c) p = rw (binary-suc c p) (ap suc (length-binary c (p / 2)))

pub binary_bits : (c p : ℕ) → AreBits (binary c p)
binary_bits zero p = rw (binary-zero p) bits_nil
binary_bits (suc c) p = rw (binary-suc c p) (bits_cons (omega arith) (binary_bits c (p / 2)))

-- digits of the half
half_digit : (p e : ℕ) → p / 2 / 2 ^ e % 2 ≡ p / 2 ^ suc e % 2
half_digit p e =
    let s : 1 + e ≡ suc e = omega arith in
    ap (λ x. x % 2) (shr-shr p 1 e ∙ ap (λ x. p / 2 ^ x) s)

-- place e holds digit e
pub binary_at : (c p e : ℕ) → e < c → get_or (binary c p) e 0 ≡ p / 2 ^ e % 2
binary_at zero p e h = absurd (omega arith)
binary_at (suc c) p zero h = rw (binary-suc c p) (ap (λ x. x % 2) (sym (div-one p)))
binary_at (suc c) p (suc e) h = rw (binary-suc c p) (binary_at c (p / 2) e (omega arith) ∙ half_digit p e)

pub binary_past : (c p e : ℕ) → c ≤ e → get_or (binary c p) e 0 ≡ 0
binary_past c p e h = get_or-eq_default (binary c p) 0 (rw (length-binary c p) h)

-- one more digit
pub binary_more : (e p : ℕ) → binary (suc e) p ≡ binary e p ++ (p / 2 ^ e % 2 ∷ [])
binary_more zero p = rw (binary-suc zero p, binary-zero (p / 2), binary-zero p) (ap (λ x. x % 2 ∷ []) (sym (div-one p)))
binary_more (suc e) p =
    rw (binary-suc (suc e) p, binary-suc e p)
    (ap (λ xs. p % 2 ∷ xs) (binary_more e (p / 2) ∙ ap (λ x. binary e (p / 2) ++ (x ∷ [])) (half_digit p e)))

-- the highest digit
pub binary_top : (c p d : ℕ) → 2 ^ d ≤ p → p < 2 ^ suc d → d < c → get_or (binary c p) d 0 ≡ 1
binary_top c p d h l k =
    let e : p / 2 ^ d ≡ 1 = div-eq_of_lt-le (2 ^ d) (omega arith) (omega (arith, pow-suc 2 d)) in
    binary_at c p d k ∙ ap (λ x. x % 2) e

pub binary_above : (c p d : ℕ) → p < 2 ^ suc d → (i : ℕ) → d < i → get_or (binary c p) i 0 ≡ 0
binary_above c p d l i h = pick (dec_lt i c)
  where
    pick : Dec (i < c) → get_or (binary c p) i 0 ≡ 0
    pick (yes k) = binary_at c p i k ∙ ap (λ x. x % 2) (div-eq_of_lt (le_trans l (pow_mono h)))
    pick (no k) = binary_past c p i (omega arith)
