-- The message in its place.
use mathlib.Core.Path.{◌≡◌, ◌∙◌, sym, ap, subst}
use mathlib.Core.List.{List}
use Prim.Native.Nat.{ℕ, ◌+◌, ◌-◌, ◌≤◌}
use native.Mathlib.Omega.{arith}
use lib.ListN.{length, replicate, length-replicate}
use lib.Seq.{paste, length-paste}
use Rattle.bits.specs.Bits.{AreBits}
use Rattle.bits.proofs.BitLaws.{bits_replicate}
use Rattle.bits.proofs.Turns.{bits_paste}
use Rattle.codes.specs.declared.Code.{Code}
use Rattle.parity.specs.Work.{MessageOf}

-- the word with the message placed in it
pub record Placed (c : Code) (message word : List ℕ) : Type 0 where
  pub is : word ≡ paste (replicate c.n 0) (c.n - c.k) message (length message)
  pub bits : AreBits word
  pub long : length word ≡ c.n
  pub small : length word ≤ 1024

-- parity and message are the whole word
pub room : {c : Code} {message : List ℕ} → MessageOf c message → c.n - c.k + length message ≡ c.n
room M = omega (arith, M.known.within, M.long)

pub placed : {c : Code} {message word : List ℕ} (lent : List ℕ) → MessageOf c message → length lent ≡ c.n
    → word ≡ paste (replicate (length lent) 0) (c.n - c.k) message (length message) → Placed c message word
placed {c} {message} {word} lent M n p =
    let q : word ≡ paste (replicate c.n 0) (c.n - c.k) message (length message) =
    p ∙ ap (λ (x : ℕ). paste (replicate x 0) (c.n - c.k) message (length message)) n in
    let z = length-replicate {A = ℕ} c.n 0 in
    let l : length word ≡ c.n =
    ap length q ∙ length-paste (replicate c.n 0) (c.n - c.k) message (length message) (omega (arith, room M)) (omega arith) ∙ z in
    record {
      is = q;
      bits = subst AreBits (sym q) (bits_paste (c.n - c.k) (bits_replicate c.n) M.bits);
      long = l;
      small = omega
          (arith, M.known.small);
    }
