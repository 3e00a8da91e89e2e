-- The change of the message, the code word that carries it, and that added.
use mathlib.Core.Path.{◌≡◌, sym}
use mathlib.Core.List.{List}
use Prim.Native.Nat.{ℕ, ◌≤◌}
use native.Mathlib.Omega.{arith}
use lib.ListN.{length, take}
use lib.Seq.{length-take-le}
use Rattle.bits.proofs.BitLaws.{bits_take}
use Rattle.codec.proofs.EditLaws.{edited}
use Rattle.codec.proofs.editing.put_stretch.Goals as goal

front : (k : ℕ) (space : List ℕ) → k ≤ 1024 → 1024 ≡ length space → length (take k space) ≡ k
front k space h e = length-take-le k space (omega arith)

pub slice_bounds-code_word-end : goal.slice_bounds-code_word-end
slice_bounds-code_word-end c =
    sym (front c.args.code.k c.message_change-change.result (omega (arith, c.requires.known.within, c.requires.known.small))
    c.message_change-change.ensures.long)

pub code_word-carrier-requires : goal.code_word-carrier-requires
code_word-carrier-requires c =
    let K = c.requires.known in
    record {
      known = K;
      bits = bits_take c.args.code.k c.message_change-change.ensures.bits;
      long = front c.args.code.k c.message_change-change.result (omega (arith, K.within, K.small)) c.message_change-change.ensures.long;
    }

pub returns : goal.returns
returns c =
    edited c.code_word-carrier.result c.requires c.message_change-change.ensures c.code_word-carrier.ensures.0 c.add_at.ensures
