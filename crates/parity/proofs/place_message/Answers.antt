-- Cleared, then copied into.
use mathlib.Core.Path.{◌∙◌, ap}
use mathlib.Core.List.{List}
use Prim.Native.Nat.{ℕ}
use lib.ListN.{length}
use lib.Seq.{paste}
use Rattle.parity.proofs.place_message.Goals as goal

pub returns : goal.returns
returns c =
    c.copy_at.ensures
    ∙ ap (λ (l : List ℕ). paste l c.args.d c.args.message.now (length c.args.message.now))
    c.clear.ensures
