-- The taps are taken from a copy of g.
use mathlib.Core.Path.{◌≡◌, ◌∙◌, sym, ap, subst}
use mathlib.Core.List.{List}
use Prim.Native.Nat.{ℕ}
use lib.ListN.{length, replicate}
use Rattle.bits.proofs.Turns.{copied_front}
use Rattle.bits.specs.Bits.{AreBits}
use Rattle.generator.specs.Work.{Multiplied}
use Rattle.generator.proofs.multiply.Goals as goal

whole : {p : ℕ} {old g after : List ℕ} → old ≡ g → Multiplied p old after → Multiplied p g after
whole {p} {after = after} e m = subst (λ (l : List ℕ). Multiplied p l after) e m

pub slice_bounds-add_taps-end : goal.slice_bounds-add_taps-end
slice_bounds-add_taps-end c =
    sym (ap length (copied_front _ c.args.g.now _ c.copy_at.ensures))

pub add_taps-requires : goal.add_taps-requires
add_taps-requires c =
    let e = (copied_front _ c.args.g.now _ c.copy_at.ensures) in
    (c.clear.ensures ∙ ap (λ (l : List ℕ). replicate (length l) 0) (sym e), subst AreBits (sym e) c.requires.0)

pub returns : goal.returns
returns c =
    whole (copied_front _ c.args.g.now _ c.copy_at.ensures) c.add_taps.ensures
