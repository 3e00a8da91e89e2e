-- The bits are copied, and the places turned over in the copy.
use mathlib.Core.Path.{◌∙◌, refl, sym, ap, subst}
use mathlib.Core.List.{List}
use Prim.Native.Nat.{ℕ, ◌<◌}
use lib.ListN.{length}
use Rattle.bits.specs.Bits.{AreBits, flipped}
use Rattle.bits.proofs.Turns.{copied_whole}
use Rattle.decode.proofs.put_down.Goals as goal

pub flip_all-requires : goal.flip_all-requires
flip_all-requires c =
    let can = c.requires in
    let e = sym (copied_whole c.args.word.now c.args.bits.now _ can.same_long c.copy_at.auto.dst c.copy_at.ensures) in
    (subst AreBits e can.are_bits, λ p k. subst (λ (xs : List ℕ). p < length xs) e (can.below p k))

pub put_list-requires : goal.put_list-requires
put_list-requires c = c.requires.few

pub returns : goal.returns
returns c =
    let whole = copied_whole c.args.word.now c.args.bits.now _ c.requires.same_long c.copy_at.auto.dst c.copy_at.ensures in
    record {
      counts = refl;
      is_word = c.flip_all.ensures ∙ ap (λ (xs : List ℕ). flipped xs c.args.places.now) whole;
      is_list = c.put_list.ensures;
    }
