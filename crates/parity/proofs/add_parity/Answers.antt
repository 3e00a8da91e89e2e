-- The word is divided in a copy, and what is left is added.
use mathlib.Core.Path.{◌≡◌, ◌∙◌, sym, ap, subst}
use mathlib.Core.List.{List, ◌++◌}
use Prim.Native.Nat.{ℕ, ◌≤◌}
use native.Mathlib.Omega.{arith}
use lib.ListN.{length, take, drop, length-append}
use lib.Seq.{length-take-le, take-append-le}
use Rattle.bits.specs.Bits.{AreBits}
use Rattle.bits.specs.Work.{added_at}
use Rattle.bits.proofs.Turns.{copied_front}
use Rattle.generator.specs.Work.{Reduced}
use Rattle.parity.proofs.Parity.{with_parity}
use Rattle.parity.proofs.add_parity.Goals as goal

-- the front of the copy is the word, of the same length
divided : {d : ℕ} {g old word left : List ℕ} → old ≡ word → Reduced d g old left → Reduced d g word left
divided {d} {g} {left = left} e r = subst (λ (l : List ℕ). Reduced d g l left) e r

front : (d : ℕ) (left rest : List ℕ) → d ≤ length left → take d (left ++ rest) ≡ take d left
front d left rest h = take-append-le d left rest h

front_long : (d : ℕ) (left rest : List ℕ) → d ≤ length left → length (take d (left ++ rest)) ≡ d
front_long d left rest h = ap length (front d left rest h) ∙ length-take-le d left h

reaches : (d : ℕ) (left rest : List ℕ) → d ≤ length left → d ≤ length (left ++ rest)
reaches d left rest h = omega (arith, length-append left rest)

pub slice_bounds-reduce-end : goal.slice_bounds-reduce-end
slice_bounds-reduce-end c = sym (ap length (copied_front _ c.args.word.now _ c.copy_at.ensures))

pub reduce-requires : goal.reduce-requires
reduce-requires c =
    let p = c.requires in
    (subst AreBits (sym (copied_front _ c.args.word.now _ c.copy_at.ensures)) p.word_bits, p.g_bits, p.g_long, p.g_top)

-- what is left of the word is as long as the copy, so it reaches over the parity
reached : {d : ℕ} (copy word left : List ℕ) → length left ≡ length copy → copy ≡ word → d ≤ length word → d ≤ length left
reached copy word left s e h = rw (s ∙ ap length e) h

pub slice_bounds-space-end-2 : goal.slice_bounds-space-end-2
slice_bounds-space-end-2 c =
    let e = copied_front _ c.args.word.now _ c.copy_at.ensures in
    reaches _ c.reduce.new.word _ (reached _ _ _ c.reduce.auto.word e c.requires.fits)

pub slice_bounds-add_at-end : goal.slice_bounds-add_at-end
slice_bounds-add_at-end c =
    let e = copied_front _ c.args.word.now _ c.copy_at.ensures in
    sym (front_long _ c.reduce.new.word _ (reached _ _ _ c.reduce.auto.word e c.requires.fits))

pub add_at-requires : goal.add_at-requires
add_at-requires c =
    let e = copied_front _ c.args.word.now _ c.copy_at.ensures in
    let rest = drop (length c.args.word.now) c.copy_at.new.dst in
    omega (arith, front_long _ c.reduce.new.word rest (reached _ _ _ c.reduce.auto.word e c.requires.fits), c.requires.fits)

pub returns : goal.returns
returns c =
    let e = copied_front _ c.args.word.now _ c.copy_at.ensures in
    with_parity c.requires.word_bits (divided e c.reduce.ensures) (c.reduce.auto.word ∙ ap length e) c.requires.fits
    (c.add_at.ensures ∙ ap (added_at c.args.word.now 0) (front _ c.reduce.new.word _ (reached _ _ _ c.reduce.auto.word e c.requires.fits)))
