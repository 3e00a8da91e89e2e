-- Either old is added, or there is nothing to add.
use native.Mathlib.Omega.{arith}
use lib.Seq.{length-take-le}
use mathlib.Core.Path.{◌≡◌, sym}
use mathlib.Core.List.{List}
use Prim.Native.Nat.{ℕ, ◌-◌, ◌%◌}
use lib.ListN.{length, take}
use Rattle.generator.proofs.Taps.{tap_skipped, tap_past, tap_added}
use Rattle.generator.proofs.add_tap.Goals as goal

part : (g old : List ℕ) (e : ℕ) → length old ≡ length g → length (take (length g - e) old) ≡ length g - e
part g old e s = length-take-le (length g - e) old (omega arith)

odd : (x : ℕ) → (x % 2 ≡ 0 → ⊥) → x % 2 ≡ 1
odd x h = omega arith

pub returns-then-p-e-eq0 : goal.returns-then-p-e-eq0
returns-then-p-e-eq0 c = let p = c.requires in tap_skipped _ _ p.0 p.1 p.2 c.if-p-e-eq0.true

pub returns-then-g-e : goal.returns-then-g-e
returns-then-g-e c = let p = c.requires in tap_past _ _ p.0 p.1 p.2 c.if-g-e.true

pub slice_bounds-add_at-end : goal.slice_bounds-add_at-end
slice_bounds-add_at-end c = sym (part c.args.g.now c.args.old.now c.args.e c.requires.2)

pub add_at-requires : goal.add_at-requires
add_at-requires c = omega (arith, (part c.args.g.now c.args.old.now c.args.e c.requires.2))

pub returns : goal.returns
returns c =
    let p = c.requires in
    rw c.add_at.ensures (tap_added _ _ p.0 p.1 p.2 (odd _ c.if-p-e-eq0.false) c.if-g-e.false)
