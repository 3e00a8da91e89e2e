use native.Mathlib.Omega.{arith}
use lib.ListN.{length, get_or, set, length-set}
use lib.Seq.{paste, paste-zero, paste-suc}
use mathlib.Core.Path.{◌≡◌, ◌∙◌, ap}
use mathlib.Core.List.{List}
use native.Mathlib.Numerals.{add-one}
use native.Mathlib.Nat.{le_antisymm}
use Prim.Native.Nat.{ℕ, ◌+◌, ◌≤◌, ◌<◌}
use Rattle.bits.proofs.copy_at.Invariants.{Copying}
use Rattle.bits.proofs.copy_at.Goals as goal

next : {first src dst : List ℕ} {at i : ℕ} → Copying first at src dst i → i < length src → Copying first at src (set dst (at + i) (get_or src i 0)) (i + 1)
next {first} {src} {at = at} {i} f h =
    record {
      within = omega arith;
      room = f.room;
      same = simp length-set f.same;
      is = rw (f.is, add-one i) (paste-suc first at src i 0 (omega (arith, f.room)) h);
    }

all : {first src dst : List ℕ} {at i : ℕ} → Copying first at src dst i → length src ≤ i → dst ≡ paste first at src (length src)
all {first} {src} {at = at} f h = f.is ∙ ap (paste first at src) (le_antisymm f.within h)

pub loop-i-init : goal.loop-i-init
loop-i-init c = record { within = omega arith; room = c.requires; same = omega arith; is = paste-zero c.args.dst.now c.args.at c.args.src.now }

pub loop-i-preserved : goal.loop-i-preserved
loop-i-preserved c = next c.loop-i.invariant (omega arith)

pub shape_of-dst : goal.shape_of-dst
shape_of-dst c = c.loop-i.invariant.same

pub returns : goal.returns
returns c = all c.loop-i.invariant (omega arith)
