use native.Mathlib.Omega.{arith}
use lib.ListN.{length, get_or, set, take, length-set}
use lib.Seq.{take-length}
use lib.Bits.{bit_xor}
use mathlib.Core.Path.{◌≡◌, ◌∙◌, sym, ap}
use mathlib.Core.List.{List}
use native.Mathlib.Numerals.{add-one}
use native.Mathlib.Nat.{le_antisymm}
use Prim.Native.Nat.{ℕ, ◌+◌, ◌≤◌, ◌<◌}
use Rattle.bits.specs.Work.{added_at}
use Rattle.bits.proofs.Turns.{added_at_none, added_at_more}
use Rattle.bits.proofs.add_at.Invariants.{Adding}
use Rattle.bits.proofs.add_at.Goals as goal

next : {first src dst : List ℕ} {at i : ℕ} → Adding first at src dst i → i < length src
    → Adding first at src (set dst (at + i) (bit_xor (get_or dst (at + i) 0) (get_or src i 0))) (i + 1)
next {first} {src} {at = at} {i} f h =
    record {
      within = omega arith;
      room = f.room;
      same = simp length-set f.same;
      is = rw (f.is, add-one i) (added_at_more first at src i (omega (arith, f.room)) h);
    }

all : {first src dst : List ℕ} {at i : ℕ} → Adding first at src dst i → length src ≤ i → dst ≡ added_at first at src
all {first} {src} {at = at} f h =
    f.is ∙ ap (added_at first at) (ap (λ (n : ℕ). take n src) (le_antisymm f.within h) ∙ take-length src)

pub loop-i-init : goal.loop-i-init
loop-i-init c = record { within = omega arith; room = c.requires; same = omega arith; is = sym (added_at_none _ _) }

pub loop-i-preserved : goal.loop-i-preserved
loop-i-preserved c = next c.loop-i.invariant (omega arith)

pub shape_of-dst : goal.shape_of-dst
shape_of-dst c = c.loop-i.invariant.same

pub returns : goal.returns
returns c = all c.loop-i.invariant (omega arith)
