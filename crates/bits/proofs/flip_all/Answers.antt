use native.Mathlib.Omega.{arith}
use lib.ListN.{length, get_or, set, take}
use lib.Seq.{take-length}
use mathlib.Core.Path.{◌≡◌, ◌∙◌, sym, ap}
use mathlib.Core.List.{List}
use native.Mathlib.Numerals.{add-one}
use native.Mathlib.Nat.{le_antisymm}
use Prim.Native.Nat.{ℕ, ◌+◌, ◌-◌, ◌≤◌, ◌<◌}
use Rattle.bits.specs.Bits.{flipped}
use Rattle.bits.proofs.BitLaws.{flip-set, length-flip, bits_flip, flipped-nil}
use Rattle.bits.proofs.Places.{member_at}
use Rattle.bits.proofs.Turns.{flipped_more}
use Rattle.bits.proofs.flip_all.Invariants.{Flipping}
use Rattle.bits.proofs.flip_all.Goals as goal

place : {first places dst : List ℕ} {i : ℕ} → Flipping first places dst i → i < length places → get_or places i 0 < length dst
place {places = places} {i = i} f h = rw f.same (f.below (get_or places i 0) (member_at places i h))

next : {first places dst : List ℕ} {i : ℕ} → Flipping first places dst i → i < length places
    → Flipping first places (set dst (get_or places i 0) (1 - get_or dst (get_or places i 0) 0)) (i + 1)
next {first} {places} {dst} {i = i} f h =
    rw (← (flip-set dst (get_or places i 0)))
    (record {
      bits = bits_flip (get_or places i 0) f.bits;
      below = f.below;
      same = length-flip dst (get_or places i 0) ∙ f.same;
      within = omega arith;
      is = rw (f.is, add-one i) (sym (flipped_more first places i h));
    })

all : {first places dst : List ℕ} {i : ℕ} → Flipping first places dst i → length places ≤ i → dst ≡ flipped first places
all {first} {places} f h =
    f.is ∙ ap (λ (n : ℕ). flipped first (take n places)) (le_antisymm f.within h) ∙ ap (flipped first) (take-length places)

pub loop-place-init : goal.loop-place-init
loop-place-init c = record { bits = c.requires.0; below = c.requires.1; same = omega arith; within = omega arith; is = sym (flipped-nil _) }

pub bounds-dst-p : goal.bounds-dst-p
bounds-dst-p c = rw c.from-p.ensures (place c.loop-place.invariant (omega arith))

pub overflow_sub-dst : goal.overflow_sub-dst
overflow_sub-dst c = c.loop-place.invariant.bits.at _

pub bounds-dst-p-in-loop-place : goal.bounds-dst-p-in-loop-place
bounds-dst-p-in-loop-place c = rw c.from-p.ensures (place c.loop-place.invariant (omega arith))

pub loop-place-preserved : goal.loop-place-preserved
loop-place-preserved c = rw c.from-p.ensures (next c.loop-place.invariant (omega arith))

pub shape_of-dst : goal.shape_of-dst
shape_of-dst c = c.loop-place.invariant.same

pub returns : goal.returns
returns c = all c.loop-place.invariant (omega arith)
