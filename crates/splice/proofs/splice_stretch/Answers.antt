use Rattle.splice.proofs.SpliceLaws.{stretch_start, stretch_long, stretch_next, stretch_done}
use native.Mathlib.Omega.{arith}
use Rattle.splice.proofs.splice_stretch.Goals as goal

pub loop-i-init : goal.loop-i-init
loop-i-init c = stretch_start _ _ _ _ _ _

pub splice_place-requires : goal.splice_place-requires
splice_place-requires c =
    let p = c.requires in
    let v = c.loop-i.invariant in
    let long = stretch_long v (omega (arith, v.within, p.ends, p.bits_room)) in
    record {
      below = omega (arith, p.ends);
      bits_room = omega (arith, p.ends, p.bits_room, long);
      sums_room = omega (arith, p.sums_room, v.filled.same);
    }

pub loop-i-preserved : goal.loop-i-preserved
loop-i-preserved c =
    let p = c.requires in
    let more = c.loop-i-test.true in
    stretch_next c.args.powers.now.is_field c.loop-i.invariant more (omega (arith, p.ends, p.bits_room)) c.splice_place.ensures

pub shape_of-bits : goal.shape_of-bits
shape_of-bits c =
    let p = c.requires in
    let v = c.loop-i.invariant in
    stretch_long v (omega (arith, v.within, p.ends, p.bits_room))

pub shape_of-sums : goal.shape_of-sums
shape_of-sums c = c.loop-i.invariant.filled.same

pub returns : goal.returns
returns c = stretch_done c.loop-i.invariant (omega arith)
