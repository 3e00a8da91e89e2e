use native.Mathlib.Numerals.{add-one}
use native.Mathlib.Omega.{arith}
use lib.Seq.{take-suc, take_all, length-take-le}
use Rattle.maker.proofs.StepLaws.{steps_none, steps_then, step_ready, fills}
use Rattle.maker.proofs.Maker.fill.Goals as goal

pub loop-byte-init : goal.loop-byte-init
loop-byte-init c = let s = c.empty_buffers.new.self in steps_none _ _ _ _ s.within.0

pub take_byte-requires : goal.take_byte-requires
take_byte-requires c =
    let passed = length-take-le c.loop-byte.byte-index c.args.bytes.now (omega arith) in
    step_ready c.requires c.empty_buffers.ensures.at c.loop-byte.invariant (omega (arith, passed))

pub loop-byte-preserved : goal.loop-byte-preserved
loop-byte-preserved c =
    let longer = take-suc c.args.bytes.now c.loop-byte.byte-index 0 c.loop-byte-test.true in
    rw (add-one c.loop-byte.byte-index, longer) (steps_then c.loop-byte.invariant c.take_byte.ensures)

pub returns : goal.returns
returns c =
    let e = c.empty_buffers.ensures in
    let room = c.args.self.now.room in
    let all = take_all c.loop-byte.byte-index c.args.bytes.now c.loop-byte-test.false in
    let steps = rw (all, e.line, e.frames, e.names) at c.loop-byte.invariant in
    fills c.requires e.at steps (omega arith) room.for_frames room.for_names
