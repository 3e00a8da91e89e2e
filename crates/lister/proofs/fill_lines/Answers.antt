use Rattle.std.proofs.Common.{◌∙◌, arith}
use Rattle.lister.proofs.ListLaws.{none_cut, one_cut, cut_room, all_cut}
use Rattle.lister.proofs.fill_lines.Goals as goal

pub loop-frame-init : goal.loop-frame-init
loop-frame-init c =
    let made = c.chunks-frame-items.ensures in
    rw c.into_iter-frame-iterator.ensures.into_iter_gives (rw made.rest (none_cut _ _ _), made.size)

pub overflow_add-number : goal.overflow_add-number
overflow_add-number c =
    let s = c.in-Some.ensures.steps in
    record { fits = omega (arith, (cut_room c.loop-frame.invariant.0 c.requires.block c.requires.long s.1.2).1, c.requires.few) }

pub put_line-end-requires : goal.put_line-end-requires
put_line-end-requires c =
    let s = c.in-Some.ensures.steps in
    (cut_room c.loop-frame.invariant.0 c.requires.block c.requires.long s.1.2).0

pub loop-frame-preserved : goal.loop-frame-preserved
loop-frame-preserved c =
    let s = c.in-Some.ensures.steps in
    let long = rw c.loop-frame.invariant.1 at s.1.1 in
    (one_cut c.loop-frame.invariant.0 s.1.0 long s.1.2 c.put_line-end.ensures, s.0 ∙ c.loop-frame.invariant.1)

pub returns : goal.returns
returns c = all_cut c.loop-frame.invariant.0 c.requires.block c.requires.long c.in-None.ensures.steps.1.0
