-- If nothing is held, there is no last line; otherwise the last line ends here.
use Rattle.maker.proofs.StepLaws.{last_line, no_line}
use Rattle.maker.proofs.Maker.fill_last.Goals as goal

pub returns-then-self-eq0 : goal.returns-then-self-eq0
returns-then-self-eq0 c =
    let e = c.empty_buffers.ensures in
    rw (e.frames, e.names) (no_line _ _ _ e.at c.if-self-eq0.true)

pub returns : goal.returns
returns c =
    let e = c.empty_buffers.ensures in
    let s = c.args.self.now in
    let steps = rw (e.line, e.frames, e.names) at c.end_line.ensures in
    last_line c.requires e.at steps s.room.for_line s.within.0 s.room.for_frames s.room.for_names c.if-self-eq0.false
