-- A newline ends the line, and any other byte is kept.
use Rattle.maker.proofs.StepLaws.{steps_kept}
use Rattle.maker.proofs.Maker.take_byte.Goals as goal

pub returns : goal.returns
returns c =
    let k = c.keep.ensures in
    rw (k.frames, k.names) (steps_kept c.args.self.now.frames c.args.self.now.names c.if-byte-eq10.false k.kept)
