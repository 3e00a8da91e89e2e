-- The part that is lent has the length of a frame, so the frame is made there.
use mathlib.Core.Path.{refl}
use Rattle.maker.proofs.PutLaws.{frame_put}
use Rattle.maker.proofs.put_frame.Goals as goal

pub returns : goal.returns
returns c =
    frame_put c.args.frames.now c.args.at _ refl c.requires c.make.ensures
