-- The frames that are whole are listed, and what is left moves to the front.
use mathlib.Core.Path.{refl}
use native.Mathlib.Omega.{arith}
use Rattle.lister.proofs.ListLaws.{taken_in}
use Rattle.lister.proofs.Lister.take_in.Goals as goal

pub returns : goal.returns
returns c =
    let s = c.args.self.now in
    taken_in s.at c.args.came _ s.frames (omega (arith, s.frames_long)) refl refl refl c.fill_lines-end.ensures c.copy_within.ensures.after
