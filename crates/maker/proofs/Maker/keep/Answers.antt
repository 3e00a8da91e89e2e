-- Either there is room for the byte, or what is held is full.
use mathlib.Core.Path.{refl}
use native.Mathlib.Omega.{arith}
use Rattle.maker.proofs.KeptLaws.{kept_one, kept_none}
use Rattle.maker.proofs.Maker.keep.Goals as goal

pub returns-then-self-lt63-clause-kept : goal.returns-then-self-lt63-clause-kept
returns-then-self-lt63-clause-kept c =
    let s = c.args.self.now in
    let long = s.room.for_line in
    record { lines = refl; frames = refl; names = refl; within = omega arith; kept = kept_one s.line s.at.held c.args.byte long (omega (arith, long)) }

pub returns-else-self-lt63-clause-kept : goal.returns-else-self-lt63-clause-kept
returns-else-self-lt63-clause-kept c =
    let s = c.args.self.now in
    let most = s.within.0 in
    record { lines = refl; frames = refl; names = refl; within = most; kept = kept_none s.line s.at.held c.args.byte s.room.for_line (omega (arith, most)) }
