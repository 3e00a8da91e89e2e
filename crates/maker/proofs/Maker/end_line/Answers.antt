-- What the line says decides: its frame is put after the frames, or its name after the names.
use mathlib.Core.Path.{refl, subst}
use Rattle.std.proofs.Common.{[], Some, None}
use Prim.Native.Nat.{◌+◌}
use native.Mathlib.Omega.{arith}
use Rattle.typed.specs.Says.{Answers}
use Rattle.maker.specs.Making.{name_of, a_frame, a_name}
use Rattle.line.proofs.LineLaws.{put_nothing}
use Rattle.maker.proofs.StepLaws.{one_line, line_gives, nothing_held, holds_answers}
use Rattle.maker.proofs.Maker.end_line.Goals as goal

pub returns-in-Some : goal.returns-in-Some
returns-in-Some c =
    let says = subst (Answers _) c.in-Some.is c.read-answer.ensures in
    let p = c.put_frame-self.ensures in
    record {
      made = p.frame;
      named = [];
      puts_frames = p.put;
      puts_names = put_nothing c.args.self.now.names refl;
      few = record { held = omega arith; lines = omega arith; frames = omega (arith, p.put.next_is, p.made.long); names = omega arith };
      takes = λ begun o.
          record {
            gives = line_gives (a_frame _ (holds_answers (Some _) o says) p.made refl);
            counts = omega (arith, one_line begun);
            holds = nothing_held c.args.self.now.line begun;
          };
    }

pub returns-in-None : goal.returns-in-None
returns-in-None c =
    let says_nothing = subst (Answers _) c.in-None.is c.read-answer.ensures in
    let p = c.put_name-self.ensures in
    record {
      made = [];
      named = name_of (c.args.self.now.at.lines + 1);
      puts_frames = put_nothing c.args.self.now.frames refl;
      puts_names = p.put;
      few = record { held = omega arith; lines = omega arith; frames = omega arith; names = omega (arith, p.most) };
      takes = λ begun o.
          record {
            gives = line_gives (a_name (holds_answers None o says_nothing) refl refl);
            counts = omega (arith, one_line begun);
            holds = nothing_held c.args.self.now.line begun;
          };
    }
