-- Past the first test the room from the start on decides.
use borrow.Author.Rules.{rules}
use mathlib.Core.Path.{sym}
use Prim.Native.Nat.{◌+◌}
use native.Mathlib.Omega.{arith}
use borrow.Author.Tests.{lt-ltb}
use Rattle.bits.proofs.Turns.{room_past}
use Rattle.bits.proofs.runs_past.Goals as goal

pub returns-then-end-start : goal.returns-then-end-start
returns-then-end-start c = let a = c.args in sym (lt-ltb a.end (a.start + a.long) (omega (arith, c.if-end-start.true)))

pub returns : goal.returns
returns c = search (rules, room_past)
