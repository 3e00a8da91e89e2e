-- The frame is read, and its line is written into the next 128 bytes.
use Prim.Native.Nat.{◌+◌, ◌-◌}
use native.Mathlib.Omega.{arith}
use lib.ListN.{drop, length-take}
use Rattle.line.proofs.LineLaws.{writes_fits}
use Rattle.lister.proofs.ListLaws.{line_put}
use Rattle.lister.proofs.put_line.Goals as goal

pub overflow_add-result : goal.overflow_add-result
overflow_add-result c =
    let end = c.args.end in
    let room = length-take (end + 128 - end) (drop end c.args.lines.now) in
    record { fits = omega (arith, writes_fits c.write_line.ensures, c.write_line.auto.out, room) }

pub returns : goal.returns
returns c =
    let end = c.args.end in
    line_put c.read.result c.args.frame.now c.args.lines.now end (end + 128 - end) c.read.ensures (omega arith) (omega arith)
    c.write_line.auto.out c.write_line.ensures
