-- What looking refuses, or where the frame stands.
use Rattle.std.proofs.lemmas.Result.{err_from_is_err_and}
use Rattle.book.proofs.ReadLaws.{counted_fits, found_frame, found_none}
use Rattle.book.proofs.reading.find.Goals as goal

pub returns-in_err-count : goal.returns-in_err-count
returns-in_err-count c =
    let p = err_from_is_err_and c.from_residual.result c.from_residual.ensures.1 in
    rw (p.1, p.2) (found_none c.look.ensures c.in_err-count.was)

pub find_frame-requires : goal.find_frame-requires
find_frame-requires c = counted_fits c.look.ensures c.in_ok-count.was

pub returns : goal.returns
returns c = found_frame _ c.look.ensures c.in_ok-count.was c.find_frame.ensures
