use native.Mathlib.Omega.{arith}
use Rattle.lister.proofs.ListLaws.{none_listed, one_listed, listed_long, all_listed}
use Rattle.lister.proofs.BookLaws.{part_is, counted_few}
use Rattle.lister.proofs.books.list_book_frames.Goals as goal

pub loop-i-init : goal.loop-i-init
loop-i-init c = none_listed 0 _ _

pub overflow_add-i : goal.overflow_add-i
overflow_add-i c = omega (arith, counted_few c.requires.0)

pub put_line-end-requires : goal.put_line-end-requires
put_line-end-requires c =
    omega (arith, listed_long c.loop-i.invariant, c.loop-i.invariant.most, counted_few c.requires.0, c.requires.1)

pub loop-i-preserved : goal.loop-i-preserved
loop-i-preserved c =
    let frame = part_is c.requires.0 c.frame.ensures c.loop-i-test.true in
    one_listed c.loop-i.invariant (rw frame at c.put_line-end.ensures)

pub shape_of-lines : goal.shape_of-lines
shape_of-lines c = listed_long c.loop-i.invariant

pub returns : goal.returns
returns c =
    all_listed c.loop-i.invariant (omega arith) (omega (arith, c.loop-i.invariant.most, counted_few c.requires.0, c.requires.1))
