-- The checks in the order of the sheet, then the frames and the trailer.
use Rattle.sheet.proofs.VerdictLaws.{refuses, does, always}
use Rattle.book.proofs.WriteLaws.{too_many, no_frames, wrong_room, write_passes, book_written}
use Rattle.book.proofs.writing.write.Goals as goal

pub returns-then-frames-gt32000 : goal.returns-then-frames-gt32000
returns-then-frames-gt32000 c =
    refuses (too_many c.args.frames.now c.args.book.now c.if-frames-gt32000.true)

pub returns-then-frames-ne0 : goal.returns-then-frames-ne0
returns-then-frames-ne0 c =
    refuses (no_frames c.args.frames.now c.args.book.now c.if-frames-gt32000.false c.if-frames-ne0.true)

pub returns-then-book-count : goal.returns-then-book-count
returns-then-book-count c =
    refuses (wrong_room c.args.frames.now c.args.book.now c.if-frames-gt32000.false c.if-frames-ne0.false c.if-book-count.true)

pub returns : goal.returns
returns c =
    let frames = c.args.frames.now in
    let lent = c.args.book.now in
    does (write_passes frames lent c.if-frames-gt32000.false c.if-frames-ne0.false c.if-book-count.false)
    (always (book_written frames lent c.if-frames-ne0.false c.if-book-count.false c.copy_at.ensures c.put_trailer.ensures))
