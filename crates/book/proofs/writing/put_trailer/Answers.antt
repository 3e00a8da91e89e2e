-- The mark, then the numbers.
use Rattle.book.proofs.WriteLaws.{trailer_copied}
use Rattle.book.proofs.writing.put_trailer.Goals as goal

pub returns : goal.returns
returns c =
    trailer_copied c.args.book.now c.args.count c.mark_bytes-mark.ensures c.number_bytes-numbers.ensures c.copy_at.ensures
    c.copy_at-2.ensures c.requires
