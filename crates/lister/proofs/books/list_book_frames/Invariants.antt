-- The loop keeps: the lines of the first i frames of the book are stored.
use Rattle.lister.specs.Listing.{frames_in}
use Rattle.lister.specs.Work.{ListedTo}
use Rattle.lister.proofs.books.list_book_frames.Given as goal

abbrev pub invariant-loop-i : goal.invariant-loop-i
invariant-loop-i l = ListedTo 0 (frames_in l.book l.count) l.initial.lines l.lines l.i l.i l.end
