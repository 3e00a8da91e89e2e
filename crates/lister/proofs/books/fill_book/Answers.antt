-- What looking at the book answers decides.
use Rattle.lister.proofs.BookLaws.{counted, book_listed, book_refused}
use Rattle.lister.proofs.books.fill_book.Goals as goal

pub list_book_frames-requires : goal.list_book_frames-requires
list_book_frames-requires c = (counted c.look.ensures c.in-Ok.is, c.requires)

pub returns-in-Ok : goal.returns-in-Ok
returns-in-Ok c = book_listed (counted c.look.ensures c.in-Ok.is) c.list_book_frames.ensures

pub returns-in-Err : goal.returns-in-Err
returns-in-Err c = book_refused c.look.ensures c.in-Err.is c.write_refusal.ensures
