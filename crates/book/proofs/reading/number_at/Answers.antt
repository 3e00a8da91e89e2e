-- std's number of four bytes, highest first.
use Rattle.book.specs.Read.{number_at}
use borrow.Author.Rules.{rules}
use Rattle.book.proofs.reading.number_at.Goals as goal

pub returns : goal.returns
unfolding number_at
returns c = search rules
