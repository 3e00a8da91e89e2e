-- The constant is the definition's list.
use borrow.Author.Rules.{rules}
use Rattle.codes.specs.Table.{first, firsts}
use borrow.Author.Rules.{rules}
use Rattle.codes.proofs.table.first_row.Goals as goal

pub returns : goal.returns
unfolding first firsts
returns c = search rules
