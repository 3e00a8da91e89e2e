-- The constant table is the definition's list.
use borrow.Author.Rules.{rules}
use Rattle.field.specs.Product.{polynomial, polynomials}
use Rattle.field.proofs.polynomial.Goals as goal

pub returns : goal.returns
unfolding polynomial polynomials
returns c = search rules
