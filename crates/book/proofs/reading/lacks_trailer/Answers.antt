-- The reasons of 13, one after another.
use mathlib.Core.Path.{◌∙◌, sym, ap}
use mathlib.Core.Bool.{not}
use mathlib.Core.List.{List}
use Prim.Native.Nat.{ℕ}
use lib.Dec.{eqb}
use Rattle.book.specs.Read.{has_mark, number_at}
use Rattle.book.proofs.ReadLaws.{trailer_part, too_short, wrong_mark, last_decides}
use Rattle.book.proofs.reading.lacks_trailer.Goals as goal

pub returns-then-book-lt16 : goal.returns-then-book-lt16
returns-then-book-lt16 c = sym (too_short _ c.if-book-lt16.true)

pub returns-then-not-marked : goal.returns-then-not-marked
returns-then-not-marked c =
    let book = c.args.book.now in
    let mark = sym (ap has_mark (trailer_part book)) ∙ sym c.has_mark-marked.ensures ∙ c.if-not-marked.true in
    sym (wrong_mark book c.if-book-lt16.false mark)

pub returns : goal.returns
returns c =
    let book = c.args.book.now in
    let mark = sym (ap has_mark (trailer_part book)) ∙ sym c.has_mark-marked.ensures ∙ c.if-not-marked.false in
    let last = c.number_at-last.ensures ∙ ap (λ (l : List ℕ). number_at l 12) (trailer_part book) in
    ap (λ (n : ℕ). not (eqb n 0)) last ∙ sym (last_decides book c.if-book-lt16.false mark)
