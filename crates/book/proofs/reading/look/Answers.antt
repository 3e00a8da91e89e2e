-- The two checks, then the count.
use mathlib.Core.Path.{◌∙◌, sym, ap}
use mathlib.Core.List.{List}
use Prim.Native.Nat.{ℕ}
use native.Mathlib.Omega.{arith}
use Rattle.sheet.proofs.VerdictLaws.{refuses, does, always}
use Rattle.book.specs.Read.{number_at}
use Rattle.book.proofs.ReadLaws.{has_trailer, trailer_part, part_long, sized_as}
use Rattle.book.proofs.reading.look.Goals as goal

pub overflow_sub-end : goal.overflow_sub-end
overflow_sub-end c = (has_trailer _ (sym c.lacks_trailer.ensures ∙ c.if-lacks_trailer.false)).long

pub number_at-count-requires : goal.number_at-count-requires
number_at-count-requires c =
    let book = c.args.book.now in
    let has = has_trailer book (sym c.lacks_trailer.ensures ∙ c.if-lacks_trailer.false) in
    omega (arith, part_long book has.long)

pub number_at-distance-requires : goal.number_at-distance-requires
number_at-distance-requires c =
    let book = c.args.book.now in
    let has = has_trailer book (sym c.lacks_trailer.ensures ∙ c.if-lacks_trailer.false) in
    omega (arith, part_long book has.long)

pub returns-then-size_is_wrong : goal.returns-then-size_is_wrong
returns-then-size_is_wrong c =
    let book = c.args.book.now in
    let right = sym c.lacks_trailer.ensures ∙ c.if-lacks_trailer.false in
    let size = sized_as book c.number_at-count.ensures c.number_at-distance.ensures c.size_is_wrong.ensures in
    refuses (rw (right, sym size ∙ c.if-size_is_wrong.true))

pub returns : goal.returns
returns c =
    let book = c.args.book.now in
    let right = sym c.lacks_trailer.ensures ∙ c.if-lacks_trailer.false in
    let size = sized_as book c.number_at-count.ensures c.number_at-distance.ensures c.size_is_wrong.ensures in
    let count = c.number_at-count.ensures ∙ ap (λ (l : List ℕ). number_at l 4) (trailer_part book) in
    does (rw (right, sym size ∙ c.if-size_is_wrong.false)) (always (record { is = count }))
