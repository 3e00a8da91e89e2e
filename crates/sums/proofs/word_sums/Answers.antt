-- The list has the sums of the word, and its places are below n.
use mathlib.Core.Path.{refl, sym}
use lib.Seq.{length-take-le}
use native.Mathlib.Omega.{arith}
use Rattle.field.proofs.Range.{sizes}
use Rattle.sums.proofs.SumSteps.{ones_summed, front_below}
use Rattle.sums.proofs.word_sums.Goals as goal

pub list_ones-count-requires : goal.list_ones-count-requires
list_ones-count-requires c =
    let p = c.requires in
    let k = sizes p.0 in
    (p.2, omega (arith, p.3), refl)

pub slice_bounds-place_sums-end : goal.slice_bounds-place_sums-end
slice_bounds-place_sums-end c = sym (length-take-le _ c.list_ones-count.new.places c.list_ones-count.ensures.within)

pub place_sums-requires : goal.place_sums-requires
place_sums-requires c =
    let p = c.requires in
    let o = c.list_ones-count.ensures in
    (p.0, p.1, front_below _ o.within (λ i h. omega (arith, o.below i h, p.3)), p.4)

pub returns : goal.returns
returns c =
    ones_summed c.requires.0 c.list_ones-count.ensures c.place_sums.ensures
