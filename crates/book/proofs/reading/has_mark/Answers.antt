-- The comparison with the mark, both ways.
use mathlib.Core.Path.{◌≡◌, ◌∙◌, sym, ap}
use native.Mathlib.Omega.{arith}
use lib.Pointwise.{bytes_decides}
use lib.ListN.{length, take}
use Rattle.book.proofs.ReadLaws.{mark_tested}
use Rattle.book.proofs.reading.has_mark.Goals as goal

pub returns : goal.returns
returns c =
    let with = c.mark_bytes-mark.result in
    let told = bytes_decides with (take 4 c.args.trailer.now) in
    let four : length with ≡ 4 = ap length c.mark_bytes-mark.ensures in
    let e = rw four at c.starts_with.ensures.value in
    mark_tested _ _ (omega (arith, c.requires)) c.mark_bytes-mark.ensures (λ f. sym (told.0 (sym e ∙ f))) (λ f. e ∙ told.1 (sym f))
