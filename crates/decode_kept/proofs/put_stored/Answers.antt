-- The first n of the stored bits are lent, and the places turned over there.
use mathlib.Core.Path.{◌≡◌, sym}
use native.Mathlib.Omega.{arith}
use lib.ListN.{length}
use lib.Seq.{length-take-le}
use Rattle.decode_kept.proofs.DecodeKeptLaws.{stored_can_put, stored_mended}
use borrow.Author.Rules.{rules}
use Rattle.decode_kept.proofs.put_stored.Goals as goal

pub slice_bounds-bits-end : goal.slice_bounds-bits-end
slice_bounds-bits-end c =
    let long : length c.args.stored.bits ≡ 1023 = search rules in
    omega (arith, c.requires.ready.known.small)

pub slice_bounds-put_down-end : goal.slice_bounds-put_down-end
slice_bounds-put_down-end c =
    let long : length c.args.stored.bits ≡ 1023 = search rules in
    sym (length-take-le c.args.code.n c.args.stored.bits (omega (arith, c.requires.ready.known.small)))

pub put_down-requires : goal.put_down-requires
put_down-requires c =
    let long : length c.args.stored.bits ≡ 1023 = search rules in
    stored_can_put c.requires (length-take-le c.args.code.n c.args.stored.bits (omega (arith, c.requires.ready.known.small)))

pub returns : goal.returns
returns c =
    stored_mended c.requires c.put_down.ensures
