-- A record has room for the places and the sums of every code.
use mathlib.Core.Path.{refl}
use native.Mathlib.Omega.{arith}
use Rattle.kept.specs.Record.{Whole}
use Rattle.splice.proofs.SpliceLaws.{spliced_parts}
use borrow.Author.Rules.{rules}
use Rattle.splice.proofs.spliced.Goals as goal

pub splice_stretch-requires : goal.splice_stretch-requires
splice_stretch-requires c =
    let K = c.requires.known in
    let whole : Whole c.args.stored = record { bits = search rules; sums = search rules } in
    record {
      ends = omega (arith, c.requires.ends, K.is_n);
      bits_room = omega (arith, whole.bits, K.is_n, K.small);
      sums_room = omega (arith, whole.sums, K.most);
    }

pub returns : goal.returns
returns c =
    let whole : Whole c.args.stored = record { bits = search rules; sums = search rules } in
    spliced_parts c.requires whole refl refl c.splice_stretch.ensures
