-- The message, its encoding, and the bytes of that.
use mathlib.Core.Path.{refl}
use Rattle.frame.proofs.MakeLaws.{encoded, encode_done, made}
use Rattle.frame.proofs.making.fill_frame.Goals as goal

pub unwrap-requires : goal.unwrap-requires
unwrap-requires c = rw (encode_done c.args.reading c.fill_message.ensures refl c.encode.ensures) refl

pub pack-requires : goal.pack-requires
pack-requires c =
    let e = encoded c.args.reading c.fill_message.ensures refl c.encode.ensures in
    (e.code_word.bits, e.code_word.long, c.requires)

pub returns : goal.returns
returns c = made c.args.reading c.fill_message.ensures refl c.encode.ensures c.pack.ensures
