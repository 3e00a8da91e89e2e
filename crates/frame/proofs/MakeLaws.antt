-- What making a frame makes.
use mathlib.Core.Path.{◌≡◌, subst}
use mathlib.Core.List.{List}
use Prim.Native.Nat.{ℕ}
use lib.ListN.{length}
use Rattle.std.specs.Prelude.{Ok}
use Rattle.sheet.specs.Number.{Outcome}
use Rattle.bits.specs.Bits.{AreBits}
use Rattle.codes.specs.Encoding.{Encoding}
use Rattle.codec.specs.Encode.{Encodes}
use Rattle.layout.specs.declared.message.Reading.{Reading}
use Rattle.layout.specs.Frame.{message_of}
use Rattle.layout.specs.Work.{Packed}
use Rattle.layout.proofs.MessageLaws.{message_bits, message_long}
use Rattle.frame.specs.Make.{Made}
use Rattle.frame.proofs.CodeLaws.{is_99, encode_passes}

module _ (reading : Reading) {message lent word : List ℕ} {answer : Outcome} (m : message ≡ message_of reading) (l : length lent ≡ 255)
    (e : Encodes 8 23 message lent answer word) where
  pub encoded : Encoding 8 23 99 (message_of reading) word
  encoded =
      let b : AreBits message = rw m (message_bits reading) in
      let k : length message ≡ 99 = rw m (message_long reading) in
      let E = (e.promise.done (encode_passes message lent b k l)).did in
      subst (λ (x : List ℕ). Encoding 8 23 99 x word) m (subst (λ (x : ℕ). Encoding 8 23 x message word) is_99 E)

  -- Encode refuses nothing here: the code is listed and the lengths are its own
  pub encode_done : answer ≡ Ok tt
  encode_done = (e.promise.done (encode_passes message lent (rw m (message_bits reading)) (rw m (message_long reading)) l)).is_done

  pub made : {frame : List ℕ} → Packed word frame → Made reading frame
  made p = record { long = p.long; bytes = p.bytes; pad = p.pad; encodes = rw p.is_word encoded }
