-- What the checks of Encode leave.
use mathlib.Core.Path.{◌≡◌}
use mathlib.Core.List.{List}
use Prim.Native.Nat.{ℕ}
use lib.ListN.{length}
use Rattle.std.specs.Prelude.{Ok}
use Rattle.sheet.specs.Verdict.{verdict}
use Rattle.sheet.proofs.VerdictLaws.{all_pass, same_of}
use Rattle.bits.proofs.BitLaws.{bits_of_not_bad}
use Rattle.codes.specs.declared.Code.{Code}
use Rattle.codes.specs.Work.{Known}
use Rattle.parity.specs.Work.{MessageOf}
use Rattle.codec.specs.Encode.{encode_checks}

-- a message of the code, and room for its word
pub encode_ready : {c : Code} (message lent : List ℕ) → Known c → verdict (encode_checks message lent c) ≡ Ok tt → MessageOf c message × (length lent ≡ c.n)
encode_ready {c} message lent K e =
    let (input, (output, (bits, _))) = all_pass (encode_checks message lent c) e in
    (record { known = K; bits = bits_of_not_bad message bits; long = same_of (length message) c.k input }, same_of (length lent) c.n output)
