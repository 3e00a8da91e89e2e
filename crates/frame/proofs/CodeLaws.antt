-- The code (255, 99, 23) is listed, so Encode and Decode refuse none of the words and buffers that a frame hands them.
use mathlib.Core.Path.{◌≡◌, ◌∙◌, refl, sym}
use mathlib.Core.List.{List}
use Prim.Native.Nat.{ℕ}
use native.Mathlib.Omega.{arith}
use lib.ListN.{length}
use Rattle.std.specs.Prelude.{Ok}
use Rattle.sheet.proofs.VerdictLaws.{equal}
use Rattle.bits.specs.Bits.{AreBits}
use Rattle.bits.proofs.BitLaws.{not_bad}
use Rattle.codes.specs.Table.{ks, ts, first, firsts, listed_codes}
use Rattle.codes.specs.Rows.{ListedCode}
use Rattle.codes.specs.Look.{k_of, code_of, code_verdict}
use Rattle.codes.specs.Work.{Known}
use Rattle.codes.proofs.LookLaws.{listed_k, listed_found, found_known}
use Rattle.codes.proofs.CheckLaws.{code_passes}
use Rattle.codec.specs.Encode.{encode_checks}
use Rattle.decode.specs.Decode.{decode_checks}

pub listed : ListedCode 8 99 23
unfolding ks ts listed_codes first firsts
listed =
    record {
      row = 56;
      of_m = record { listed = record { least = omega arith; most = omega arith }; from = omega arith; below = omega arith };
      is_k = refl;
      is_t = refl;
    }

pub known : Known (code_of 8 23)
known = found_known listed.of_m.listed (listed_found listed)

pub is_99 : k_of 8 23 ≡ 99
is_99 = listed_k listed

pub encode_passes : (message lent : List ℕ) → AreBits message → length message ≡ 99 → length lent ≡ 255 → code_verdict 8 23 (encode_checks message lent) ≡ Ok tt
encode_passes message lent b l k =
    code_passes known (encode_checks message lent (code_of 8 23)) (equal (l ∙ sym is_99), (equal k, (not_bad b, tt)))

pub decode_passes : (received word list : List ℕ) → AreBits received → length received ≡ 255 → length word ≡ 255 → length list ≡ 23
    → code_verdict 8 23 (decode_checks received word list) ≡ Ok tt
decode_passes received word list b l k m =
    code_passes known (decode_checks received word list (code_of 8 23)) (equal l, (equal k, (equal m, (not_bad b, tt))))
