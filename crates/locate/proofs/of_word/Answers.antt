-- The odd sums of a word are elements of the field.
use mathlib.Core.List.{List}
use Prim.Native.Nat.{ℕ, ◌+◌, ◌*◌, ◌^◌, ◌<◌}
use native.Mathlib.Omega.{arith}
use lib.ListN.{get_or}
use Rattle.bits.specs.Bits.{AreBits}
use Rattle.field.specs.Product.{IsField}
use Rattle.codes.proofs.SumLaws.{sum_bounded}
use Rattle.sums.specs.OddSums.{OddSums}
use Rattle.locate.proofs.of_word.Goals as goal

sums_below : {m t : ℕ} {word sums : List ℕ} → IsField m → AreBits word → OddSums m t word sums → (i : ℕ) → i < t → get_or sums i 0 < 2 ^ m
sums_below {word = word} L b o i h = rw (o.holds i h) (sum_bounded L (2 * i + 1) word b)

pub locate-requires : goal.locate-requires
locate-requires c =
    let p = c.requires in
    let o = c.odd_sums-sums.ensures in
    (p.3, omega (arith, o.long, p.3), sums_below p.0 p.1 o)
