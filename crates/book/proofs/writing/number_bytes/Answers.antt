-- Each byte stands where the trailer has it.
use Rattle.book.proofs.WriteLaws.{four_bytes_lem, three_numbers}
use Rattle.book.proofs.writing.number_bytes.Goals as goal

pub returns : goal.returns
returns c =
    let count = four_bytes_lem _ c.byte_above.ensures c.byte_above-2.ensures c.byte_above-3.ensures
    c.byte_above-4.ensures in
    let distance = four_bytes_lem _ c.byte_above-5.ensures c.byte_above-6.ensures c.byte_above-7.ensures
    c.byte_above-8.ensures in
    three_numbers _ _ count distance
