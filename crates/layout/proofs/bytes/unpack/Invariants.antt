-- The loop fills the word from place 0 on.
use Rattle.layout.specs.Frame.{place_bit}
use Rattle.layout.proofs.FillLaws.{Filling, EntryOf}
use Rattle.layout.proofs.bytes.unpack.Given as goal

abbrev pub invariant-loop-number : goal.invariant-loop-number
invariant-loop-number l = Filling (EntryOf (place_bit l.frame)) 255 l.word l.number
