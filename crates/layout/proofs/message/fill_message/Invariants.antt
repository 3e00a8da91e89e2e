-- The loop fills the message from place 0 on.
use Rattle.layout.specs.Frame.{message_bit}
use Rattle.layout.proofs.FillLaws.{Filling, EntryOf}
use Rattle.layout.proofs.message.fill_message.Given as goal

abbrev pub invariant-loop-i : goal.invariant-loop-i
invariant-loop-i l = Filling (EntryOf (message_bit l.reading)) 99 l.message l.i
