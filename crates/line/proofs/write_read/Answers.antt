-- Five fields, each with the text after it.
use Rattle.line.proofs.LineLaws.{read_line_lem}
use Rattle.line.proofs.write_read.Goals as goal

pub returns : goal.returns
returns c =
    read_line_lem _ c.put_field-house_at.ensures (rw c.from.ensures at c.put_field-poll_at.ensures)
    (rw c.from-2.ensures at c.put_field-counter_at.ensures) c.put_field-wrong_at.ensures c.put_field.ensures c.requires
