-- The word, then the number and the end of the line.
use mathlib.Core.Path.{◌∙◌}
use Rattle.line.proofs.LineLaws.{refusal_line_lem}
use Rattle.line.proofs.write_refusal.Goals as goal

pub returns : goal.returns
returns c =
    refusal_line_lem _ (c.from-2.ensures ∙ c.from.ensures) c.copy_at.ensures c.put_field.ensures c.requires
