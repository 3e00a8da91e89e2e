-- Two fields, each with the text after it.
use mathlib.Core.Path.{◌∙◌}
use Rattle.line.proofs.LineLaws.{refused_line_lem}
use Rattle.line.proofs.write_refused.Goals as goal

pub returns : goal.returns
returns c =
    refused_line_lem _ (c.from-2.ensures ∙ c.from.ensures) c.put_field-at.ensures c.put_field.ensures c.requires
