use mathlib.Core.Path.{◌∙◌}
use Rattle.std.proofs.Common.{rules, tests, ℕ}
use Rattle.std.specs.Prelude.{leb}
use Rattle.std.proofs.lemmas.Iterator.{YieldsList-from_slice}
use Rattle.std.proofs.lemmas.Iterator.Search.{any_from_yields_List}
use Rattle.kept.proofs.RecordLaws.{any_at_least}
use Rattle.kept.proofs.checking.some_at_least.Goals as goal

pub returns : goal.returns
returns c =
    any_from_yields_List (λ (x : ℕ). leb c.args.bound x) _ _ c.any.result c.any.ensures.ran (YieldsList-from_slice c.args.entries.now cc)
    (λ x b q k. search (rules, tests))
    ∙ any_at_least c.args.bound c.args.entries.now
