-- No outcome has the struck number.
use mathlib.Core.Logic.{◌≢◌}
use native.Mathlib.Omega.{arith}
use Rattle.sheet.specs.Number.{Outcome}
use Rattle.std.specs.Prelude.{Ok, Err}
use Rattle.sheet.specs.Number.{outcome_number, struck}
use Rattle.sheet.proofs.NumberLaws.{never_struck}

pub outcome_never_struck : (x : Outcome) → outcome_number x ≢ struck
outcome_never_struck (Ok u) e = omega arith
outcome_never_struck (Err r) e = never_struck r e
