-- Where the place holds another bit, it is written and added to the sums.
use mathlib.Core.Path.{refl}
use native.Mathlib.Omega.{arith}
use Rattle.splice.proofs.SpliceLaws.{place_kept}
use Rattle.splice.proofs.splice_place.Goals as goal

pub returns-then-old-b : goal.returns-then-old-b
returns-then-old-b c = record { is_bits = refl; same = λ e. absurd (omega arith); changed = λ n. c.add_place.ensures }

pub returns-else-old-b : goal.returns-else-old-b
returns-else-old-b c = place_kept _ _ c.if-old-b.false
