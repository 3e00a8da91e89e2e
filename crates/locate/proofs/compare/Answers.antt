-- The sums of the places are filled in, and compared.
use native.Mathlib.Omega.{arith}
use Rattle.entries.proofs.LookLaws.{fronts_same}
use Rattle.locate.proofs.TrialLaws.{agrees}
use Rattle.locate.proofs.compare.Goals as goal

pub returns : goal.returns
returns c =
    let p = c.requires in
    agrees c.place_sums.ensures (fronts_same c.place_sums.new.sums c.args.sums.now (omega (arith, p.0, c.place_sums.ensures.same)) p.2 c.eq.ensures)
