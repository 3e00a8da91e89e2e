-- What is found has the sums. Where nothing is found, there is no list with these sums, since the trial would have found it.
use mathlib.Core.Path.{◌≡◌}
use mathlib.Core.List.{List}
use Prim.Native.Nat.{ℕ, ◌+◌, ◌≤◌}
use native.Mathlib.Omega.{arith}
use lib.ListN.{length, replicate}
use Rattle.key.proofs.MendLaws.{space_long}
use Rattle.sums.proofs.SumSteps.{front_below}
use Rattle.locate.proofs.TrialLaws.{front_tried}
use Rattle.locate.proofs.FindLaws.{not_passed, not_many, not_other, found_below, located}
use Rattle.locate.proofs.find_places.Goals as goal

reaches : {l t : ℕ} {first : List ℕ} (sigma : List ℕ) → first ≡ replicate 257 0 → length sigma ≡ length first → t ≤ 255 → l ≤ t → l + 1 ≤ length sigma
reaches sigma e s h k = omega (arith, space_long e)

pub returns-in_err-l : goal.returns-in_err-l
returns-in_err-l c =
    let (l, over, s) = (rw c.in_err-l.was at c.solve.ensures) in
    rw c.from_residual.ensures (λ ps u. not_passed s u over)

pub returns-in_err-found : goal.returns-in_err-found
returns-in_err-found c =
    let (within, s) = (rw c.in_ok-l.was at c.solve.ensures) in
    let (found, over, tried) = (rw c.in_err-found.was at c.try_all.ensures) in
    let h = reaches c.solve.new.sigma c.requires.3 c.solve.auto.sigma c.requires.0 within in
    let w = front_tried _ c.solve.new.sigma h tried in
    rw c.from_residual-in_err-found.ensures (λ ps u. not_many s u within w over)

pub compare-requires : goal.compare-requires
compare-requires c =
    let (within, s) = (rw c.in_ok-l.was at c.solve.ensures) in
    let (few, tried) = (rw c.in_ok-found.was at c.try_all.ensures) in
    let h = reaches c.solve.new.sigma c.requires.3 c.solve.auto.sigma c.requires.0 within in
    let w = front_tried _ c.solve.new.sigma h tried in
    let k = c.try_all.auto.places in (
      c.requires.0,
      front_below c.try_all.new.places (omega (arith, few, c.requires.4, k)) (found_below w few (omega (arith, c.requires.4, k))),
      c.requires.1,
    )

pub returns-then-compare : goal.returns-then-compare
returns-then-compare c =
    let (within, s) = (rw c.in_ok-l.was at c.solve.ensures) in
    let (few, tried) = (rw c.in_ok-found.was at c.try_all.ensures) in
    let h = reaches c.solve.new.sigma c.requires.3 c.solve.auto.sigma c.requires.0 within in
    let w = front_tried _ c.solve.new.sigma h tried in
    (few, located w few (omega (arith, c.requires.4, c.try_all.auto.places)) c.compare.ensures c.if-compare.true)

pub returns : goal.returns
returns c =
    let (within, s) = (rw c.in_ok-l.was at c.solve.ensures) in
    let (few, tried) = (rw c.in_ok-found.was at c.try_all.ensures) in
    let h = reaches c.solve.new.sigma c.requires.3 c.solve.auto.sigma c.requires.0 within in
    let w = front_tried _ c.solve.new.sigma h tried in
    λ ps u. not_other s u within w few c.compare.ensures c.if-compare.false
