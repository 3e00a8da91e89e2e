-- The row is std's first place among the rows from `from` on.
use native.Mathlib.Omega.{arith}
use Rattle.std.proofs.Common.{rules, tests, ℕ, ◌+◌, ◌-◌, ◌∙◌, sym, ap, length, take, drop}
use Rattle.std.specs.Prelude.{eqb}
use Rattle.std.specs.Option.{unwrap_or}
use Rattle.std.proofs.lemmas.Iterator.{YieldsList-from_slice}
use Rattle.std.proofs.lemmas.Iterator.Search.{position_from_yields_List}
use Rattle.bits.proofs.Lists.{position_or_end}
use Rattle.codes.proofs.LookLaws.{row_from_position, ts_long}
use Rattle.codes.proofs.find_row.Goals as goal

pub slice_bounds-rows-end : goal.slice_bounds-rows-end
slice_bounds-rows-end c = omega (arith, ap length c.requires.0, ts_long)

pub returns : goal.returns
returns c =
    let rows = take (c.args.to - c.args.from) (drop c.args.from c.args.ts.now) in
    let e = position_from_yields_List (λ (x : ℕ). eqb x c.args.t) _ _ c.position-at.result c.position-at.ensures.ran (YieldsList-from_slice rows cc)
    (λ x b q k. search (rules, tests)) in
    let at = c.unwrap_or.ensures ∙ ap (λ r. unwrap_or r (length rows)) e ∙ position_or_end (λ x. eqb x c.args.t) rows in
    ap (λ (n : ℕ). c.args.from + n) at
    ∙ rw c.requires.0 (sym (row_from_position (c.args.to - c.args.from) c.args.from c.args.t (omega (arith, ts_long))))
