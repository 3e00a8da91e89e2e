-- What is found lies in the book, and the part is cut there.
use mathlib.Core.Path.{refl}
use native.Mathlib.Omega.{arith}
use Rattle.book.proofs.ReadLaws.{found_within, cut_at}
use Rattle.book.proofs.reading.frame.Goals as goal

pub slice_bounds-result-count : goal.slice_bounds-result-count
slice_bounds-result-count c = omega (
  arith,
  (found_within c.find.result c.find.ensures).0,
  (cut_at c.find.result c.unwrap_or-from.ensures).0,
  (cut_at c.find.result c.unwrap_or-from.ensures).1,
)

pub slice_bounds-result-start : goal.slice_bounds-result-start
slice_bounds-result-start c = omega (
  arith,
  (found_within c.find.result c.find.ensures).0,
  (cut_at c.find.result c.unwrap_or-from.ensures).0,
  (cut_at c.find.result c.unwrap_or-from.ensures).1,
)

pub slice_bounds-result-end : goal.slice_bounds-result-end
slice_bounds-result-end c = omega (arith, (found_within c.find.result c.find.ensures).1, (cut_at c.find.result c.unwrap_or-from.ensures).1)

pub returns : goal.returns
returns c =
    let at = cut_at c.find.result c.unwrap_or-from.ensures in
    record { found = c.find.result; finds = c.find.ensures; part = record { holds = rw (← at.0, ← at.1) refl; lies = rw (← at.0) refl } }
