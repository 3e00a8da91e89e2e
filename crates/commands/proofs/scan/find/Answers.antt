-- A place of the text from `start` on is so many places on in the part.
use mathlib.Core.Path.{◌≡◌, ◌∙◌}
use Prim.Native.Nat.{◌+◌, ◌-◌, ◌<◌}
use native.Mathlib.Omega.{arith}
use lib.ListN.{length, drop}
use lib.Seq.{get_or-take}
use Rattle.std.proofs.lemmas.List.{get_or-drop}
use borrow.Author.Rules.{rules}
use Rattle.commands.proofs.scan.find.Goals as goal

pub returns-clause-first : goal.returns-clause-first
returns-clause-first c k lo hi e =
    let s = c.args.start in
    let xs = c.args.text.now in
    let back : s + (k - s) ≡ k = omega (arith, lo) in
    let inside : k - s < length xs - s = search (rules, arith, lo, hi, c.first.ensures.high, c.requires) in
    c.first.ensures.none (k - s) (omega (arith, lo, hi)) (get_or-take (length xs - s) (drop s xs) (k - s) 0 inside ∙ get_or-drop s xs (k - s) 0 ∙ rw back e)
