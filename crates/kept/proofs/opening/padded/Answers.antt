-- The room is clear, and the word is copied to its front.
use mathlib.Core.Path.{◌≡◌, ap₂}
use mathlib.Core.List.{List, ◌++◌}
use Prim.Native.Nat.{ℕ}
use Rattle.std.proofs.Common.{rules, length}
use Rattle.std.proofs.lemmas.List.{drop-replicate}
use Rattle.kept.proofs.opening.padded.Goals as goal

pub returns : goal.returns
returns c =
    let e : c.copy_from_slice.new.self ≡ c.args.word.now = search rules in
    ap₂ (λ (u v : List ℕ). u ++ v) e (drop-replicate (length c.args.word.now) 1023 0)
