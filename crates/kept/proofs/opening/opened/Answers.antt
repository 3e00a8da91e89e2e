-- A word of n places fits the record.
use mathlib.Core.Path.{◌∙◌, refl, ap}
use mathlib.Core.List.{◌++◌}
use Prim.Native.Nat.{ℕ, ◌-◌}
use lib.ListN.{replicate}
use Rattle.kept.proofs.opening.opened.Goals as goal

pub returns : goal.returns
returns c =
    let word = c.args.word.now in
    record {
      m_is = refl;
      t_is = refl;
      bits_are = c.padded.ensures ∙ ap (λ (x : ℕ). word ++ replicate (1023 - x) 0) c.requires.long;
      sums_are = c.odd_sums.ensures;
    }
