-- The front of the room is lent to be filled with the generator.
use mathlib.Core.Path.{◌≡◌, ◌∙◌, sym, ap, subst}
use mathlib.Core.List.{List, ◌++◌}
use Prim.Native.Nat.{ℕ, ◌+◌, ◌-◌, ◌≤◌}
use native.Mathlib.Omega.{arith}
use lib.ListN.{length, get_or, take, drop, replicate, length-append, length-drop, length-replicate}
use lib.Seq.{take_at, length-take-le}
use Rattle.field.specs.Power.{n_of}
use Rattle.field.proofs.Range.{sizes}
use Rattle.codes.specs.Table.{ks}
use Rattle.codes.specs.Rows.{RowOf}
use Rattle.generator.specs.Generator.{Generator}
use Rattle.generator.proofs.generator.Goals as goal

room : length (replicate {A = ℕ} 1024 0) ≡ 1024
room = length-replicate {A = ℕ} 1024 0

small : {m row d : ℕ} → RowOf m row → d ≡ n_of m - get_or ks row 0 → d + 1 ≤ 1024
small w e = let s = sizes w.listed in omega arith

front : (d : ℕ) (s : List ℕ) → d + 1 ≤ 1024 → length s ≡ 1024 → length (take (d + 1) s) ≡ d + 1
front d s h e = length-take-le (d + 1) s (omega arith)

filled : {m t d d' : ℕ} {g : List ℕ} (s : List ℕ) → d ≡ d' → d + 1 ≤ 1024 → length s ≡ 1024 → Generator m t d' g
    → Generator m t d (take (d + 1) (g ++ drop (d + 1) s)) × (1024 ≡ length (g ++ drop (d + 1) s))
filled {m} {t} {d} {d'} {g} s e h l G = (
  subst (Generator m t d) (sym (take_at g (drop (d + 1) s) (d + 1) (omega (arith, G.long)))) (subst (λ (x : ℕ). Generator m t x g) (sym e) G),
  omega (arith, G.long, length-append g (drop (d + 1) s), length-drop (d + 1) s),
)

pub overflow_add-end : goal.overflow_add-end
overflow_add-end c = let h = small c.requires.0 c.requires.1 in omega arith

pub slice_bounds-space-end : goal.slice_bounds-space-end
slice_bounds-space-end c = let h = small c.requires.0 c.requires.1 in omega (arith, room)

pub slice_bounds-fill_generator-end : goal.slice_bounds-fill_generator-end
slice_bounds-fill_generator-end c = sym (front _ _ (small c.requires.0 c.requires.1) room)

pub fill_generator-requires : goal.fill_generator-requires
fill_generator-requires c =
    let p = c.requires in
    (p.0, front _ _ (small p.0 p.1) room ∙ ap (λ (x : ℕ). x + 1) p.1)

pub returns : goal.returns
returns c =
    let p = c.requires in
    filled _ p.1 (small p.0 p.1) room c.fill_generator.ensures
