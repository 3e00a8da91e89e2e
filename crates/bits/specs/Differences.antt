-- Where two words differ, and how far apart they are. docs/SCOPE.md 3.2: "The distance of two words is the number of places where they differ."
use Rattle.std.specs.Prelude.{cond, ℕ, suc, ◌<◌, eqb, length}
use mathlib.Core.List.{List, [], ◌∷◌, Memᴰ}

-- the places where the two differ, ascending, the first place counted as i
unfoldable pub differences_from : ℕ → List ℕ → List ℕ → List ℕ
differences_from i [] ys = []
differences_from i (x ∷ xs) [] = []
differences_from i (x ∷ xs) (y ∷ ys) =
    let rest = differences_from (suc i) xs ys in
    cond (eqb x y) rest (i ∷ rest)

unfoldable pub differences : List ℕ → List ℕ → List ℕ
differences xs ys = differences_from 0 xs ys

unfoldable pub distance : List ℕ → List ℕ → ℕ
distance xs ys = length (differences xs ys)

-- each place of the list is below every later one
abbrev pub Ascending : List ℕ → Type 0
Ascending [] = Unit {0}
Ascending (p ∷ ps) = ((q : ℕ) → Memᴰ q ps → p < q) × Ascending ps
