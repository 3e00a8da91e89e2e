-- Making frames of typed lines leaves one outcome, and it does not depend on the pieces in which the text comes.
use mathlib.Core.Path.{◌≡◌, ◌∙◌, refl, sym, ap₂, subst}
use mathlib.Core.List.{List, [], ◌++◌}
use Prim.Native.Nat.{ℕ, ◌+◌}
use native.Mathlib.Omega.{arith}
use lib.ListN.{length}
use Rattle.layout.specs.declared.message.Reading.{Reading}
use Rattle.frame.specs.Make.{Made}
use Rattle.line.proofs.LineLaws.{writes_front}
use Rattle.typed.proofs.LineLaws.{says_one}
use Rattle.maker.specs.declared.Progress.{Progress}
use Rattle.maker.specs.Making.{lines_of, begun_of, last_of, all_lines, Gives, a_frame, a_name, GiveAll, none, more, Holds, Takes}
use Rattle.maker.proofs.LinesLaws.{give_append, takes_none, takes_then}
use Rattle.demands.specs.Words.{joined, MakingSteps, stands, goes_on, Begins, MakingRun, whole}
use Rattle.demands.proofs.FrameOutcome.{made_one}

gives_one : {number : ℕ} {line frames names frames' names' : List ℕ} → Gives number line frames names → Gives number line frames' names'
    → (frames ≡ frames') × (names ≡ names')
gives_one {frames' = frames'} (a_frame r s m e) (a_frame r' s' m' e') =
    (made_one m (subst (λ (x : Reading). Made x frames') (says_one r' r s' s) m'), e ∙ sym e')
gives_one (a_frame r s m e) (a_name n f d) = absurd (n r s)
gives_one (a_name n f d) (a_frame r s m e) = absurd (n r s)
gives_one (a_name n f d) (a_name n' f' d') = (f ∙ sym f', d ∙ sym d')

pub give_all_one : {number : ℕ} {lines : List (List ℕ)} {frames names frames' names' : List ℕ} → GiveAll number lines frames names
    → GiveAll number lines frames' names' → (frames ≡ frames') × (names ≡ names')
give_all_one none none = (refl, refl)
give_all_one (more g r) (more h s) =
    let one = gives_one g h in
    let rest = give_all_one r s in
    (ap₂ (λ (x y : List ℕ). x ++ y) one.0 rest.0, ap₂ (λ (x y : List ℕ). x ++ y) one.1 rest.1)

-- the run

run_takes : {at after : Progress} {line line' : List ℕ} {pieces : List (List ℕ)} {frames names : List ℕ} (begun : List ℕ) → Holds line at.held begun
    → MakingSteps at line pieces after line' frames names → Takes at.lines begun (joined pieces) frames names after line'
run_takes {at} begun o stands = takes_none at o
run_takes begun o (goes_on {piece = piece} f r) =
    let t = f.takes begun o in
    rw (writes_front f.writes_frames, writes_front f.writes_names) (takes_then t (run_takes (begun_of begun piece) t.holds r))

from_nothing : {at after : Progress} {line line' : List ℕ} {pieces : List (List ℕ)} {frames names : List ℕ} → Begins at
    → MakingSteps at line pieces after line' frames names → Takes 0 [] (joined pieces) frames names after line'
from_nothing {at} {after} {line' = line'} {pieces} {frames} {names} b r =
    subst (λ (n : ℕ). Takes n [] (joined pieces) frames names after line') b.lines
    (run_takes [] (record { within = omega (arith, b.held); front = rw b.held }) r)

-- where the making stops before the end of the input, what is written is what the lines that have ended give
pub cut_gives : {at after : Progress} {line line' : List ℕ} {pieces : List (List ℕ)} {frames names : List ℕ} → Begins at
    → MakingSteps at line pieces after line' frames names → GiveAll 1 (lines_of [] (joined pieces)) frames names
cut_gives b r = (from_nothing b r).gives

-- what is written is what the lines of the whole text give
pub run_gives : {pieces : List (List ℕ)} {frames names : List ℕ} → MakingRun pieces frames names → GiveAll 1 (all_lines (joined pieces)) frames names
run_gives {pieces} (whole {mid = mid} b r f) =
    let t = from_nothing b r in
    let e : mid.lines + 1 ≡ 1 + length (lines_of [] (joined pieces)) = omega (arith, t.counts) in
    let last = subst (λ (n : ℕ). GiveAll n (last_of (begun_of [] (joined pieces))) f.frames f.names) e (f.gives _ t.holds) in
    rw (writes_front f.writes_frames, writes_front f.writes_names) (give_append t.gives last)

-- two runs over one text, however it comes in pieces, write the same
pub run-one : {pieces pieces' : List (List ℕ)} {frames names frames' names' : List ℕ} → MakingRun pieces frames names → MakingRun pieces' frames' names'
    → joined pieces ≡ joined pieces' → (frames ≡ frames') × (names ≡ names')
run-one {frames' = frames'} {names'} r r' e =
    give_all_one (run_gives r) (subst (λ (text : List ℕ). GiveAll 1 (all_lines text) frames' names') (sym e) (run_gives r'))
