-- What is held of a line is its front.
use mathlib.Core.Path.{◌≡◌, ◌∙◌, refl, sym, ap}
use mathlib.Core.List.{List, [], ◌∷◌, ◌++◌}
use Prim.Native.Nat.{ℕ, zero, suc, ◌+◌, ◌<◌}
use native.Mathlib.Numerals.{add-one}
use native.Mathlib.Omega.{arith}
use lib.ListN.{length, take, set, length-append}
use lib.Seq.{take-suc-set, take_all, take-append-le, length-take-le}
use Rattle.maker.specs.declared.Progress.{Progress}
use Rattle.maker.specs.Making.{Holds}
use Rattle.maker.specs.Work.{Keeps}

pub kept_one : (line : List ℕ) (held byte : ℕ) → length line ≡ 63 → held < length line
    → take (held + 1) (set line held byte) ≡ take 63 (take held line ++ (byte ∷ []))
kept_one line held byte l h =
    rw (add-one held) (take-suc-set line held byte h)
    ∙ sym (take_all 63 (take held line ++ (byte ∷ [])) (omega (arith, length-append (take held line) (byte ∷ []), length-take-le held line (omega arith))))

pub kept_none : (line : List ℕ) (held byte : ℕ) → length line ≡ 63 → held ≡ 63 → take held line ≡ take 63 (take held line ++ (byte ∷ []))
kept_none line held byte l e =
    let long : length (take held line) ≡ 63 = length-take-le held line (omega arith) ∙ e in
    sym (take-append-le 63 (take held line) (byte ∷ []) (omega arith) ∙ take_all 63 (take held line) (omega arith))

front_of_front : (n : ℕ) (text : List ℕ) (byte : ℕ) → take n (take n text ++ (byte ∷ [])) ≡ take n (text ++ (byte ∷ []))
front_of_front zero text byte = refl
front_of_front (suc n) [] byte = refl
front_of_front (suc n) (x ∷ text) byte = ap (λ (r : List ℕ). x ∷ r) (front_of_front n text byte)

-- if the front of a line is held, then afterwards the front of the line with the byte at its end is held
pub keeps_front : {line left : List ℕ} {at next : Progress} {byte : ℕ} (begun : List ℕ) → Keeps line at byte left next → Holds line at.held begun
    → Holds left next.held (begun ++ (byte ∷ []))
keeps_front {byte = byte} begun k h =
    record {
      within = k.within;
      front = k.kept ∙ ap (λ (r : List ℕ). take 63 (r ++ (byte ∷ []))) h.front ∙ front_of_front 63 begun byte;
    }
