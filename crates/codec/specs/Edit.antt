-- Edit. docs/SCOPE.md 4.6: "Takes m, t, a word of n places, a message place and a stretch. The stretch replaces the message bits from that place on,
-- and the word's own buffer then holds the result." 5.2: its checks are 1, 2, 3, 12, 5; "Edit looks at all of the word's bits before the stretch's."
-- 5.1: "The buffer is 1 for the stretch of Edit."
use Rattle.std.specs.Prelude.{◌≡◌, not, List, [], ◌∷◌, ℕ, ◌+◌, ◌-◌, ◌≤◌, ◌<◌, eqb, length, get_or}
use Rattle.sheet.specs.declared.Refusal.TheVariants.{InputLength, BitAboveOne, StretchEnd}
use Rattle.sheet.specs.Number.{Outcome}
use Rattle.sheet.specs.Verdict.{Check, ◌⇒◌, Always}
use Rattle.bits.specs.Bits.{AreBits, first_above, has_bad_bit, runs_past, added}
use Rattle.codes.specs.declared.Code.{Code}
use Rattle.codes.specs.Look.{CodePromise}
use Rattle.codes.specs.Sums.{CodeWord}

abbrev pub edit_checks : List ℕ → ℕ → List ℕ → Code → List Check
edit_checks word start stretch c =
    not (eqb (length word) c.n) ⇒ InputLength
    ∷ runs_past start (length stretch) c.k ⇒ StretchEnd
    ∷ has_bad_bit word ⇒ BitAboveOne 0 (first_above word)
    ∷ has_bad_bit stretch ⇒ BitAboveOne 1 (first_above stretch)
    ∷ []

-- message place i of a word
abbrev pub message_place : Code → List ℕ → ℕ → ℕ
message_place c word i = get_or word (c.n - c.k + i) 0

-- the change of the whole word is a code word, and the message places hold the stretch where it lies and what they held elsewhere
pub record Editing (c : Code) (before : List ℕ) (start : ℕ) (stretch after : List ℕ) : Type 0 where
  pub long : length after ≡ c.n
  pub bits : AreBits after
  pub change : CodeWord c.m c.t (added before after)
  pub replaced : (i : ℕ) → i < length stretch → message_place c after (start + i) ≡ get_or stretch i 0
  pub below : (i : ℕ) → i < start → message_place c after i ≡ message_place c before i
  pub above : (i : ℕ) → start + length stretch ≤ i → i < c.k → message_place c after i ≡ message_place c before i

-- refused, the word is as lent
abbrev pub Edits : ℕ → ℕ → List ℕ → ℕ → List ℕ → Outcome → List ℕ → Type 0
Edits m t lent start stretch = CodePromise m t (edit_checks lent start stretch) (λ c. Always (Editing c lent start stretch)) lent
