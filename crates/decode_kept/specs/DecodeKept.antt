-- Decode kept. docs/SCOPE.md 4.10: "Takes a kept record and the two buffers of Decode. It finds the set of at most t places below n whose sums are the
-- stored ones, which is unique if there is one, and flips these in the stored bits. The mended word, the list and the number of wrong places are given as
-- in Decode." 5.2: its checks are 1, 2, 7, 4, 6.
use Rattle.std.specs.Prelude.{◌≡◌, not, List, [], ◌∷◌, ◌++◌, ℕ, ◌-◌, eqb, length, take, replicate, Result}
use Rattle.sheet.specs.declared.Refusal.{Refusal}
use Rattle.sheet.specs.declared.Refusal.TheVariants.{OutputLength, RecordContents}
use Rattle.sheet.specs.Number.{outcome_of}
use Rattle.sheet.specs.Verdict.{Check, ◌⇒◌, Searches}
use Rattle.bits.specs.Bits.{flipped}
use Rattle.codes.specs.declared.Code.{Code}
use Rattle.codes.specs.Look.{CodePromise}
use Rattle.locate.specs.Located.{Located}
use Rattle.decode.specs.Decode.{Mended, as_lent, left_by}
use Rattle.kept.specs.declared.Kept.{Kept}
use Rattle.kept.specs.Record.{bad_record}

-- the checks before 6: the word's buffer, then the list's
abbrev pub decode_kept_checks : Kept → List ℕ → List ℕ → Code → List Check
decode_kept_checks stored word list c =
    bad_record c stored ⇒ RecordContents
    ∷ not (eqb (length word) c.n) ⇒ OutputLength
    ∷ not (eqb (length list) c.t) ⇒ OutputLength
    ∷ []

-- places with the stored sums are flipped in the stored bits; the list has them, then zeros; the number is how many they are
pub record MendsKept (c : Code) (stored : Kept) (left : Mended) : Type 0 where
  pub places : List ℕ
  pub located : Located c.m c.t stored.sums places
  pub is_word : left.word ≡ flipped (take c.n stored.bits) places
  pub is_list : left.list ≡ places ++ replicate (c.t - length places) 0
  pub counts : left.wrong ≡ length places

-- no set of at most t places has the stored sums
abbrev pub NoSet : Code → Kept → Type 0
NoSet c stored = (places : List ℕ) → Located c.m c.t stored.sums places → ⊥

-- past the checks: such places are found; or 6, there are none, and both buffers are as lent
abbrev pub DecodesKept : Kept → List ℕ → List ℕ → Result ℕ Refusal → List ℕ → List ℕ → Type 0
DecodesKept stored lentWord lentList answer word list =
    CodePromise stored.m stored.t (decode_kept_checks stored lentWord lentList)
    (λ c. Searches (MendsKept c stored) (NoSet c stored) (as_lent lentWord lentList)) (as_lent lentWord lentList)
    (outcome_of answer) (left_by answer word list)
