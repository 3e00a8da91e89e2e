-- Splice. docs/SCOPE.md 4.9: "Takes a kept record, a start place and a stretch. Gives the record with these places replaced and, to each of the first t
-- stored sums, the sum over the places that changed added, also in a record built by hand; all else is as it was."
-- 5.1: "With 5 come a buffer and the first place in it, as it was lent, that holds more than 1." 5.2: its checks are 1, 2, 7, 12, 5.
-- 5.3: "a refused Splice gives back the record it got".
use Rattle.std.specs.Prelude.{◌≡◌, List, [], ◌∷◌, ℕ, ◌+◌, ◌*◌, ◌≤◌, ◌<◌, length, get_or, Result}
use Rattle.std.proofs.Math.Seq.{paste}
use Rattle.std.specs.Result.{result_unwrap_or}
use Rattle.sheet.specs.declared.Refusal.{Refusal}
use Rattle.sheet.specs.declared.Refusal.TheVariants.{BitAboveOne, RecordContents, StretchEnd}
use Rattle.sheet.specs.Number.{outcome_of}
use Rattle.sheet.specs.Verdict.{Check, ◌⇒◌, Always}
use Rattle.bits.specs.Bits.{first_above, has_bad_bit, runs_past}
use Rattle.bits.specs.Differences.{differences}
use Rattle.field.specs.Sum.{◌⊕◌}
use Rattle.codes.specs.declared.Code.{Code}
use Rattle.codes.specs.Look.{CodePromise}
use Rattle.codes.specs.Sums.{sum_over}
use Rattle.kept.specs.declared.Kept.{Kept}
use Rattle.kept.specs.Record.{Whole, bad_record}

abbrev pub splice_checks : Kept → ℕ → List ℕ → Code → List Check
splice_checks stored start stretch c =
    bad_record c stored ⇒ RecordContents
    ∷ runs_past start (length stretch) c.n ⇒ StretchEnd
    ∷ has_bad_bit stretch ⇒ BitAboveOne 0 (first_above stretch)
    ∷ []

-- S_(2i+1) plus the sum over the places that changed
abbrev pub plus_change : Code → Kept → List ℕ → ℕ → ℕ
plus_change c stored after i = get_or stored.sums i 0 ⊕ sum_over c.m (2 * i + 1) (differences stored.bits after)

-- the stretch stands from its start on, the first t sums have the change added, and all else is as it was, the lengths too
pub record Spliced (c : Code) (stored : Kept) (start : ℕ) (stretch : List ℕ) (after : Kept) : Type 0 where
  pub was_whole : Whole stored
  pub is_whole : Whole after
  pub m_is : after.m ≡ stored.m
  pub t_is : after.t ≡ stored.t
  pub bits_are : after.bits ≡ paste stored.bits start stretch (length stretch)
  pub sums_changed : (i : ℕ) → i < c.t → get_or after.sums i 0 ≡ plus_change c stored after.bits i
  pub sums_rest : (i : ℕ) → c.t ≤ i → get_or after.sums i 0 ≡ get_or stored.sums i 0

-- where it is refused there is no new record, and the one that it got stands for it
abbrev pub Splices : Kept → ℕ → List ℕ → Result Kept Refusal → Type 0
Splices stored start stretch a =
    CodePromise stored.m stored.t (splice_checks stored start stretch) (λ c. Always (Spliced c stored start stretch))
    stored (outcome_of a) (result_unwrap_or a stored)
