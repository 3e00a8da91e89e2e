-- Open. docs/SCOPE.md 4.8: "Takes m, t and n bits. Gives a kept record with these bits and their odd sums, zeros past n and past t."
-- 5.2: its checks are 1, 2, 3, 5. 5.3: "A refused Open gives a record of zeros".
use Rattle.std.specs.Prelude.{◌≡◌, not, List, [], ◌∷◌, ◌++◌, ℕ, ◌-◌, eqb, length, replicate, Result}
use Rattle.std.specs.Result.{result_unwrap_or}
use Rattle.sheet.specs.declared.Refusal.{Refusal}
use Rattle.sheet.specs.declared.Refusal.TheVariants.{InputLength, BitAboveOne}
use Rattle.sheet.specs.Number.{outcome_of}
use Rattle.sheet.specs.Verdict.{Check, ◌⇒◌, Always}
use Rattle.bits.specs.Bits.{first_above, has_bad_bit}
use Rattle.codes.specs.declared.Code.{Code}
use Rattle.codes.specs.Look.{CodePromise}
use Rattle.sums.specs.OddSums.{OddSums}
use Rattle.kept.specs.declared.Kept.{Kept}
use Rattle.kept.specs.Record.{zero_kept}

abbrev pub open_checks : List ℕ → Code → List Check
open_checks word c =
    not (eqb (length word) c.n) ⇒ InputLength
    ∷ has_bad_bit word ⇒ BitAboveOne 0 (first_above word)
    ∷ []

-- the word, then zeros; its first t odd sums, then zeros
pub record Opened (word : List ℕ) (c : Code) (stored : Kept) : Type 0 where
  pub m_is : stored.m ≡ c.m
  pub t_is : stored.t ≡ c.t
  pub bits_are : stored.bits ≡ word ++ replicate (1023 - c.n) 0
  pub sums_are : OddSums c.m c.t word stored.sums

-- where it is refused there is no record, and the one of zeros stands for it
abbrev pub Opens : ℕ → ℕ → List ℕ → Result Kept Refusal → Type 0
Opens m t word a = CodePromise m t (open_checks word) (λ c. Always (Opened word c)) zero_kept (outcome_of a) (result_unwrap_or a zero_kept)
