-- Sizes. docs/SCOPE.md 4.2: "Takes m and t. Gives n and k." 5.2: its checks are 1, 2.
use Rattle.std.specs.Prelude.{◌≡◌, List, [], ℕ, Result, Ok, Err}
use Rattle.sheet.specs.declared.Refusal.{Refusal}
use Rattle.sheet.specs.Number.{outcome_of}
use Rattle.sheet.specs.Verdict.{Check, Always}
use Rattle.codes.specs.declared.Code.{Code}
use Rattle.codes.specs.Look.{CodePromise}
use Rattle.codec.specs.declared.describing.Described.{Described}

-- none after the first two
abbrev pub sizes_checks : Code → List Check
sizes_checks c = []

-- the two values of an answer
pub record SizesGiven : Type 0 where
  pub n : ℕ
  pub k : ℕ

pub record SizesOf (c : Code) (given : SizesGiven) : Type 0 where
  pub is_n : given.n ≡ c.n
  pub is_k : given.k ≡ c.k

abbrev pub no_sizes : SizesGiven
no_sizes = record { n = 0; k = 0 }

abbrev pub sizes_given : Result Described Refusal → SizesGiven
sizes_given (Ok given) = record { n = given.n; k = given.k }
sizes_given (Err r) = no_sizes

-- refused, there is no n and no k, and 0 stands for each
abbrev pub GivesSizes : ℕ → ℕ → Result Described Refusal → Type 0
GivesSizes m t answer = CodePromise m t sizes_checks (λ c. Always (SizesOf c)) no_sizes (outcome_of answer) (sizes_given answer)
