-- Describe. docs/SCOPE.md 4.3: "Takes m, t and a buffer of n-k+1 places for the generator, place i its coefficient of x^i. Gives n and k."
-- 5.2: its checks are 1, 2, 4.
use Rattle.std.specs.Prelude.{◌≡◌, not, List, [], ◌∷◌, ℕ, ◌+◌, ◌-◌, eqb, length, Result}
use Rattle.sheet.specs.declared.Refusal.TheVariants.{OutputLength}
use Rattle.sheet.specs.declared.Refusal.{Refusal}
use Rattle.sheet.specs.Number.{outcome_of}
use Rattle.sheet.specs.Verdict.{Check, ◌⇒◌, Always}
use Rattle.codes.specs.declared.Code.{Code}
use Rattle.codes.specs.Look.{CodePromise}
use Rattle.generator.specs.Generator.{Generator}
use Rattle.codec.specs.declared.describing.Described.{Described}
use Rattle.codec.specs.Sizes.{SizesGiven, sizes_given}

abbrev pub describe_checks : List ℕ → Code → List Check
describe_checks lent c = not (eqb (length lent) (c.n - c.k + 1)) ⇒ OutputLength ∷ []

-- the two values of an answer, and the buffer
pub record Description : Type 0 where
  pub n : ℕ
  pub k : ℕ
  pub generator : List ℕ

pub record DescriptionOf (c : Code) (given : Description) : Type 0 where
  pub is_n : given.n ≡ c.n
  pub is_k : given.k ≡ c.k
  pub is_generator : Generator c.m c.t (c.n - c.k) given.generator

abbrev pub description : SizesGiven → List ℕ → Description
description given generator = record { n = given.n; k = given.k; generator = generator }

-- refused, the buffer is as lent; there is no n and no k, and 0 stands for each
abbrev pub Describes : ℕ → ℕ → List ℕ → Result Described Refusal → List ℕ → Type 0
Describes m t lent answer left =
    CodePromise m t (describe_checks lent) (λ c. Always (DescriptionOf c)) (record { n = 0; k = 0; generator = lent })
    (outcome_of answer) (description (sizes_given answer) left)
