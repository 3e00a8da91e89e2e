-- What looking a code up answers, and what is known of the code; no promise rests on it.
use Rattle.std.specs.Prelude.{◌≡◌, List, [], ℕ, ◌≤◌, get_or, Result, Ok, Err}
use Rattle.sheet.specs.declared.Refusal.{Refusal}
use Rattle.sheet.specs.Number.{Outcome}
use Rattle.sheet.specs.Verdict.{Check}
use Rattle.field.specs.Power.{n_of}
use Rattle.codes.specs.Table.{ks, ts}
use Rattle.codes.specs.Rows.{RowOf}
use Rattle.codes.specs.Look.{code_of, code_verdict}
use Rattle.codes.specs.declared.Code.{Code}

-- no check after the first two
abbrev pub no_more : Code → List Check
no_more c = []

-- the code where nothing is refused, and the refusal where something is
abbrev pub passing : Outcome → Code → Result Code Refusal
passing (Ok u) c = Ok c
passing (Err r) c = Err r

-- what running down all these checks answers
pub record Checked (m t : ℕ) (checks : Code → List Check) (look : Result Code Refusal) : Type 0 where
  pub is : look ≡ passing (code_verdict m t checks) (code_of m t)

-- what is known of a code that was looked up
pub record Known (c : Code) : Type 0 where
  pub of_m : RowOf c.m c.row
  pub is_t : c.t ≡ get_or ts c.row 0
  pub is_k : c.k ≡ get_or ks c.row 0
  pub is_n : c.n ≡ n_of c.m
  pub positive : 1 ≤ c.t
  pub most : c.t ≤ 255
  pub some : 1 ≤ c.k
  pub within : c.k ≤ c.n
  pub small : c.n ≤ 1023
