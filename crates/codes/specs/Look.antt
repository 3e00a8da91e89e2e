-- Looking a code up: the field sizes, the row of a listed t, its k. docs/SCOPE.md 5.1: "m is not 3 to 10", "t is not listed for m".
use Rattle.std.specs.Prelude.{Bool, cond, not, ◌&&◌, List, ◌∷◌, ℕ, zero, suc, ◌-◌, leb, ltb, eqb, get_or}
use Rattle.sheet.specs.declared.Refusal.TheVariants.{FieldSize, NotListed}
use Rattle.sheet.specs.Number.{Outcome}
use Rattle.sheet.specs.Verdict.{Check, ◌⇒◌, verdict, Promise}
use Rattle.field.specs.Power.{n_of}
use Rattle.codes.specs.Table.{ks, ts, first}
use Rattle.codes.specs.declared.Code.{Code}

-- m is from 3 to 10
abbrev pub is_field : ℕ → Bool
is_field m = leb 3 m && leb m 10

-- the first row that has t among so many rows from row r on; the row after them where none has it
unfoldable pub row_from : ℕ → ℕ → ℕ → ℕ
row_from zero r t = r
row_from (suc left) r t = cond (eqb (get_or ts r 0) t) r (row_from left (suc r) t)

unfoldable pub row_of : ℕ → ℕ → ℕ
row_of m t = row_from (first (suc m) - first m) (first m) t

-- t is listed for m
unfoldable pub is_listed : ℕ → ℕ → Bool
is_listed m t = ltb (row_of m t) (first (suc m))

-- the k of a listed t
unfoldable pub k_of : ℕ → ℕ → ℕ
k_of m t = get_or ks (row_of m t) 0

-- the code of a listed (m, t)
abbrev pub code_of : ℕ → ℕ → Code
code_of m t = record { m = m; t = t; row = row_of m t; n = n_of m; k = k_of m t }

-- the first two checks of every operation on (m, t), and then its own
abbrev pub code_checks : ℕ → ℕ → List Check → List Check
code_checks m t later = (not (is_field m) ⇒ FieldSize) ∷ (not (is_listed m t) ⇒ NotListed) ∷ later

-- what the first two checks, and then the operation's own checks of the code, come to
abbrev pub code_verdict : ℕ → ℕ → (Code → List Check) → Outcome
code_verdict m t checks = verdict (code_checks m t (checks (code_of m t)))

-- the promise of an operation on a code: its own checks and what it does depend on the code
pub record CodePromise {L : Type 0} (m t : ℕ) (checks : Code → List Check) (Does : Code → Outcome → L → Type 0) (stays : L) (answer : Outcome)
    (left : L) : Type 0 where
  pub promise : Promise (code_checks m t (checks (code_of m t))) (Does (code_of m t)) stays answer left
