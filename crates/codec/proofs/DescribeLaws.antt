-- What the check of Describe leaves, and what is told of the code.
use mathlib.Core.Path.{◌≡◌, refl, ap₂}
use mathlib.Core.List.{List}
use Prim.Native.Nat.{ℕ, ◌+◌, ◌-◌}
use lib.ListN.{length, get_or}
use Rattle.std.specs.Prelude.{Ok}
use Rattle.sheet.specs.Verdict.{verdict}
use Rattle.sheet.proofs.VerdictLaws.{all_pass, same_of}
use Rattle.field.specs.Power.{n_of}
use Rattle.codes.specs.Table.{ks, ts}
use Rattle.codes.specs.Rows.{RowOf}
use Rattle.codes.specs.declared.Code.{Code}
use Rattle.codes.specs.Work.{Known}
use Rattle.generator.specs.Generator.{Generator}
use Rattle.codec.specs.Describe.{describe_checks, DescriptionOf}

-- n - k as the row of the table has it
degree : {c : Code} → Known c → c.n - c.k ≡ n_of c.m - get_or ks c.row 0
degree K = ap₂ (λ (x y : ℕ). x - y) K.is_n K.is_k

pub describe_ready : {c : Code} (lent : List ℕ) → Known c → verdict (describe_checks lent c) ≡ Ok tt
    → RowOf c.m c.row × (length lent ≡ n_of c.m - get_or ks c.row 0 + 1)
describe_ready {c} lent K e =
    let (output, _) = all_pass (describe_checks lent c) e in
    (K.of_m, rw (← (degree K)) (same_of (length lent) (c.n - c.k + 1) output))

pub described : {c : Code} {left : List ℕ} → Known c → Generator c.m (get_or ts c.row 0) (n_of c.m - get_or ks c.row 0) left
    → DescriptionOf c (record { n = c.n; k = c.k; generator = left })
described {c} K G = record { is_n = refl; is_k = refl; is_generator = rw (degree K, K.is_t) G }
