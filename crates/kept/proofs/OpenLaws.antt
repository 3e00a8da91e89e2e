-- What the checks of Open leave.
use mathlib.Core.Path.{◌≡◌}
use mathlib.Core.List.{List}
use Prim.Native.Nat.{ℕ}
use lib.ListN.{length}
use Rattle.std.specs.Prelude.{Result, Ok, Err}
use Rattle.sheet.specs.declared.Refusal.{Refusal}
use Rattle.sheet.specs.Verdict.{verdict}
use Rattle.sheet.proofs.VerdictLaws.{all_pass, same_of, always}
use Rattle.bits.proofs.BitLaws.{bits_of_not_bad}
use Rattle.codes.specs.declared.Code.{Code}
use Rattle.codes.specs.Work.{Checked, Known}
use Rattle.codes.proofs.CheckLaws.{passed_known, passed_checks, on_passed, on_refused}
use Rattle.kept.specs.declared.Kept.{Kept}
use Rattle.kept.specs.Open.{Opens, Opened, open_checks}
use Rattle.kept.specs.Work.{OpenReady}

pub open_ready : {c : Code} (word : List ℕ) → Known c → verdict (open_checks word c) ≡ Ok tt → OpenReady c word
open_ready {c} word K e =
    let (input, (bits, _)) = all_pass (open_checks word c) e in
    record { known = K; long = same_of (length word) c.n input; bits = bits_of_not_bad word bits }

-- what Open does and answers where its checks have answered
module _ {m t : ℕ} {word : List ℕ} {checked : Result Code Refusal} where
  pub checked_ready : {c : Code} → checked ≡ Ok c → Checked m t (open_checks word) checked → OpenReady c word
  checked_ready e p = open_ready word (passed_known e p) (passed_checks e p)

  pub open_done : {c : Code} {stored : Kept} → checked ≡ Ok c → Checked m t (open_checks word) checked → Opened word c stored → Opens m t word (Ok stored)
  open_done e p o = on_passed e p (always o)

  pub open_refused : {r : Refusal} → checked ≡ Err r → Checked m t (open_checks word) checked → Opens m t word (Err r)
  open_refused e p = on_refused e p
