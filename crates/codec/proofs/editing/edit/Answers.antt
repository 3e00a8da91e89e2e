-- The checks, then the stretch.
use Rattle.codes.proofs.CheckLaws.{passed_known, passed_checks}
use Rattle.codec.proofs.EditLaws.{edit_ready}
use Rattle.codec.proofs.editing.edit.Goals as goal

pub put_stretch-requires : goal.put_stretch-requires
put_stretch-requires c =
    let e = c.in_ok-code.was in
    let p = c.checks.ensures in
    edit_ready _ _ _ (passed_known e p) (passed_checks e p)
