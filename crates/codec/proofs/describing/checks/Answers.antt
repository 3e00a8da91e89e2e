-- A listed code has a k that is at most n.
use native.Mathlib.Omega.{arith}
use Rattle.codes.proofs.CheckLaws.{passed_known}
use Rattle.codec.proofs.describing.checks.Goals as goal

pub overflow_sub-code : goal.overflow_sub-code
overflow_sub-code c =
    let K = passed_known c.in_ok-code.was c.look_up.ensures in
    omega (arith, K.within)
