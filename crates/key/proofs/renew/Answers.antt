-- A copy of the old sigma is kept until sigma is mended.
use mathlib.Core.Path.{refl}
use native.Mathlib.Omega.{arith}
use Rattle.std.proofs.Common.{rules, replicate}
use Rattle.entries.proofs.FillLaws.{fill_as, fill_copy}
use Rattle.key.proofs.MendLaws.{space_long}
use Rattle.key.proofs.renew.Goals as goal

pub mend-requires : goal.mend-requires
mend-requires c =
    let p = c.requires in
    (p.0, omega arith, omega arith, p.5)

pub returns : goal.returns
returns c =
    let p = c.requires in
    let there = fill_copy {xs = replicate 257 0} c.args.sigma.now c.copy_from_slice.new.self (omega (arith, p.2, space_long refl)) p.4 (search rules) in
    let back = fill_copy {xs = c.args.b.now} _ c.copy_from_slice-2.new.self p.3 (omega (arith, p.2, there.same, space_long refl)) (search rules) in
    (c.mend.ensures, fill_as back there.holds)
