-- Every m has 2 and 3 among its elements.
use native.Mathlib.Omega.{arith}
use Rattle.field.proofs.Range.{sizes}
use Rattle.field_cases.proofs.values_line.Goals as goal

pub overflow_cast-largest : goal.overflow_cast-largest
overflow_cast-largest c = let s = sizes c.args.tables.now.hold.listed in omega arith

pub power-a_to_m-requires : goal.power-a_to_m-requires
power-a_to_m-requires c = let s = sizes c.args.tables.now.hold.listed in omega arith

pub inverse-inverse_of_a-requires : goal.inverse-inverse_of_a-requires
inverse-inverse_of_a-requires c = let s = sizes c.args.tables.now.hold.listed in omega arith

pub inverse-inverse_of_3-requires : goal.inverse-inverse_of_3-requires
inverse-inverse_of_3-requires c = let s = sizes c.args.tables.now.hold.listed in omega arith

pub product-square-requires : goal.product-square-requires
product-square-requires c = let s = sizes c.args.tables.now.hold.listed in (omega arith, omega arith)
