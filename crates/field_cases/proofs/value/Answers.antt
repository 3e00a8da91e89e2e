use Prim.Native.Nat.{ℕ, ◌%◌, ◌^◌, ◌<◌}
use native.Mathlib.Omega.{arith}
use Rattle.field.proofs.ProductLaws.{product_bound}
use Rattle.field.proofs.SumLaws.{sum_bound}
use Rattle.field.proofs.Range.{sizes}
use Rattle.field.specs.Sum.{◌⊕◌}
use Rattle.field.specs.Product.{IsField}
use lib.Pow.{pow_pos}
use Rattle.field_cases.proofs.value.Goals as goal

-- one more digit keeps the value below 2^m
added : {m x : ℕ} (y : ℕ) → IsField m → x < 2 ^ m → x ⊕ y % 2 < 2 ^ m
added {m} y l h = let s = sizes l in sum_bound m h (omega arith)

pub loop-i-init : goal.loop-i-init
loop-i-init c = pow_pos _

pub product-requires : goal.product-requires
product-requires c = (c.loop-i.invariant, c.requires)

pub loop-i-preserved : goal.loop-i-preserved
unfolding ◌⊕◌
loop-i-preserved c =
    let listed = c.args.tables.now.hold.listed in
    added {x = c.product.result} _ listed (rw c.product.ensures (product_bound listed _ _))

pub returns : goal.returns
returns c = c.loop-i.invariant
