use mathlib.Core.Path.{◌∙◌}
use Prim.Native.Nat.{◌*◌}
use native.Mathlib.Omega.{arith}
use Rattle.field.proofs.Range.{sizes}
use Rattle.field.proofs.Exponents.{around_below}
use Rattle.walks.proofs.Walks.{walked_start, walked_to, walked_on_by_four, strides, strides_within, walk_done}
use Rattle.walks.proofs.add_walk.Goals as goal

pub n_of-n-requires : goal.n_of-n-requires
n_of-n-requires c = c.requires.0

pub around-one-requires : goal.around-one-requires
around-one-requires c = let z = sizes c.requires.0 in omega (arith, c.requires.3, c.n_of-n.ensures)

pub overflow_mul-one : goal.overflow_mul-one
overflow_mul-one c = let z = sizes c.requires.0 in omega (arith, around_below c.requires.0 c.args.step c.n_of-n.ensures c.around-one.ensures)

pub around-two-requires : goal.around-two-requires
around-two-requires c =
    let z = sizes c.requires.0 in
    omega (arith, around_below c.requires.0 c.args.step c.n_of-n.ensures c.around-one.ensures, c.n_of-n.ensures)

pub overflow_add-two : goal.overflow_add-two
overflow_add-two c =
    let z = sizes c.requires.0 in
    omega (
      arith,
      around_below c.requires.0 c.args.step c.n_of-n.ensures c.around-one.ensures,
      around_below c.requires.0 (2 * c.around-one.result) c.n_of-n.ensures c.around-two.ensures,
    )

pub around-three-requires : goal.around-three-requires
around-three-requires c =
    let z = sizes c.requires.0 in
    omega (
      arith,
      around_below c.requires.0 c.args.step c.n_of-n.ensures c.around-one.ensures,
      around_below c.requires.0 (2 * c.around-one.result) c.n_of-n.ensures c.around-two.ensures,
      c.n_of-n.ensures,
    )

pub overflow_mul-two : goal.overflow_mul-two
overflow_mul-two c = let z = sizes c.requires.0 in omega (arith, around_below c.requires.0 (2 * c.around-one.result) c.n_of-n.ensures c.around-two.ensures)

pub around-four-requires : goal.around-four-requires
around-four-requires c =
    let z = sizes c.requires.0 in
    omega (arith, around_below c.requires.0 (2 * c.around-one.result) c.n_of-n.ensures c.around-two.ensures, c.n_of-n.ensures)

pub add_first-e-requires : goal.add_first-e-requires
add_first-e-requires c =
    let p = c.requires in
    (p.0, p.1, p.2, around_below c.requires.0 c.args.step c.n_of-n.ensures c.around-one.ensures, omega (arith, p.4))

pub loop-i-init : goal.loop-i-init
loop-i-init c =
    record {
      strides = strides c.args.step c.requires.0 c.n_of-n.ensures c.around-one.ensures
          c.around-two.ensures c.around-three.ensures c.around-four.ensures;
      walked = walked_to (walked_start _ _ _ c.add_first-e.ensures.below) (omega arith);
    }

pub overflow_add-e : goal.overflow_add-e
overflow_add-e c =
    let z = sizes c.requires.0 in omega (arith, (strides_within c.requires.0 c.loop-i.invariant.strides c.loop-i.invariant.walked.below).first)

pub overflow_add-e-in-loop-i : goal.overflow_add-e-in-loop-i
overflow_add-e-in-loop-i c =
    let z = sizes c.requires.0 in omega (arith, (strides_within c.requires.0 c.loop-i.invariant.strides c.loop-i.invariant.walked.below).second)

pub overflow_add-e-in-loop-i-2 : goal.overflow_add-e-in-loop-i-2
overflow_add-e-in-loop-i-2 c =
    let z = sizes c.requires.0 in omega (arith, (strides_within c.requires.0 c.loop-i.invariant.strides c.loop-i.invariant.walked.below).third)

pub add_four-requires : goal.add_four-requires
add_four-requires c =
    let p = c.requires in
    let v = c.loop-i.invariant in
    let b = strides_within c.requires.0 c.loop-i.invariant.strides c.loop-i.invariant.walked.below in
    let l = p.1.long in (
      omega (arith, l, v.walked.below),
      omega (arith, l, b.first),
      omega (arith, l, b.second),
      omega (arith, l, b.third),
      omega (arith, p.4, v.walked.added.same, c.add_first-e.ensures.added.same),
    )

pub overflow_add-e-in-loop-i-3 : goal.overflow_add-e-in-loop-i-3
overflow_add-e-in-loop-i-3 c =
    let z = sizes c.requires.0 in
    let b = strides_within c.requires.0 c.loop-i.invariant.strides c.loop-i.invariant.walked.below in
    omega (arith, b.third, b.fourth)

pub around-e-requires : goal.around-e-requires
around-e-requires c =
    let b = strides_within c.requires.0 c.loop-i.invariant.strides c.loop-i.invariant.walked.below in
    omega (arith, b.third, b.fourth, c.loop-i.invariant.strides.is_n)

pub loop-i-preserved : goal.loop-i-preserved
loop-i-preserved c =
    let p = c.requires in
    let v = c.loop-i.invariant in
    let k = c.add_first-e.ensures.added.same in
    record {
      strides = v.strides;
      walked = walked_on_by_four p.0 v.strides p.1 v.walked (omega arith) (omega (arith, p.4, k)) c.around-e.ensures c.add_four.ensures (omega arith);
    }

pub shape_of-entries : goal.shape_of-entries
shape_of-entries c = c.loop-i.invariant.walked.added.same ∙ c.add_first-e.ensures.added.same

pub returns : goal.returns
returns c =
    walk_done c.args.from c.args.step c.requires.0 c.n_of-n.ensures c.around-one.ensures c.add_first-e.ensures
    c.loop-i.invariant.walked.added (omega arith)
