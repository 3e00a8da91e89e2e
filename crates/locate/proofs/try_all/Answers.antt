use mathlib.Core.Path.{◌≡◌, ◌∙◌, sym}
use mathlib.Core.List.{List}
use Prim.Native.Nat.{ℕ, ◌<◌}
use native.Mathlib.Omega.{arith}
use lib.ListN.{length, get_or, take}
use lib.Seq.{get_or-take, length-take-le}
use Rattle.entries.specs.Entries.{Filled}
use Rattle.field.specs.Product.{IsField}
use Rattle.field.proofs.Range.{sizes}
use Rattle.field.specs.Power.{n_of}
use Rattle.locate.specs.Work.{tried}
use Rattle.locate.proofs.TrialLaws.{trying_start, trying_next, trying_passed, trying_done}
use Rattle.locate.proofs.try_all.Goals as goal

-- the value that is read at place i
valued : (m n i c : ℕ) (sigma : List ℕ) {before values : List ℕ} → Filled (tried m sigma c) (n_of m) before values → n ≡ n_of m → i < n
    → get_or (take n values) i 0 ≡ tried m sigma c i
valued m n i c sigma {values = values} F e h = get_or-take n values i 0 h ∙ F.holds i (omega arith)

-- there are n of them
all_long : {m n : ℕ} (values : List ℕ) → IsField m → length values ≡ 1023 → n ≡ n_of m → length (take n values) ≡ n
all_long {n = n} values L h e = let k = sizes L in length-take-le n values (omega arith)

inside : {m n i : ℕ} (values : List ℕ) → IsField m → length values ≡ 1023 → n ≡ n_of m → i < length (take n values) → i < n
inside values L h e k = omega (arith, all_long values L h e)

pub all_values-requires : goal.all_values-requires
all_values-requires c =
    let k = sizes c.args.tables.now.hold.listed in
    (c.requires.0, omega arith)

pub n_of-n-requires : goal.n_of-n-requires
n_of-n-requires c =
    c.args.tables.now.hold.listed

pub slice_bounds-values-end : goal.slice_bounds-values-end
slice_bounds-values-end c =
    let k = sizes c.args.tables.now.hold.listed in
    omega (arith, c.n_of-n.ensures, c.all_values.ensures.same)

pub loop-i-init : goal.loop-i-init
loop-i-init c = trying_start _ _ _ _ _ _

pub slice_bounds-v-items-end : goal.slice_bounds-v-items-end
slice_bounds-v-items-end c = sym (all_long c.all_values.new.values c.args.tables.now.hold.listed c.all_values.ensures.same c.n_of-n.ensures)

pub note-found-requires : goal.note-found-requires
note-found-requires c =
    let k = sizes c.args.tables.now.hold.listed in
    let h = inside c.all_values.new.values c.args.tables.now.hold.listed c.all_values.ensures.same c.n_of-n.ensures c.loop-i-test.true in
    (omega (arith, c.n_of-n.ensures), c.loop-i.invariant.room, omega (arith, c.requires.1, c.loop-i.invariant.same))

pub shape_of-places-then-t-found : goal.shape_of-places-then-t-found
shape_of-places-then-t-found c =
    c.note-found.ensures.same ∙ c.loop-i.invariant.same

pub returns-then-t-found : goal.returns-then-t-found
returns-then-t-found c =
    let h = inside c.all_values.new.values c.args.tables.now.hold.listed c.all_values.ensures.same c.n_of-n.ensures c.loop-i-test.true in (
      _,
      c.if-t-found.true,
      trying_passed c.loop-i.invariant c.n_of-n.ensures h
          (valued c.args.tables.now.m _ _ (length c.args.sigma.now) c.args.sigma.now c.all_values.ensures c.n_of-n.ensures h) c.note-found.ensures
          c.if-t-found.true,
    )

pub loop-i-preserved : goal.loop-i-preserved
loop-i-preserved c =
    let h = inside c.all_values.new.values c.args.tables.now.hold.listed c.all_values.ensures.same c.n_of-n.ensures c.loop-i-test.true in
    trying_next c.loop-i.invariant c.n_of-n.ensures h
    (valued c.args.tables.now.m _ _ (length c.args.sigma.now) c.args.sigma.now c.all_values.ensures c.n_of-n.ensures h) c.note-found.ensures c.if-t-found.false

pub shape_of-places : goal.shape_of-places
shape_of-places c = c.loop-i.invariant.same

pub returns : goal.returns
returns c =
    let h = all_long c.all_values.new.values c.args.tables.now.hold.listed c.all_values.ensures.same c.n_of-n.ensures in
    (c.loop-i.invariant.room, trying_done c.loop-i.invariant c.n_of-n.ensures (omega (arith, c.loop-i-test.false)))
