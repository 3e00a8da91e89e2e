use mathlib.Core.Path.{◌≡◌, ◌∙◌, sym}
use mathlib.Core.List.{List}
use Prim.Native.Nat.{ℕ, ◌+◌, ◌^◌, ◌<◌}
use native.Mathlib.Omega.{arith}
use native.Mathlib.Nat.{ne_of_lt, lt_of_lt_of_le}
use borrow.Author.Count.{below_none, below_more}
use lib.ListN.{length, get_or, set, take, length-set}
use lib.Seq.{length-take-le, get_or-take, get_or-set_same, get_or-set_other}
use Rattle.field.specs.Power.{a, n_of, power}
use Rattle.field.specs.Tables.{Powers}
use Rattle.field.proofs.Range.{sizes, logs_room}
use Rattle.field.proofs.PowerLaws.{power_bound}
use Rattle.field.proofs.Order.{power_injective}
use Rattle.field.proofs.fill_logs.Invariants.{Filling}
use Rattle.field.proofs.fill_logs.Goals as goal

listed_long : {m n : ℕ} {powers : List ℕ} → Powers m powers → n ≡ n_of m → length (take n powers) ≡ n
listed_long {n = n} {powers} P e = length-take-le n powers (omega (arith, P.long))

inside : {m n i : ℕ} {powers : List ℕ} → Powers m powers → n ≡ n_of m → i < length (take n powers) → i < n
inside P e h = omega (arith, listed_long P e)

read_off : {n i x : ℕ} (powers : List ℕ) → x ≡ get_or (take n powers) i 0 → i < n → x ≡ get_or powers i 0
read_off {n} {i} powers e h = e ∙ get_or-take n powers i 0 h

-- the power at place i
read : {m n i : ℕ} {powers first logs : List ℕ} → Filling m n powers first logs i → i < n → get_or powers i 0 ≡ power m a i
read {i = i} f h = f.table.holds i (omega arith)

place : {m n i : ℕ} {powers first logs : List ℕ} → Filling m n powers first logs i → i < n → get_or powers i 0 < 2 ^ m
place f h = rw (read f h) (power_bound f.listed _ _)

filled : {m n i : ℕ} {powers first logs : List ℕ} → Filling m n powers first logs i → i < n → (j : ℕ) → j < i + 1
    → get_or (set logs (power m a i) i) (power m a j) 0 ≡ j
filled {m} {n} {i} {logs = logs} f h =
    below_more _ i
    (λ j k. get_or-set_other logs (power m a i) (power m a j) i 0
    (λ e. ne_of_lt k (power_injective f.listed j i (omega arith) (omega arith) e)) ∙ f.holds j k)
    (get_or-set_same logs (power m a i) i 0 (lt_of_lt_of_le (power_bound f.listed a i) f.fits))

next : {m n i x : ℕ} {powers first logs : List ℕ} → Filling m n powers first logs i → i < n → x ≡ get_or powers i 0
    → Filling m n powers first (set logs x i) (i + 1)
next f h e =
    record {
      listed = f.listed;
      is_n = f.is_n;
      table = f.table;
      fits = simp length-set f.fits;
      same = simp length-set f.same;
      within = omega arith;
      holds = rw (e, read f h) (filled f h);
    }

pub n_of-n-requires : goal.n_of-n-requires
n_of-n-requires c = c.requires.0

pub loop-i-init : goal.loop-i-init
loop-i-init c =
    let p = c.requires in
    record {
      listed = p.0;
      is_n = c.n_of-n.ensures;
      table = p.1;
      fits = logs_room p.0 p.2;
      same = omega arith;
      within = omega arith;
      holds = below_none _;
    }

pub slice_bounds-x-items-end : goal.slice_bounds-x-items-end
slice_bounds-x-items-end c = sym (listed_long c.requires.1 c.n_of-n.ensures)

pub overflow_cast-logs : goal.overflow_cast-logs
overflow_cast-logs c =
    let s = sizes c.loop-i.invariant.listed in
    omega (arith, listed_long c.requires.1 c.n_of-n.ensures)

pub bounds-logs-from : goal.bounds-logs-from
bounds-logs-from c =
    let f = c.loop-i.invariant in
    let h = inside c.requires.1 c.n_of-n.ensures c.loop-i-test.true in
    rw (read_off _ c.from.ensures h) (lt_of_lt_of_le (place f h) f.fits)

pub loop-i-preserved : goal.loop-i-preserved
loop-i-preserved c =
    let h = inside c.requires.1 c.n_of-n.ensures c.loop-i-test.true in
    next c.loop-i.invariant h (read_off _ c.from.ensures h)

pub shape_of-logs : goal.shape_of-logs
shape_of-logs c = c.loop-i.invariant.same

pub returns : goal.returns
returns c =
    let f = c.loop-i.invariant in
    let whole = listed_long c.requires.1 c.n_of-n.ensures in
    record {
      listed = f.listed;
      powers_hold = f.table;
      logs_hold = record { long = f.fits; holds = λ j h. f.holds j (omega arith) };
    }
