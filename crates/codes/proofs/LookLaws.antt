-- Looking up finds the row of a listed t, and nothing for any other.
use mathlib.Core.Path.{◌≡◌, ◌∙◌, refl, sym, ap}
use mathlib.Core.Bool.{Bool, true, cond}
use mathlib.Core.List.{List, ◌∷◌}
use Prim.Native.Nat.{ℕ, zero, suc, ◌+◌, ◌-◌, ◌≤◌, ◌<◌}
use native.Mathlib.Nat.{add-zero}
use native.Mathlib.Decide.{ℕ_discrete, dec_lt}
use native.Mathlib.Omega.{arith}
use borrow.Author.Tests.{eq-eqb, ne_eqb, lt-ltb}
use lib.Dec.{T, leb, eqb, leb→le}
use lib.ListN.{length, get_or, take, drop}
use lib.Seq.{drop-cons}
use Rattle.std.specs.List.{position_or_len}
use Rattle.field.specs.Product.{IsField}
use Rattle.field.proofs.Tests.{both, both_left, both_right, passes, passed_at, at_listed}
use Rattle.field.proofs.Range.{sizes}
use Rattle.codes.specs.declared.Code.{Code}
use Rattle.codes.specs.Table.{ks, ts, first, firsts, listed_codes}
use Rattle.codes.specs.Rows.{ListedCode}
use Rattle.codes.specs.Look.{row_from, row_of, is_listed, k_of, code_of}
use Rattle.codes.specs.Work.{Known}
use Rattle.codes.proofs.Rows.{row_unique, row_facts}

pub row_from_none : (r t : ℕ) → row_from 0 r t ≡ r
unfolding row_from
row_from_none r t = refl

row_from-suc : (left r t : ℕ) → row_from (suc left) r t ≡ cond (eqb (get_or ts r 0) t) r (row_from left (suc r) t)
unfolding row_from
row_from-suc left r t = refl

pub row_from_here : (left r t : ℕ) → get_or ts r 0 ≡ t → row_from (suc left) r t ≡ r
row_from_here left r t e = rw (row_from-suc left r t, eq-eqb (get_or ts r 0) t e)

pub row_from_later : (left r t : ℕ) → (get_or ts r 0 ≡ t → ⊥) → row_from (suc left) r t ≡ row_from left (suc r) t
row_from_later left r t e = rw (row_from-suc left r t, ne_eqb (get_or ts r 0) t e)

-- the search is std's, among the rows from r on
pub row_from_position : (left r t : ℕ) → r + left ≤ length ts → row_from left r t ≡ r + position_or_len (λ x. eqb x t) (take left (drop r ts))
row_from_position zero r t h = row_from_none r t ∙ sym (add-zero r)
row_from_position (suc left) r t h = rw (drop-cons ts r 0 (omega arith)) (pick (ℕ_discrete (get_or ts r 0) t) (row_from_position left (suc r) t (omega arith)))
  where
    rest : List ℕ
    rest = take left (drop (suc r) ts)

    pick : Dec (get_or ts r 0 ≡ t) → row_from left (suc r) t ≡ suc r + position_or_len (λ x. eqb x t) rest
        → row_from (suc left) r t ≡ r + position_or_len (λ x. eqb x t) (get_or ts r 0 ∷ rest)
    pick (yes e) later = rw (row_from_here left r t e, eq-eqb (get_or ts r 0) t e) (sym (add-zero r))
    pick (no n) later = rw (row_from_later left r t n, ne_eqb (get_or ts r 0) t n) (omega (arith, later))

pub ts_long : length ts ≡ 232
unfolding ts listed_codes
ts_long = refl

-- the rows of m stand in the table
rows_test : ℕ → Bool
rows_test m = both (leb (first m) (first (suc m))) (leb (first (suc m)) 232)

rows_tested : T (passes rows_test 3 8)
unfolding rows_test first firsts
rows_tested = tt

pub record RowsWithin (m : ℕ) : Type 0 where
  pub ordered : first m ≤ first (suc m)
  pub most : first (suc m) ≤ 232

pub rows_within : {m : ℕ} → IsField m → RowsWithin m
unfolding rows_test
rows_within {m} L =
    let t = at_listed rows_test rows_tested L in
    record {
      ordered = leb→le (first m) (first (suc m)) (both_left (leb (first m) (first (suc m))) (leb (first (suc m)) 232) t);
      most = leb→le (first (suc m)) 232 (both_right (leb (first m) (first (suc m))) (leb (first (suc m)) 232) t);
    }

pub row_of_from : (m t : ℕ) → row_of m t ≡ row_from (first (suc m) - first m) (first m) t
unfolding row_of
row_of_from m t = refl

pub k_of_row : (m t : ℕ) → k_of m t ≡ get_or ks (row_of m t) 0
unfolding k_of
k_of_row m t = refl

-- what row_from finds among the rows from r up to, not including, r + left
record Searched (left r t row : ℕ) : Type 0 where
  from : r ≤ row
  has : row < r + left → get_or ts row 0 ≡ t
  none : r + left ≤ row → (q : ℕ) → r ≤ q → q < r + left → get_or ts q 0 ≡ t → ⊥

after : (left r t q : ℕ) → (get_or ts r 0 ≡ t → ⊥) → ((p : ℕ) → suc r ≤ p → p < suc r + left → get_or ts p 0 ≡ t → ⊥) → Dec (q ≡ r)
    → r ≤ q → q < r + suc left → get_or ts q 0 ≡ t → ⊥
after left r t q n f (yes e) a b p = n (ap (λ (x : ℕ). get_or ts x 0) (sym e) ∙ p)
after left r t q n f (no d) a b p = f q (omega arith) (omega arith) p

found_later : (left r t row : ℕ) → (get_or ts r 0 ≡ t → ⊥) → Searched left (suc r) t row → Searched (suc left) r t row
found_later left r t row n f =
    record {
      from = omega (arith, f.from);
      has = λ h. f.has (omega arith);
      none = λ h q a b e. after left r t q n (f.none (omega arith)) (ℕ_discrete q r) a b e;
    }

found : (left r t : ℕ) → Searched left r t (row_from left r t)
found zero r t = rw (row_from_none r t) (record { from = omega arith; has = λ h. absurd (omega arith); none = λ h q a b e. omega arith })
found (suc left) r t = pick (found left (suc r) t) (ℕ_discrete (get_or ts r 0) t)
  where
    pick : Searched left (suc r) t (row_from left (suc r) t) → Dec (get_or ts r 0 ≡ t) → Searched (suc left) r t (row_from (suc left) r t)
    pick f (yes e) = rw (row_from_here left r t e) (record { from = omega arith; has = λ h. e; none = λ h q a b p. omega arith })
    pick f (no n) = rw (row_from_later left r t n) (found_later left r t (row_from left (suc r) t) n f)

found_row : (m t : ℕ) → Searched (first (suc m) - first m) (first m) t (row_of m t)
found_row m t = rw (row_of_from m t) (found (first (suc m) - first m) (first m) t)

-- a row that is found is the listed code's
pub found_listed : {m : ℕ} → IsField m → (t : ℕ) → row_of m t < first (suc m) → ListedCode m (k_of m t) t
found_listed {m} L t h =
    let f = found_row m t in
    let w = rows_within L in
    record {
      row = row_of m t;
      of_m = record { listed = L; from = f.from; below = h };
      is_k = sym (k_of_row m t);
      is_t = f.has (omega arith);
    }

-- where none is found t is not listed
pub unfound : {m : ℕ} → IsField m → (t : ℕ) → first (suc m) ≤ row_of m t → (k : ℕ) → ListedCode m k t → ⊥
unfound {m} L t h k c =
    let f = found_row m t in
    let w = rows_within L in
    f.none (omega arith) c.row c.of_m.from (omega (arith, c.of_m.below)) c.is_t

-- a listed code is found, at its own row
pub listed_found : {m k t : ℕ} → ListedCode m k t → row_of m t < first (suc m)
listed_found {m} {k} {t} c = pick (dec_lt (row_of m t) (first (suc m)))
  where
    pick : Dec (row_of m t < first (suc m)) → row_of m t < first (suc m)
    pick (yes h) = h
    pick (no n) = absurd (unfound c.of_m.listed t (omega arith) k c)

pub listed_row : {m k t : ℕ} (c : ListedCode m k t) → row_of m t ≡ c.row
unfolding found_listed
listed_row {m} {k} {t} c =
    let d = found_listed c.of_m.listed t (listed_found c) in
    row_unique d.of_m c.of_m (d.is_t ∙ sym c.is_t)

pub listed_k : {m k t : ℕ} → ListedCode m k t → k_of m t ≡ k
listed_k {m} {k} {t} c = k_of_row m t ∙ ap (λ (r : ℕ). get_or ks r 0) (listed_row c) ∙ c.is_k

pub listed_test : {m k t : ℕ} → ListedCode m k t → is_listed m t ≡ true
unfolding is_listed
listed_test {m} {k} {t} c = lt-ltb (row_of m t) (first (suc m)) (listed_found c)

-- no t of the table is above 255
small_test : ℕ → Bool
small_test r = leb (get_or ts r 0) 255

small_tested : T (passes small_test 0 232)
unfolding small_test ts listed_codes
small_tested = tt

pub known_listed : {c : Code} → Known c → ListedCode c.m c.k c.t
known_listed {c} K = record { row = c.row; of_m = K.of_m; is_k = sym K.is_k; is_t = sym K.is_t }

-- what is known of a code that is found
pub found_known : {m t : ℕ} → IsField m → row_of m t < first (suc m) → Known (code_of m t)
unfolding small_test found_listed
found_known {m} {t} L h =
    let c = found_listed L t h in
    let f = row_facts c.of_m in
    let r = rows_within L in
    let s = sizes L in
    let b = leb→le (get_or ts (row_of m t) 0) 255 (passed_at small_test 0 232 small_tested (row_of m t) (omega arith) (omega arith)) in
    record {
      of_m = c.of_m;
      is_t = sym c.is_t;
      is_k = k_of_row m t;
      is_n = refl;
      positive = omega (arith, f.positive, c.is_t);
      most = omega (arith, c.is_t);
      some = omega (arith, f.wide, k_of_row m t);
      within = omega (arith, f.falling, f.within, k_of_row m t);
      small = omega arith;
    }
