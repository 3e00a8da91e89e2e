-- The computed test of the table: a walk down the rows of m that rebuilds them from the rule, and what it tells of each row.
use mathlib.Core.Path.{◌≡◌, ◌∙◌, sym, ap, subst}
use mathlib.Core.Logic.{◌≢◌, ◌↔◌}
use mathlib.Core.Bool.{Bool, false, not}
use mathlib.Core.List.{List, [], ◌∷◌}
use Prim.Native.Nat.{ℕ, zero, suc, ◌+◌, ◌-◌, ◌*◌, ◌/◌, ◌≤◌, ◌<◌}
use native.Mathlib.Nat.{not-suc-le-zero}
use native.Mathlib.Decide.{ℕ_discrete, dec_lt}
use native.Mathlib.Omega.{arith}
use lib.Dec.{T, eqb, leb, ltb, eqb→eq, eqb_refl, leb→le, le→leb, ltb→lt, T_not}
use lib.ListN.{get_or, drop}
use lib.Seq.{get_or-drop}
use Rattle.field.specs.Product.{IsField}
use Rattle.field.specs.Power.{n_of}
use Rattle.codes.specs.Table.{ks, ts, firsts, first, listed_codes}
use Rattle.codes.specs.Rows.{RowOf, before_k, before_t}
use Rattle.codes.specs.Rule.{Residue, Count}
use Rattle.codes.proofs.Count.{down, passing, count_computed}
use Rattle.codes.proofs.Lead.{lead, residue_lead}
use Rattle.field.proofs.Tests.{both, both_left, both_right, passes, passed_at, at_listed, all, All, done, also, all_passed}

-- 2t + 1 is no residue of t
abbrev free_at : ℕ → ℕ → Bool
free_at m t = eqb (lead m (2 * t + 1)) (2 * t + 1)

-- no t among so many from the given one on is free
abbrev none_free : ℕ → ℕ → ℕ → Bool
none_free m from many = passes (λ t. not (free_at m t)) from many

-- the leads of all numbers below n, computed once
abbrev leads_of : ℕ → List ℕ
leads_of m = down (lead m) (n_of m)

-- the row (k, t) after the row (kb, s), where leads holds the leads of all numbers below n
abbrev row_tests : ℕ → List ℕ → ℕ → ℕ → ℕ → ℕ → List Bool
row_tests m leads kb s k t =
    ltb s t ∷ ltb (2 * t + 1) (n_of m) ∷ leb 2 k ∷ ltb k kb ∷ leb kb (n_of m) ∷ leb kb (k + m) ∷ free_at m t ∷ none_free m (suc s) (t - suc s)
    ∷ eqb (passing (λ x. leb x (2 * t)) leads) (n_of m - k)
    ∷ []

-- the tests of so many rows, and that no t is free after the last of them
abbrev walk : ℕ → List ℕ → ℕ → ℕ → ℕ → List ℕ → List ℕ → Bool
walk m leads zero kb s kl tl = none_free m (suc s) (n_of m / 2 - suc s)
walk m leads (suc left) kb s [] tl = false
walk m leads (suc left) kb s (k ∷ kl) [] = false
walk m leads (suc left) kb s (k ∷ kl) (t ∷ tl) = both (all (row_tests m leads kb s k t)) (walk m leads left k t kl tl)

abbrev walk_of : ℕ → Bool
walk_of m =
    let leads : List ℕ = leads_of m in
    walk m leads (first (suc m) - first m) (n_of m) 0 (drop (first m) ks) (drop (first m) ts)

walked : {m : ℕ} → IsField m → T (walk_of m)
unfolding lead ks ts listed_codes firsts first
walked = at_listed walk_of tt

-- what the walk tells of the row (k, t) after the row (kb, s)
pub record RightRow (m kb s k t : ℕ) : Type 0 where
  pub ascending : s < t
  pub small : 2 * t + 1 < n_of m
  pub wide : 2 ≤ k
  pub falling : k < kb
  pub within : kb ≤ n_of m
  pub one_class : kb ≤ k + m
  pub free : lead m (2 * t + 1) ≡ 2 * t + 1
  pub none_between : (u : ℕ) → s < u → u < t → lead m (2 * u + 1) ≢ 2 * u + 1
  pub count : Count (Residue (n_of m) t) (n_of m) (n_of m - k)

none_free_lem : (m from many : ℕ) → T (none_free m from many) → (u : ℕ) → from ≤ u → u < from + many → lead m (2 * u + 1) ≢ 2 * u + 1
none_free_lem m from many p u l h e =
    T_not (free_at m u) (passed_at (λ t. not (free_at m t)) from many p u l h)
    (subst (λ z. T (eqb z (2 * u + 1))) (sym e) (eqb_refl (2 * u + 1)))

leads_counted : (m t : ℕ) → 1 ≤ m → Count (Residue (n_of m) t) (n_of m) (passing (λ x. leb x (2 * t)) (leads_of m))
leads_counted m t l = count_computed (lead m) (λ x. leb x (2 * t)) (n_of m) same
  where
    same : (x : ℕ) → x < n_of m → T (leb (lead m x) (2 * t)) ↔ Residue (n_of m) t x
    same x h = (λ p. (residue_lead m t x l h).1 (leb→le (lead m x) (2 * t) p), λ w. le→leb (lead m x) (2 * t) ((residue_lead m t x l h).0 w))

module _ (m : ℕ) (l : 1 ≤ m) where
  right_row : (kb s k t : ℕ) → All (row_tests m (leads_of m) kb s k t) → RightRow m kb s k t
  right_row kb s k t (also up (also low (also wide (also fall (also in-n (also near (also free (also gap (also counted done))))))))) =
      let p : s < t = ltb→lt s t up in
      record {
        ascending = p;
        small = ltb→lt (2 * t + 1) (n_of m) low;
        wide = leb→le 2 k wide;
        falling = ltb→lt k kb fall;
        within = leb→le kb (n_of m) in-n;
        one_class = leb→le kb (k + m) near;
        free = eqb→eq (lead m (2 * t + 1)) (2 * t + 1) free;
        none_between = λ u q r. none_free_lem m (suc s) (t - suc s) gap u q (omega arith);
        count = subst (Count (Residue (n_of m) t) (n_of m)) (eqb→eq (passing (λ x. leb x (2 * t)) (leads_of m)) (n_of m - k) counted) (leads_counted m t l);
      }

  walk_head : (left kb s k t : ℕ) (kl tl : List ℕ) → T (walk m (leads_of m) (suc left) kb s (k ∷ kl) (t ∷ tl)) → RightRow m kb s k t
  walk_head left kb s k t kl tl p =
      right_row kb s k t
      (all_passed (row_tests m (leads_of m) kb s k t)
      (both_left (all (row_tests m (leads_of m) kb s k t)) (walk m (leads_of m) left k t kl tl) p))

  walk-tail : (left kb s k t : ℕ) (kl tl : List ℕ) → T (walk m (leads_of m) (suc left) kb s (k ∷ kl) (t ∷ tl)) → T (walk m (leads_of m) left k t kl tl)
  walk-tail left kb s k t kl tl p = both_right (all (row_tests m (leads_of m) kb s k t)) (walk m (leads_of m) left k t kl tl) p

  walk_at : (left kb s : ℕ) (kl tl : List ℕ) → T (walk m (leads_of m) left kb s kl tl) → (i : ℕ) → i < left
      → RightRow m (get_or (kb ∷ kl) i 0) (get_or (s ∷ tl) i 0) (get_or kl i 0) (get_or tl i 0)
  walk_at zero kb s kl tl p i h = absurd (not-suc-le-zero h)
  walk_at (suc left) kb s [] tl p i h = absurd p
  walk_at (suc left) kb s (k ∷ kl) [] p i h = absurd p
  walk_at (suc left) kb s (k ∷ kl) (t ∷ tl) p zero h = walk_head left kb s k t kl tl p
  walk_at (suc left) kb s (k ∷ kl) (t ∷ tl) p (suc i) h = walk_at left k t kl tl (walk-tail left kb s k t kl tl p) i (omega arith)

  walk_found : (left kb s : ℕ) (kl tl : List ℕ) → T (walk m (leads_of m) left kb s kl tl)
      → (u : ℕ) → s < u → 2 * u + 1 < n_of m → lead m (2 * u + 1) ≡ 2 * u + 1 → (i : ℕ) × (i < left) × (get_or tl i 0 ≡ u)
  walk_found zero kb s kl tl p u h n e = absurd (none_free_lem m (suc s) (n_of m / 2 - suc s) p u h (omega arith) e)
  walk_found (suc left) kb s [] tl p u h n e = absurd p
  walk_found (suc left) kb s (k ∷ kl) [] p u h n e = absurd p
  walk_found (suc left) kb s (k ∷ kl) (t ∷ tl) p u h n e =
      pick (dec_lt u t) (ℕ_discrete t u) (walk_found left k t kl tl (walk-tail left kb s k t kl tl p) u)
    where
      pick : Dec (u < t) → Dec (t ≡ u) → (t < u → 2 * u + 1 < n_of m → lead m (2 * u + 1) ≡ 2 * u + 1 → (i : ℕ) × (i < left) × (get_or tl i 0 ≡ u))
          → (i : ℕ) × (i < suc left) × (get_or (t ∷ tl) i 0 ≡ u)
      pick (yes a) b rest = absurd ((walk_head left kb s k t kl tl p).none_between u h a e)
      pick (no a) (yes b) rest = (0, omega arith, b)
      pick (no a) (no b) rest =
          let (i, q, f) = rest (omega arith) n e in
          (suc i, omega arith, f)

pub right_row_at : {m r : ℕ} → RowOf m r → RightRow m (before_k m r) (before_t m r) (get_or ks r 0) (get_or ts r 0)
unfolding before_k before_t
right_row_at {m} {r} w =
    let e : first m + (r - first m) ≡ r = omega arith in
    let a : get_or (drop (first m) ks) (r - first m) 0 ≡ get_or ks r 0 = get_or-drop (first m) ks (r - first m) 0 ∙ ap (λ i. get_or ks i 0) e in
    let b : get_or (drop (first m) ts) (r - first m) 0 ≡ get_or ts r 0 = get_or-drop (first m) ts (r - first m) 0 ∙ ap (λ i. get_or ts i 0) e in
    rw (← a, ← b)
    (walk_at m (omega arith) (first (suc m) - first m) (n_of m) 0 (drop (first m) ks) (drop (first m) ts) (walked w.listed) (r - first m) (omega arith))

pub row_found : {m : ℕ} → IsField m → (t : ℕ) → 1 ≤ t → 2 * t + 1 < n_of m → lead m (2 * t + 1) ≡ 2 * t + 1 → (r : ℕ) × RowOf m r × (get_or ts r 0 ≡ t)
row_found {m} l t h n e =
    let (i, q, f) = walk_found m (omega arith) (first (suc m) - first m) (n_of m) 0 (drop (first m) ks) (drop (first m) ts) (walked l) t h n e in
    (first m + i, record { listed = l; from = omega arith; below = omega arith }, sym (get_or-drop (first m) ts i 0) ∙ f)
