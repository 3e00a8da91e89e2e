-- The listed codes are exactly those of the rule, for every k and t.
use mathlib.Core.Path.{◌≡◌, subst}
use mathlib.Core.Logic.{◌↔◌}
use Prim.Native.Nat.{ℕ, ◌+◌, ◌-◌, ◌*◌, ◌%◌, ◌≤◌, ◌<◌}
use native.Mathlib.Nat.{mod-eq_of_lt, mod-lt}
use native.Mathlib.Decide.{dec_le, ℕ_discrete}
use native.Mathlib.Omega.{arith}
use lib.ListN.{get_or}
use Rattle.field.specs.Product.{IsField}
use Rattle.field.specs.Power.{n_of}
use Rattle.codes.specs.Table.{ks, ts}
use Rattle.codes.specs.Rows.{ListedCode, before_k, before_t}
use Rattle.codes.specs.Rule.{Residue, Count, Rule}
use Rattle.codes.proofs.Count.{count_unique, count_nearly_all}
use Rattle.codes.proofs.Lead.{lead, n_positive, residue_lead, lead_at_most, all_residues}
use Rattle.codes.proofs.Walk.{RightRow, right_row_at, row_found}

module _ (m : ℕ) (L : IsField m) where
  positive_m : 1 ≤ m
  positive_m = omega arith

  right_rule : {kb s k t : ℕ} → RightRow m kb s k t → Rule m k t
  right_rule {k} {t} R =
      let e : (2 * t + 1) % n_of m ≡ 2 * t + 1 = mod-eq_of_lt R.small in
      record {
        count = R.count;
        free = λ w. omega (arith, R.free, (residue_lead m t (2 * t + 1) positive_m R.small).0 (rw e at w));
        positive = omega arith;
        wide = R.wide;
      }

  rule_small : {k t : ℕ} → Rule m k t → 2 * t + 1 < n_of m
  rule_small {k} {t} R = pick (dec_le (n_of m) (2 * t)) (ℕ_discrete (2 * t + 1) (n_of m))
    where
      pick : Dec (n_of m ≤ 2 * t) → Dec (2 * t + 1 ≡ n_of m) → 2 * t + 1 < n_of m
      pick (yes p) d = absurd (R.free (all_residues m t ((2 * t + 1) % n_of m) positive_m p (mod-lt (2 * t + 1) (n_positive m positive_m))))
      pick (no p) (yes q) =
          absurd (omega (arith, count_nearly_all (λ x l h. (residue_lead m t x positive_m h).1 (omega (arith, lead_at_most m x positive_m l h))) R.count))
      pick (no p) (no q) = omega arith

  rule_free : {k t : ℕ} → Rule m k t → lead m (2 * t + 1) ≡ 2 * t + 1
  rule_free {k} {t} R =
      let h : 2 * t + 1 < n_of m = rule_small R in
      let u : lead m (2 * t + 1) ≤ 2 * t + 1 = lead_at_most m (2 * t + 1) positive_m (omega arith) h in
      let e : (2 * t + 1) % n_of m ≡ 2 * t + 1 = mod-eq_of_lt h in
      let f : lead m (2 * t + 1) ≤ 2 * t → ⊥ = λ l. R.free (rw e ((residue_lead m t (2 * t + 1) positive_m h).1 l)) in
      pick (dec_le (lead m (2 * t + 1)) (2 * t)) f u
    where
      pick : Dec (lead m (2 * t + 1) ≤ 2 * t) → (lead m (2 * t + 1) ≤ 2 * t → ⊥) → lead m (2 * t + 1) ≤ 2 * t + 1 → lead m (2 * t + 1) ≡ 2 * t + 1
      pick (yes p) f u = absurd (f p)
      pick (no p) f u = omega arith

  rule_listed : {k t : ℕ} → Rule m k t → ListedCode m k t
  rule_listed {k} {t} R =
      let (r, w, e) = row_found L t R.positive (rule_small R) (rule_free R) in
      let Q : RightRow m (before_k m r) (before_t m r) (get_or ks r 0) (get_or ts r 0) = right_row_at w in
      let c : Count (Residue (n_of m) t) (n_of m) (n_of m - get_or ks r 0) = rw e at Q.count in
      let d : n_of m - get_or ks r 0 ≡ n_of m - k = count_unique c R.count in
      record { row = r; of_m = w; is_k = omega arith; is_t = e }

pub listed_exactly : (m k t : ℕ) → IsField m → ListedCode m k t ↔ Rule m k t
listed_exactly m k t L =
    (λ w. subst (λ z. Rule m z t) w.is_k (subst (λ z. Rule m (get_or ks w.row 0) z) w.is_t (right_rule m L (right_row_at w.of_m))), rule_listed m L)
