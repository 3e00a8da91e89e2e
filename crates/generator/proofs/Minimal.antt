-- Each row's polynomial is the minimal polynomial of a^(2s+1), s being the t of the row before, and of every power of its class.
use mathlib.Core.Path.{◌≡◌, ◌∙◌, ap}
use mathlib.Core.Logic.{◌≢◌}
use mathlib.Core.List.{List, ◌∷◌}
use Prim.Native.Nat.{ℕ, zero, suc, ◌+◌, ◌-◌, ◌*◌, ◌%◌, ◌^◌, ◌≤◌, ◌<◌}
use native.Mathlib.Nat.{mod-eq_of_lt}
use native.Mathlib.Omega.{arith}
use lib.ListN.{get_or, take}
use Rattle.bits.specs.Bits.{AreBits}
use Rattle.bits.proofs.BitLaws.{bits_take}
use Rattle.field.specs.Power.{n_of}
use Rattle.codes.specs.Table.{ks}
use Rattle.codes.specs.Rows.{RowOf, before_k, before_t}
use Rattle.codes.specs.Sums.{sum_of}
use Rattle.codes.proofs.Count.{Members, members, members_distinct}
use Rattle.codes.proofs.Lead.{back}
use Rattle.codes.proofs.Rows.{InClass, class_count, row_facts}
use Rattle.codes.proofs.SumLaws.{sum_same, sum_class}
use Rattle.codes.proofs.Unique.{zero_by_roots}
use Rattle.generator.specs.Minimal.{Minimal}
use Rattle.generator.specs.Factors.{minimal_of}
use Rattle.generator.proofs.Degrees.{cut_long, cut_at}
use Rattle.generator.proofs.MinimalLaws.{minimal_above}
use Rattle.generator.proofs.Minimals.{minimal_bits, minimal_root, minimal_degree}

-- the degree of row r's polynomial, and the polynomial without the zeros above its top
abbrev pub degree_of : ℕ → ℕ → ℕ
degree_of m r = before_k m r - get_or ks r 0

abbrev pub row_minimal : ℕ → ℕ → List ℕ
row_minimal m r = take (degree_of m r + 1) (minimal_of r)

module _ {m r : ℕ} (w : RowOf m r) where
  roots : Members (InClass (n_of m) (2 * before_t m r + 1)) (n_of m) (degree_of m r)
  roots = members (class_count w)

  -- a root leads to the roots of its class
  class_sum : (q : List ℕ) → AreBits q → sum_of m (2 * before_t m r + 1) q ≡ 0 → (x : ℕ) → InClass (n_of m) (2 * before_t m r + 1) x → sum_of m x q ≡ 0
  class_sum q b h x (e, f) = rw (← f) (sum_class w.listed (2 * before_t m r + 1) e q b h)

  -- no polynomial of a smaller degree but 0 has the root
  minimal_least : (q : List ℕ) → AreBits q → ((j : ℕ) → degree_of m r ≤ j → get_or q j 0 ≡ 0) → sum_of m (2 * before_t m r + 1) q ≡ 0
      → (j : ℕ) → get_or q j 0 ≡ 0
  minimal_least q b z h =
      zero_by_roots w.listed (degree_of m r) roots.list roots.long (members_distinct roots) roots.below q b z
      (λ i l. class_sum q b h (get_or roots.list i 0) (roots.have i l))

  pub minimal : Minimal m (2 * before_t m r + 1) (degree_of m r) (row_minimal m r)
  minimal =
      let D = minimal_degree w in
      record {
        long = cut_long D;
        bits = bits_take (degree_of m r + 1) (minimal_bits r);
        top = cut_at D (degree_of m r) ∙ D.top;
        root = sum_same m (2 * before_t m r + 1) (row_minimal m r) (minimal_of r) (cut_at D) ∙ minimal_root w;
        least = minimal_least;
      }

  -- it is also the minimal polynomial of every power of the class
  pub minimal_of_class : (x : ℕ) → InClass (n_of m) (2 * before_t m r + 1) x → Minimal m x (degree_of m r) (row_minimal m r)
  minimal_of_class x (e, f) = record {
    long = minimal.long;
    bits = minimal.bits;
    top = minimal.top;
    root = class_sum (row_minimal m r) minimal.bits minimal.root x (e, f);
    least = λ q b z h. minimal.least q b z (rw (← returns) (sum_class w.listed x (e * (m - 1)) q b h));
  }
    where
      returns : x * 2 ^ (e * (m - 1)) % n_of m ≡ 2 * before_t m r + 1
      returns = back m (2 * before_t m r + 1) e x (omega arith) f ∙ mod-eq_of_lt (omega (arith, row_facts w))

  -- no other power is a root, since there would be more roots than the degree
  pub no_other_root : (x : ℕ) → x < n_of m → (InClass (n_of m) (2 * before_t m r + 1) x → ⊥) → sum_of m x (row_minimal m r) ≢ 0
  no_other_root x l out h =
      let zero-top = zero_by_roots w.listed (suc d) (x ∷ roots.list) (ap suc roots.long) differ below (row_minimal m r)
      minimal.bits (minimal_above minimal) vanish d in
      omega (arith, minimal.top)
    where
      d : ℕ
      d = degree_of m r

      differ : (i j : ℕ) → i < j → j < suc d → get_or (x ∷ roots.list) i 0 ≢ get_or (x ∷ roots.list) j 0
      differ i zero u v e = absurd (omega arith)
      differ zero (suc j) u v e = out (rw e (roots.have j (omega arith)))
      differ (suc i) (suc j) u v e = members_distinct roots i j (omega arith) (omega arith) e

      below : (i : ℕ) → i < suc d → get_or (x ∷ roots.list) i 0 < n_of m
      below zero u = l
      below (suc i) u = roots.below i (omega arith)

      vanish : (i : ℕ) → i < suc d → sum_of m (get_or (x ∷ roots.list) i 0) (row_minimal m r) ≡ 0
      vanish zero u = h
      vanish (suc i) u = class_sum (row_minimal m r) minimal.bits minimal.root (get_or roots.list i 0) (roots.have i (omega arith))
