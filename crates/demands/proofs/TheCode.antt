-- The first sentence of demand 2: the code is the binary narrow-sense BCH code over fields from 8 to 1,024 elements, the 232 listed codes.
use mathlib.Core.Path.{◌≡◌, ◌∙◌, refl, sym, ap, subst}
use mathlib.Core.Logic.{◌↔◌}
use mathlib.Core.Bool.{false, not}
use mathlib.Core.List.{List, []}
use Prim.Native.Nat.{ℕ, ◌+◌, ◌*◌, ◌<◌}
use native.Mathlib.Omega.{arith}
use borrow.Author.Tests.{not-false}
use lib.ListN.{length, get_or, replicate, length-replicate, get_or-eq_default}
use Rattle.std.specs.Prelude.{Result, Ok}
use Rattle.sheet.specs.declared.Refusal.{Refusal}
use Rattle.sheet.specs.Number.{outcome_of}
use Rattle.sheet.specs.Verdict.{verdict}
use Rattle.sheet.proofs.VerdictLaws.{all_pass, none_refuses, answer_is, done_passed}
use Rattle.bits.specs.Bits.{AreBits}
use Rattle.bits.proofs.BitLaws.{bits_ones, bits_replicate}
use Rattle.field.specs.Product.{IsField}
use Rattle.field.specs.Power.{n_of}
use Rattle.field.proofs.SumLaws as SumLaws
use Rattle.field.proofs.ProductLaws as ProductLaws
use Rattle.field.proofs.PowerLaws.{inverse_bound}
use Rattle.field.proofs.Order as Order
use Rattle.field.proofs.Range.{sizes}
use Rattle.codes.specs.Table.{ks, ts}
use Rattle.codes.specs.Rows.{RowOf, ListedCode}
use Rattle.codes.specs.Rule.{Rule}
use Rattle.codes.specs.Sums.{CodeWord, sum_of}
use Rattle.codes.specs.Look.{row_of, k_of, is_field, is_listed, code_of, code_checks}
use Rattle.codes.proofs.Listed.{listed_exactly}
use Rattle.codes.proofs.LookLaws.{rows_within, found_listed, found_known, listed_found, listed_row, listed_test, listed_k, known_listed}
use Rattle.codes.proofs.AllRows.{row_of_lem, row_one}
use Rattle.codes.proofs.CheckLaws.{m_within, within_m, listed_t, past, code_passes}
use Rattle.codes.proofs.Rows.{row_facts}
use Rattle.codes.proofs.SumLaws.{odd_sums, sum_zeros}
use Rattle.codes.proofs.Ones.{sum_ones}
use Rattle.codes.proofs.Unique.{Roots}
use Rattle.generator.specs.Generator.{Generator}
use Rattle.generator.specs.Minimal.{Minimal}
use Rattle.generator.proofs.Divisors.{divisors_same}
use Rattle.generator.proofs.Multiple.{multiple, multiple_root}
use Rattle.generator.proofs.MinimalLaws.{minimal_is, root_multiple}
use Rattle.codec.specs.declared.describing.Described.{Described}
use Rattle.codec.specs.Sizes.{GivesSizes, sizes_given}
use Rattle.codec.specs.Describe.{Describes, describe_checks}
use Rattle.demands.specs.Words.{Numbered, GaloisField, Divides, CommonMultiple, LeastCommonMultiple}
use Rattle.demands.proofs.OneOutcome.{answered_one, roots}

-- the rule decides

-- check 1 passes exactly if m is from 3 to 10
pub field_by_rule : (m : ℕ) → (not (is_field m) ≡ false) ↔ IsField m
field_by_rule m = (λ e. within_m m (not-false (is_field m) e), λ L. ap not (m_within L))

-- and check 2 then exactly if the rule holds of t with some k
pub listed_by_rule : {m : ℕ} → IsField m → (t : ℕ) → (not (is_listed m t) ≡ false) ↔ ((k : ℕ) × Rule m k t)
listed_by_rule {m} L t = (to, from)
  where
    to : not (is_listed m t) ≡ false → (k : ℕ) × Rule m k t
    to e = (k_of m t, (listed_exactly m (k_of m t) t L).0 (found_listed L t (listed_t m t (not-false (is_listed m t) e))))

    from : (k : ℕ) × Rule m k t → not (is_listed m t) ≡ false
    from (k, R) = ap not (listed_test ((listed_exactly m k t L).1 R))

-- so both pass exactly if m is from 3 to 10 and the rule holds of t with some k
pub checks_by_rule : (m t : ℕ) → (verdict (code_checks m t []) ≡ Ok tt) ↔ (IsField m × ((k : ℕ) × Rule m k t))
checks_by_rule m t = (to, from)
  where
    to : verdict (code_checks m t []) ≡ Ok tt → IsField m × ((k : ℕ) × Rule m k t)
    to e =
        let p = all_pass (code_checks m t []) e in
        let L = (field_by_rule m).0 p.0 in
        (L, (listed_by_rule L t).0 p.1.0)

    from : IsField m × ((k : ℕ) × Rule m k t) → verdict (code_checks m t []) ≡ Ok tt
    from (L, R) = none_refuses (code_checks m t []) ((field_by_rule m).1 L, ((listed_by_rule L t).1 R, tt))

-- and that k is the one of every promise: code_of m t .k
pub k_by_rule : {m t k : ℕ} → IsField m → Rule m k t → k ≡ k_of m t
k_by_rule {m} {t} {k} L R = sym (listed_k ((listed_exactly m k t L).1 R))

-- Sizes is done and gives k exactly if the rule holds
pub sizes_by_rule : {m t : ℕ} (x : Result Described Refusal) → GivesSizes m t x → (k : ℕ)
    → ((outcome_of x ≡ Ok tt) × ((sizes_given x).k ≡ k)) ↔ (IsField m × Rule m k t)
sizes_by_rule {m} {t} x p k = (to, from)
  where
    to : (outcome_of x ≡ Ok tt) × ((sizes_given x).k ≡ k) → IsField m × Rule m k t
    to (e, f) =
        let v = done_passed p.promise e in
        let (L, (j, R)) = (checks_by_rule m t).0 v in
        (L, subst (λ (i : ℕ). Rule m i t) (k_by_rule L R ∙ sym (p.promise.done v).did.is_k ∙ f) R)

    from : IsField m × Rule m k t → (outcome_of x ≡ Ok tt) × ((sizes_given x).k ≡ k)
    from (L, R) =
        let v = (checks_by_rule m t).1 (L, (k, R)) in
        (answer_is p.promise ∙ v, (p.promise.done v).did.is_k ∙ sym (k_by_rule L R))

pub sizes_n : {m t : ℕ} (x : Result Described Refusal) → GivesSizes m t x → outcome_of x ≡ Ok tt → (sizes_given x).n ≡ n_of m
sizes_n x p e = (p.promise.done (done_passed p.promise e)).did.is_n

-- where Describe is done, Sizes answers the same
pub sizes_as_described : {m t : ℕ} {lent left : List ℕ} (x y : Result Described Refusal) → GivesSizes m t x → Describes m t lent y left
    → outcome_of y ≡ Ok tt → x ≡ y
sizes_as_described {m} {t} {lent} x y p q e =
    let w = done_passed q.promise e in
    let K = (past m t (describe_checks lent (code_of m t)) w).known in
    let d = p.promise.done (code_passes K [] tt) in
    let g = (q.promise.done w).did in
    answered_one x y (d.is_done ∙ sym e) (d.did.is_n ∙ sym g.is_n) (d.did.is_k ∙ sym g.is_k)

-- there are 232 codes
pub codes_in_number : Numbered (λ (m t : ℕ). verdict (code_checks m t []) ≡ Ok tt) 232
codes_in_number = record { number = row_of; below = below; own = own; each = each }
  where
    below : (m t : ℕ) → verdict (code_checks m t []) ≡ Ok tt → row_of m t < 232
    below m t e =
        let K = (past m t [] e).known in
        omega (arith, K.of_m.below, (rows_within K.of_m.listed).most)

    own : (m t m' t' : ℕ) → verdict (code_checks m t []) ≡ Ok tt → verdict (code_checks m' t' []) ≡ Ok tt → row_of m t ≡ row_of m' t' → (m ≡ m') × (t ≡ t')
    own m t m' t' e f s =
        let K = (past m t [] e).known in
        let N = (past m' t' [] f).known in
        (row_one K.of_m (subst (RowOf m') (sym s) N.of_m), K.is_t ∙ ap (λ (r : ℕ). get_or ts r 0) s ∙ sym N.is_t)

    each : (r : ℕ) → r < 232 → (m : ℕ) × (t : ℕ) × (verdict (code_checks m t []) ≡ Ok tt) × (row_of m t ≡ r)
    each r h =
        let (m, w) = row_of_lem r h in
        let c : ListedCode m (get_or ks r 0) (get_or ts r 0) = record { row = r; of_m = w; is_k = refl; is_t = refl } in
        (m, get_or ts r 0, code_passes (found_known w.listed (listed_found c)) [] tt, listed_row c)

-- the field

pub the_field : {m : ℕ} → IsField m → GaloisField m
the_field {m} L =
    let s = sizes L in
    record {
      least = s.least;
      most = s.most;
      sum_within = λ x y h k. SumLaws.sum_bound m h k;
      sum_assoc = SumLaws.sum_assoc;
      sum_comm = SumLaws.sum_comm;
      sum-zero = SumLaws.sum-zero;
      sum_self = SumLaws.sum_self;
      product_within = ProductLaws.product_bound L;
      product_assoc = ProductLaws.product_assoc L;
      product_comm = ProductLaws.product_comm m;
      product-one = ProductLaws.product-one L;
      product_over = ProductLaws.product_over m;
      inverse_within = inverse_bound L;
      inverse_law = Order.inverse_law L;
      a_around = Order.a_order L;
      a_before = Order.a_order_least L;
      a_reaches = Order.every_power L;
    }

-- the generator

module _ {m : ℕ} (L : IsField m) {t d : ℕ} {rs : List ℕ} (R : Roots m t d rs) {g : List ℕ} (G : Generator m t d g) where
  common : CommonMultiple m t g
  common = record { bits = G.bits; each = each }
    where
      each : (i d : ℕ) (p : List ℕ) → i < t → Minimal m (2 * i + 1) d p → Divides p g
      each i d p h M =
          let (q, b, w) = root_multiple L M g G.bits (G.sums (2 * i + 1) (omega arith) (omega arith)) in
          record { quotient = q; bits = b; whole = w }

  least : (h : List ℕ) → CommonMultiple m t h → Divides g h
  least h C =
      let (q, b, w) = multiple L R G h C.bits (odd_sums L h C.bits t root) in
      record { quotient = q; bits = b; whole = w }
    where
      root : (i : ℕ) → i < t → sum_of m (2 * i + 1) h ≡ 0
      root i l =
          let (d, p, M) = minimal_is L (2 * i + 1) in
          let D = C.each i d p l M in
          multiple_root L (2 * i + 1) h M.bits D.bits D.whole M.root

  least_common : LeastCommonMultiple m t g
  least_common = record { common = common; least = least }

  multiples : (c : List ℕ) → CodeWord m t c ↔ ((length c ≡ n_of m) × AreBits c × Divides g c)
  multiples c = (to, from)
    where
      to : CodeWord m t c → (length c ≡ n_of m) × AreBits c × Divides g c
      to C =
          let (q, b, w) = multiple L R G c C.bits C.sums in
          (C.long, C.bits, record { quotient = q; bits = b; whole = w })

      from : (length c ≡ n_of m) × AreBits c × Divides g c → CodeWord m t c
      from (l, b, D) = record { long = l; bits = b; sums = λ j h k. multiple_root L j c G.bits D.bits D.whole (G.sums j h k) }

-- what an accepted Describe leaves in its buffer is that least common multiple
pub generator_is_lcm : {m t : ℕ} {lent left : List ℕ} (x : Result Described Refusal) → Describes m t lent x left → outcome_of x ≡ Ok tt
    → LeastCommonMultiple m t left
generator_is_lcm {m} {t} {lent} x p e =
    let z = done_passed p.promise e in
    let K = (past m t (describe_checks lent (code_of m t)) z).known in
    least_common K.of_m.listed (roots (known_listed K)).1 (p.promise.done z).did.is_generator

-- and there is no other: every least common multiple has its places
pub lcm_is_generator : {m t : ℕ} {lent left : List ℕ} (x : Result Described Refusal) → Describes m t lent x left → outcome_of x ≡ Ok tt
    → (h : List ℕ) → LeastCommonMultiple m t h → (i : ℕ) → get_or h i 0 ≡ get_or left i 0
lcm_is_generator {left = left} x p e h H =
    let G = (p.promise.done (done_passed p.promise e)).did.is_generator in
    let M = generator_is_lcm x p e in
    let q = M.least h H.common in
    let r = H.least left M.common in
    divisors_same h (record { top = G.top; above = λ i l. get_or-eq_default left 0 {n = i} (omega (arith, G.long)) })
    q.bits r.bits q.whole r.whole

-- and the code words are the words of n bits that it divides
pub code_by_generator : {m t : ℕ} {lent left : List ℕ} (x : Result Described Refusal) → Describes m t lent x left → outcome_of x ≡ Ok tt
    → (c : List ℕ) → CodeWord m t c ↔ ((length c ≡ n_of m) × AreBits c × Divides left c)
code_by_generator {m} {t} {lent} x p e =
    let z = done_passed p.promise e in
    let K = (past m t (describe_checks lent (code_of m t)) z).known in
    multiples K.of_m.listed (roots (known_listed K)).1 (p.promise.done z).did.is_generator

-- the word of zeros is in every code
pub all-zeros : (m t : ℕ) → CodeWord m t (replicate (n_of m) 0)
all-zeros m t = record { long = length-replicate {A = ℕ} (n_of m) 0; bits = bits_replicate (n_of m); sums = λ j l u. sum_zeros m j (n_of m) }

-- the word of all ones is in every listed code
pub all_ones : {m t : ℕ} → verdict (code_checks m t []) ≡ Ok tt → CodeWord m t (replicate (n_of m) 1)
all_ones {m} {t} e =
    let K = (past m t [] e).known in
    let f = row_facts K.of_m in
    record {
      long = length-replicate {A = ℕ} (n_of m) 1;
      bits = bits_ones (n_of m);
      sums = λ j l u. sum_ones K.of_m.listed j (omega arith) (omega (arith, f.small, K.is_t));
    }
