-- Splice: what the checks leave, one place after the other, and the record after the work.
use mathlib.Core.Path.{◌≡◌, ◌∙◌, refl, sym, ap, ap₂}
use mathlib.Core.List.{List, [], ◌∷◌, ◌++◌}
use Prim.Native.Nat.{ℕ, ◌+◌, ◌*◌, ◌≤◌, ◌<◌}
use native.Mathlib.Decide.{ℕ_discrete}
use native.Mathlib.Numerals.{add-one}
use native.Mathlib.Omega.{arith}
use borrow.Author.Tests.{ltb-false}
use lib.ListN.{length, get_or, set}
use lib.Seq.{paste, paste-zero, paste-suc, length-paste, drop-paste, set-get_or}
use Rattle.std.specs.Prelude.{Ok}
use Rattle.sheet.specs.Verdict.{verdict}
use Rattle.sheet.proofs.VerdictLaws.{all_pass}
use Rattle.bits.specs.Differences.{differences}
use Rattle.bits.proofs.BitLaws.{bits_of_not_bad}
use Rattle.bits.proofs.DistanceLaws.{differences_self, differences_more}
use Rattle.bits.proofs.Turns.{same_from}
use Rattle.entries.specs.Entries.{Filled}
use Rattle.entries.proofs.FillLaws.{fill_from, fill_as, fill_after}
use Rattle.field.specs.Sum.{◌⊕◌}
use Rattle.field.specs.Product.{IsField}
use Rattle.field.specs.Power.{a, power}
use Rattle.field.proofs.SumLaws.{sum-zero, sum_assoc}
use Rattle.field.proofs.PowerLaws.{power-mul}
use Rattle.codes.specs.declared.Code.{Code}
use Rattle.codes.specs.Work.{Known}
use Rattle.codes.specs.Sums.{sum_over}
use Rattle.codes.proofs.SumLaws.{sum_over-nil}
use Rattle.sums.proofs.SumSteps.{sum_over_snoc}
use Rattle.kept.specs.declared.Kept.{Kept}
use Rattle.kept.specs.Record.{Whole}
use Rattle.kept.proofs.RecordLaws.{sound}
use Rattle.splice.specs.Splice.{Spliced, splice_checks}
use Rattle.splice.specs.Work.{SpliceReady, PlaceSpliced, StretchSpliced, plus_places}

pub splice_ready : {c : Code} (stored : Kept) (start : ℕ) (stretch : List ℕ) → Known c → verdict (splice_checks stored start stretch c) ≡ Ok tt
    → SpliceReady c stored start stretch
splice_ready {c} stored start stretch K e =
    let (contents, (end, (bits, _))) = all_pass (splice_checks stored start stretch c) e in
    record {
      known = K;
      sound = sound c stored contents;
      ends = ltb-false c.n (start + length stretch) end;
      bits = bits_of_not_bad stretch bits;
    }

-- the place holds b already
pub place_kept : {m t b p : ℕ} (bits sums : List ℕ) → get_or bits p 0 ≡ b → PlaceSpliced m t b p bits sums bits sums
place_kept {p = p} bits sums e =
    record { is_bits = sym (ap (set bits p) (sym e) ∙ set-get_or bits p 0); same = λ h. refl; changed = λ n. absurd (n e) }

-- no place differs from itself
pub none_added : (m i : ℕ) (bits sums : List ℕ) → plus_places m (differences bits bits) sums i ≡ get_or sums i 0
none_added m i bits sums =
    ap (λ (x : ℕ). get_or sums i 0 ⊕ x) (ap (sum_over m (2 * i + 1)) (differences_self bits) ∙ sum_over-nil m (2 * i + 1)) ∙ sum-zero (get_or sums i 0)

pub stretch_start : (m t start : ℕ) (stretch bits sums : List ℕ) → StretchSpliced m t start stretch bits sums bits sums 0
stretch_start m t start stretch bits sums =
    record { within = omega arith; is_bits = paste-zero bits start stretch; filled = fill_from _ t sums (λ i h. sym (none_added m i bits sums)) }

pub stretch_long : {m t start i : ℕ} {stretch bits sums bits' sums' : List ℕ} → StretchSpliced m t start stretch bits sums bits' sums' i
    → start + i ≤ length bits → length bits' ≡ length bits
stretch_long {start = start} {i} {stretch} {bits} S h = ap length S.is_bits ∙ length-paste bits start stretch i h S.within

-- one more place of the stretch
module _ {m t start i : ℕ} {stretch bits sums bits' sums' bits'' sums'' : List ℕ} (L : IsField m) (S : StretchSpliced m t start stretch bits sums bits' sums' i)
    (h : i < length stretch) (k : start + i < length bits) (P : PlaceSpliced m t (get_or stretch i 0) (start + i) bits' sums' bits'' sums'') where
  untouched : (j : ℕ) → start + i ≤ j → get_or bits j 0 ≡ get_or bits' j 0
  untouched j l =
      sym (ap (λ (xs : List ℕ). get_or xs j 0) S.is_bits
      ∙ same_from (start + i) (paste bits start stretch i) bits (drop-paste bits start stretch i (omega arith) (omega arith)) j l)

  one_more : Dec (get_or bits' (start + i) 0 ≡ get_or stretch i 0) → Filled (plus_places m (differences bits bits'') sums) t sums sums''
  one_more (yes e) =
      let b : bits'' ≡ bits' = P.is_bits ∙ ap (set bits' (start + i)) (sym e) ∙ set-get_or bits' (start + i) 0 in
      rw (b, P.same e) S.filled
  one_more (no n) =
      let long = stretch_long S (omega arith) in
      let d : differences bits bits'' ≡ differences bits bits' ++ (start + i) ∷ [] =
      ap (differences bits) P.is_bits ∙ differences_more bits bits' (start + i) (get_or stretch i 0) (sym long) (omega arith) untouched n in
      fill_after S.filled (fill_as (P.changed n) (λ j l.
      ap₂ (λ (x y : ℕ). x ⊕ y) (S.filled.holds j l) (sym (power-mul L a (start + i) (2 * j + 1)))
      ∙ sum_assoc (get_or sums j 0) (sum_over m (2 * j + 1) (differences bits bits')) (power m a ((start + i) * (2 * j + 1)))
      ∙ ap (λ (x : ℕ). get_or sums j 0 ⊕ x) (sym (ap (sum_over m (2 * j + 1)) d ∙ sum_over_snoc m (2 * j + 1) (start + i) (differences bits bits')))))

  pub stretch_next : StretchSpliced m t start stretch bits sums bits'' sums'' (i + 1)
  stretch_next =
      record {
        within = omega arith;
        is_bits =
            P.is_bits
            ∙ ap (λ (xs : List ℕ). set xs (start + i) (get_or stretch i 0)) S.is_bits
            ∙ paste-suc bits start stretch i 0 k h
            ∙ ap (paste bits start stretch) (sym (add-one i));
        filled = one_more (ℕ_discrete (get_or bits' (start + i) 0) (get_or stretch i 0));
      }

pub stretch_done : {m t start i : ℕ} {stretch bits sums bits' sums' : List ℕ} → StretchSpliced m t start stretch bits sums bits' sums' i → length stretch ≤ i
    → StretchSpliced m t start stretch bits sums bits' sums' (length stretch)
stretch_done {i = i} {stretch} S h = rw at S
  where
    at : length stretch ≡ i
    at = omega (arith, S.within)

-- the parts of the record after the work
pub spliced_parts : {c : Code} {stored after : Kept} {start : ℕ} {stretch : List ℕ} → SpliceReady c stored start stretch → Whole stored
    → after.m ≡ stored.m → after.t ≡ stored.t
    → StretchSpliced c.m c.t start stretch stored.bits stored.sums after.bits after.sums (length stretch)
    → Spliced c stored start stretch after
spliced_parts R W e f S =
    record {
      was_whole = W;
      is_whole = record {
        bits = stretch_long S (omega (arith, R.ends, R.known.small, W.bits)) ∙ W.bits;
        sums = S.filled.same ∙ W.sums;
      };
      m_is = e;
      t_is = f;
      bits_are = S.is_bits;
      sums_changed = S.filled.holds;
      sums_rest = S.filled.rest;
    }
