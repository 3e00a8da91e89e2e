-- Open, Splice and Decode kept leave one outcome each, and nothing but the named places and the first t sums changes.
use mathlib.Core.Path.{◌≡◌, ◌∙◌, sym, ap}
use mathlib.Core.List.{List, [], ◌++◌}
use mathlib.Core.Logic.{◌≢◌, ◌⊎◌, inl, inr}
use Prim.Native.Nat.{ℕ, ◌+◌, ◌-◌, ◌≤◌, ◌<◌}
use native.Mathlib.Decide.{dec_lt}
use native.Mathlib.Omega.{arith}
use lib.ListN.{length, get_or, take, replicate}
use lib.Seq.{ext_get_or, paste, paste-zero}
use Rattle.std.specs.Result.{result_unwrap_or}
use Rattle.std.specs.Prelude.{Result, Ok}
use Rattle.sheet.specs.declared.Refusal.{Refusal}
use Rattle.sheet.specs.Number.{Outcome, outcome_of}
use Rattle.sheet.proofs.VerdictLaws.{Verdict, passed, refused, verdict-cases, refused_stays, always_stays, always_one, search_one}
use Rattle.bits.specs.Bits.{flipped}
use Rattle.bits.proofs.Turns.{paste_before, paste_after}
use Rattle.field.specs.Product.{IsField}
use Rattle.codes.specs.declared.Code.{Code}
use Rattle.codes.specs.Look.{code_of, code_verdict}
use Rattle.codes.proofs.CheckLaws.{past, code_one}
use Rattle.locate.proofs.FindLaws.{one_set}
use Rattle.decode.specs.Decode.{Mended}
use Rattle.kept.specs.declared.Kept.{Kept}
use Rattle.kept.specs.Record.{zero_kept}
use Rattle.kept.specs.Open.{Opens, Opened}
use Rattle.kept.proofs.RecordLaws.{kept_same}
use Rattle.splice.specs.Splice.{Splices, Spliced, splice_checks, plus_change}
use Rattle.splice.specs.Work.{SpliceReady}
use Rattle.splice.proofs.SpliceLaws.{none_added, splice_ready}
use Rattle.decode_kept.specs.DecodeKept.{DecodesKept, MendsKept}
use Rattle.demands.specs.Words.{Elsewhere}
use Rattle.demands.proofs.OneOutcome.{same_answer}
use Rattle.demands.proofs.Near.{decoded_same, left_same}

-- two answers are the same if the records are that they give, or that stands for the one that a refusal does not give
pub answer_same : (otherwise : Kept) (x y : Result Kept Refusal)
    → (outcome_of x ≡ outcome_of y) × (result_unwrap_or x otherwise ≡ result_unwrap_or y otherwise) → x ≡ y
answer_same otherwise x y (o, r) =
    same_answer x y o
    (λ a b e f. sym (ap (λ (z : Result Kept Refusal). result_unwrap_or z otherwise) e) ∙ r ∙ ap (λ (z : Result Kept Refusal). result_unwrap_or z otherwise) f)

-- two rows with the same first t entries and the same others
pub rows_same : (t : ℕ) (xs ys : List ℕ) → length xs ≡ length ys → ((i : ℕ) → i < t → get_or xs i 0 ≡ get_or ys i 0)
    → ((i : ℕ) → t ≤ i → get_or xs i 0 ≡ get_or ys i 0) → xs ≡ ys
rows_same t xs ys l f g = ext_get_or 0 xs ys l (λ i h. pick i (dec_lt i t))
  where
    pick : (i : ℕ) → Dec (i < t) → get_or xs i 0 ≡ get_or ys i 0
    pick i (yes h) = f i h
    pick i (no n) = g i (omega arith)

pub opened_one : {c : Code} {word : List ℕ} {stored other : Kept} → Opened word c stored → Opened word c other → stored ≡ other
opened_one {c} {stored = stored} {other} p q =
    let a = p.sums_are in
    let b = q.sums_are in
    kept_same (p.m_is ∙ sym q.m_is) (p.t_is ∙ sym q.t_is) (p.bits_are ∙ sym q.bits_are)
    (rows_same c.t stored.sums other.sums (sym a.long ∙ b.long) (λ i h. a.holds i h ∙ sym (b.holds i h))
    (λ i h. a.rest i h ∙ sym (b.rest i h)))

pub open_one : {m t : ℕ} {word : List ℕ} (x y : Result Kept Refusal) → Opens m t word x → Opens m t word y → x ≡ y
open_one x y p q = answer_same zero_kept x y (code_one (λ c K z a b. always_one opened_one a b) p q)

spliced-one : {c : Code} {stored : Kept} {start : ℕ} {stretch : List ℕ} {x y : Kept} → Spliced c stored start stretch x → Spliced c stored start stretch y
    → x ≡ y
spliced-one {c} {stored} {x = x} {y} p q =
    let b : x.bits ≡ y.bits = p.bits_are ∙ sym q.bits_are in
    kept_same (p.m_is ∙ sym q.m_is) (p.t_is ∙ sym q.t_is) b
    (rows_same c.t x.sums y.sums (p.is_whole.sums ∙ sym q.is_whole.sums)
    (λ i h. p.sums_changed i h ∙ ap (λ (after : List ℕ). plus_change c stored after i) b ∙ sym (q.sums_changed i h))
    (λ i h. p.sums_rest i h ∙ sym (q.sums_rest i h)))

pub splice_one : {stored : Kept} {start : ℕ} {stretch : List ℕ} (x y : Result Kept Refusal) → Splices stored start stretch x → Splices stored start stretch y
    → x ≡ y
splice_one {stored} x y p q = answer_same stored x y (code_one (λ c K z a b. always_one spliced-one a b) p q)

-- what the checks of a splice come to
abbrev pub splice_verdict : Kept → ℕ → List ℕ → Outcome
splice_verdict stored start stretch = code_verdict stored.m stored.t (splice_checks stored start stretch)

-- the code of a record
abbrev pub kept_code : Kept → Code
kept_code stored = code_of stored.m stored.t

-- what the checks of an accepted splice leave
pub splice_accepted : (stored : Kept) (start : ℕ) (stretch : List ℕ) → splice_verdict stored start stretch ≡ Ok tt
    → SpliceReady (kept_code stored) stored start stretch
splice_accepted stored start stretch z =
    let p = past stored.m stored.t (splice_checks stored start stretch (kept_code stored)) z in
    splice_ready stored start stretch p.known p.rest

-- a refused splice gives the record back
pub splice_refused : {stored : Kept} {start : ℕ} {stretch : List ℕ} (x : Result Kept Refusal) → outcome_of x ≢ Ok tt → Splices stored start stretch x
    → result_unwrap_or x stored ≡ stored
splice_refused x n p = refused_stays (λ a z. always_stays a z) p.promise n

-- nothing else changes
pub splice_only : {stored : Kept} {start : ℕ} {stretch : List ℕ} (x : Result Kept Refusal) → Splices stored start stretch x
    → Elsewhere stored start (start + length stretch) (result_unwrap_or x stored)
splice_only {stored} {start} {stretch} x s = pick (verdict-cases (splice_verdict stored start stretch))
  where
    outside : start ≤ length stored.bits → (p : ℕ) → (p < start) ⊎ (start + length stretch ≤ p)
        → get_or (paste stored.bits start stretch (length stretch)) p 0 ≡ get_or stored.bits p 0
    outside h p (inl b) = paste_before stored.bits start stretch p h b
    outside h p (inr b) = paste_after stored.bits start stretch p h b

    pick : Verdict (splice_verdict stored start stretch) → Elsewhere stored start (start + length stretch) (result_unwrap_or x stored)
    pick (passed z) =
        let R = splice_accepted stored start stretch z in
        let S = (s.promise.done z).did in
        let within : start ≤ length stored.bits = omega (arith, R.ends, R.known.small, S.was_whole.bits) in
        record {
          m_is = S.m_is;
          t_is = S.t_is;
          bits_long = S.is_whole.bits ∙ sym S.was_whole.bits;
          sums_long = S.is_whole.sums ∙ sym S.was_whole.sums;
          places = λ p o. ap (λ (xs : List ℕ). get_or xs p 0) S.bits_are ∙ outside within p o;
          sums = S.sums_rest;
        }
    pick (refused r z) =
        let e = (s.promise.refused r z).1 in
        record {
          m_is = ap (λ (y : Kept). y.m) e;
          t_is = ap (λ (y : Kept). y.t) e;
          bits_long = ap (λ (y : Kept). length y.bits) e;
          sums_long = ap (λ (y : Kept). length y.sums) e;
          places = λ p o. ap (λ (y : Kept). get_or y.bits p 0) e;
          sums = λ i h. ap (λ (y : Kept). get_or y.sums i 0) e;
        }

-- an accepted empty stretch changes nothing
pub splice_nothing : {stored : Kept} {start : ℕ} (x : Result Kept Refusal) → splice_verdict stored start [] ≡ Ok tt → Splices stored start [] x
    → result_unwrap_or x stored ≡ stored
splice_nothing {stored} {start} x z p =
    kept_same S.m_is S.t_is same
    (rows_same stored.t (result_unwrap_or x stored).sums stored.sums (S.is_whole.sums ∙ sym S.was_whole.sums)
    (λ i h. S.sums_changed i h ∙ ap (λ (after : List ℕ). plus_change (kept_code stored) stored after i) same
    ∙ none_added stored.m i stored.bits stored.sums)
    S.sums_rest)
  where
    S : Spliced (kept_code stored) stored start [] (result_unwrap_or x stored)
    S = (p.promise.done z).did

    same : (result_unwrap_or x stored).bits ≡ stored.bits
    same = S.bits_are ∙ sym (paste-zero stored.bits start [])

mends_kept_one : {c : Code} {stored : Kept} {x y : Mended} → IsField c.m → MendsKept c stored x → MendsKept c stored y → x ≡ y
mends_kept_one {c} {stored} L M N =
    let e = one_set L M.located N.located in
    left_same (M.counts ∙ ap length e ∙ sym N.counts) (M.is_word ∙ ap (flipped (take c.n stored.bits)) e ∙ sym N.is_word)
    (M.is_list ∙ ap (λ (ps : List ℕ). ps ++ replicate (c.t - length ps) 0) e ∙ sym N.is_list)

pub decode_kept_one : {stored : Kept} {lentWord lentList word list word' list' : List ℕ} (x y : Result ℕ Refusal)
    → DecodesKept stored lentWord lentList x word list
    → DecodesKept stored lentWord lentList y word' list' → (x ≡ y) × (word ≡ word') × (list ≡ list')
decode_kept_one x y p q =
    decoded_same x y (code_one (λ c K z a b. search_one (mends_kept_one K.of_m.listed) (λ l M none. none M.places M.located) a b) p q)
