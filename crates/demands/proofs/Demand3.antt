-- After any splices the record is the one that Open gives for the resulting bits, so Decode kept answers as Decode does for them.
use mathlib.Core.Path.{◌≡◌, ◌∙◌, refl, sym, ap, ap₂, subst}
use mathlib.Core.Bool.{Bool, true, false, not, cond, ◌||◌, true≢false}
use mathlib.Core.List.{List, [], ◌∷◌, ◌++◌}
use mathlib.Core.Logic.{◌≢◌}
use Prim.Native.Nat.{ℕ, ◌+◌, ◌-◌, ◌*◌, ◌≤◌, ◌<◌}
use native.Mathlib.Omega.{arith}
use borrow.Author.Tests.{le-ltb}
use lib.Dec.{eqb}
use lib.ListN.{length, get_or, take, drop, replicate, length-append, length-replicate}
use lib.Seq.{paste, length-paste, length-take-le, take_at}
use Rattle.std.specs.Result.{result_unwrap_or}
use Rattle.std.specs.Prelude.{Result, Ok}
use Rattle.sheet.specs.declared.Refusal.{Refusal}
use Rattle.sheet.specs.Number.{Outcome, outcome_of}
use Rattle.sheet.specs.declared.Refusal.TheVariants.{InputLength, OutputLength, BitAboveOne, RecordContents}
use Rattle.sheet.specs.Verdict.{Check, ◌⇒◌, verdict, Searches, finds, finds_nothing}
use Rattle.sheet.proofs.VerdictLaws.{equal, done_passed}
use Rattle.bits.specs.Bits.{AreBits, first_above, has_bad_bit, runs_past}
use Rattle.bits.specs.Differences.{differences}
use Rattle.bits.proofs.BitLaws.{not_bad}
use Rattle.bits.proofs.DistanceLaws.{differences_front}
use Rattle.bits.proofs.Turns.{bits_paste, copied_whole, paste_front, paste_part}
use Rattle.field.specs.Sum.{◌⊕◌}
use Rattle.field.specs.Power.{n_of}
use Rattle.codes.specs.Look.{code_of, code_checks, code_verdict}
use Rattle.codes.specs.Work.{Known}
use Rattle.codes.specs.Sums.{sum_of, sum_over}
use Rattle.codes.proofs.CheckLaws.{past, code_passes}
use Rattle.codes.proofs.SumLaws.{sum_bounded, sum-differences}
use Rattle.decode.specs.Decode.{Decodes, Mended, MendsWithin, decode_checks, as_lent}
use Rattle.decode.proofs.DecodeLaws.{mends, nothing_near_lem}
use Rattle.kept.specs.declared.Kept.{Kept}
use Rattle.kept.specs.Record.{Whole, bad_record, zero_kept}
use Rattle.kept.specs.Open.{Opens, Opened, open_checks}
use Rattle.kept.specs.Work.{OpenReady}
use Rattle.kept.proofs.OpenLaws.{open_ready}
use Rattle.kept.proofs.RecordLaws.{sound_passes}
use Rattle.splice.specs.Splice.{Splices, Spliced, splice_checks}
use Rattle.splice.specs.Work.{SpliceReady}
use Rattle.decode_kept.specs.DecodeKept.{DecodesKept, MendsKept, NoSet, decode_kept_checks}
use Rattle.demands.specs.Words.{After, spliced, resulting}
use Rattle.demands.proofs.Near.{decode_one}
use Rattle.demands.proofs.OneOutcome.{same_answer}
use Rattle.demands.proofs.KeptOutcome.{splice_verdict, kept_code, splice_accepted, splice_refused, opened_one}

-- the word that a record keeps
abbrev pub kept_word : Kept → List ℕ
kept_word stored = take (n_of stored.m) stored.bits

-- a listed code, n bits, and the first t sums are theirs
record Faithful (stored : Kept) : Type 0 where
  pub known : Known (kept_code stored)
  pub whole : Whole stored
  pub bits : AreBits (kept_word stored)
  pub sums : (i : ℕ) → i < stored.t → get_or stored.sums i 0 ≡ sum_of stored.m (2 * i + 1) (kept_word stored)

module _ {stored : Kept} (F : Faithful stored) where
  fits : n_of stored.m ≤ length stored.bits
  fits = omega (arith, F.whole.bits, F.known.small)

  word_long : length (kept_word stored) ≡ n_of stored.m
  word_long = length-take-le (n_of stored.m) stored.bits fits

  passes : bad_record (kept_code stored) stored ≡ false
  passes =
      sound_passes (kept_code stored) stored
      (record {
        bits = F.bits;
        sums = λ i h. rw (F.sums i h) (sum_bounded F.known.of_m.listed (2 * i + 1) (kept_word stored) F.bits);
      })

-- an opened record

module _ {m t : ℕ} {word : List ℕ} {stored : Kept} (R : OpenReady (code_of m t) word) (O : Opened word (code_of m t) stored) where
  opened_word : kept_word stored ≡ word
  opened_word =
      ap₂ (λ (x : ℕ) (xs : List ℕ). take (n_of x) xs) O.m_is O.bits_are ∙ take_at word (replicate (1023 - n_of m) 0) (n_of m) R.long

  opened_faithful : Faithful stored
  opened_faithful =
      record {
        known = rw (O.m_is, O.t_is) R.known;
        whole = record {
          bits =
              ap length O.bits_are
              ∙ omega (arith, R.long, R.known.small, length-append word (replicate (1023 - n_of m) 0), length-replicate {A = ℕ} (1023 - n_of m) 0);
          sums = sym O.sums_are.long;
        };
        bits = subst AreBits (sym opened_word) R.bits;
        sums = λ i h.
            O.sums_are.holds i (omega (arith, O.t_is))
            ∙ ap₂ (λ (x : ℕ) (xs : List ℕ). sum_of x (2 * i + 1) xs) (sym O.m_is) (sym opened_word);
      }

-- what the checks of an accepted Open leave
open_accepted : (m t : ℕ) (word : List ℕ) → code_verdict m t (open_checks word) ≡ Ok tt → OpenReady (code_of m t) word
open_accepted m t word z = let p = past m t (open_checks word (code_of m t)) z in open_ready word p.known p.rest

-- a splice

module _ {stored after : Kept} {start : ℕ} {stretch : List ℕ} (F : Faithful stored) (R : SpliceReady (kept_code stored) stored start stretch)
    (S : Spliced (kept_code stored) stored start stretch after) where
  spliced_word : kept_word after ≡ paste (kept_word stored) start stretch (length stretch)
  spliced_word =
      ap₂ (λ (x : ℕ) (xs : List ℕ). take (n_of x) xs) S.m_is S.bits_are ∙ (paste_front (n_of stored.m) stored.bits start stretch (fits F) R.ends).0

  long_after : length after.bits ≡ length stored.bits
  long_after = ap length S.bits_are ∙ length-paste stored.bits start stretch (length stretch) (omega (arith, fits F, R.ends)) (omega arith)

  -- the places that changed are among the first n
  changed : differences stored.bits after.bits ≡ differences (kept_word stored) (kept_word after)
  changed =
      differences_front (n_of stored.m) stored.bits after.bits (sym long_after)
      (sym (ap (drop (n_of stored.m)) S.bits_are ∙ (paste_front (n_of stored.m) stored.bits start stretch (fits F) R.ends).1))
      ∙ ap (λ (x : ℕ). differences (kept_word stored) (take (n_of x) after.bits)) (sym S.m_is)

  bits_after : AreBits (kept_word after)
  bits_after = subst AreBits (sym spliced_word) (bits_paste start F.bits R.bits)

  word_after : length (kept_word stored) ≡ length (kept_word after)
  word_after =
      sym (ap length spliced_word ∙ length-paste (kept_word stored) start stretch (length stretch) (omega (arith, word_long F, R.ends)) (omega arith))

  sums_after : (i : ℕ) → i < stored.t → get_or after.sums i 0 ≡ sum_of stored.m (2 * i + 1) (kept_word after)
  sums_after i h =
      S.sums_changed i h
      ∙ ap₂ (λ (x : ℕ) (ps : List ℕ). x ⊕ sum_over stored.m (2 * i + 1) ps) (F.sums i h) changed
      ∙ sym (sum-differences F.known.of_m.listed (2 * i + 1) (kept_word stored) (kept_word after) F.bits bits_after word_after)

  spliced_faithful : Faithful after
  spliced_faithful =
      record {
        known = rw (S.m_is, S.t_is) F.known;
        whole = S.is_whole;
        bits = bits_after;
        sums = λ i h. sums_after i (omega (arith, S.t_is)) ∙ ap (λ (x : ℕ). sum_of x (2 * i + 1) (kept_word after)) (sym S.m_is);
      }

-- what Decode kept does with a faithful record is what Decode does with its word
module _ {stored : Kept} (F : Faithful stored) (lentWord lentList : List ℕ) where
  same_verdict : code_verdict stored.m stored.t (decode_checks (kept_word stored) lentWord lentList)
      ≡ code_verdict stored.m stored.t (decode_kept_checks stored lentWord lentList)
  same_verdict =
      let word : Check = not (eqb (length lentWord) (n_of stored.m)) ⇒ OutputLength in
      let list : Check = not (eqb (length lentList) stored.t) ⇒ OutputLength in
      let at = first_above (kept_word stored) in
      ap₂ (λ (long bad : Bool). verdict (code_checks stored.m stored.t (long ⇒ InputLength ∷ word ∷ list ∷ bad ⇒ BitAboveOne 0 at ∷ [])))
      (equal (word_long F)) (not_bad F.bits)
      ∙ sym (ap (λ (bad : Bool). verdict (code_checks stored.m stored.t (bad ⇒ RecordContents ∷ word ∷ list ∷ []))) (passes F))

  same_search : {answer : Outcome} {left : Mended}
      → Searches (MendsKept (kept_code stored) stored) (NoSet (kept_code stored) stored) (as_lent lentWord lentList) answer left
      → MendsWithin (kept_code stored) stored.t (kept_word stored) lentWord lentList answer left
  same_search (finds e M) =
      finds e (mends F.known.of_m.listed F.bits (word_long F) F.sums M.located M.counts M.is_word M.is_list)
  same_search (finds_nothing e none s) = finds_nothing e (nothing_near_lem F.known.of_m.listed F.bits (word_long F) F.sums none) s

  decodes_kept : (x : Result ℕ Refusal) {word list : List ℕ} → DecodesKept stored lentWord lentList x word list
      → Decodes stored.m stored.t (kept_word stored) lentWord lentList x word list
  decodes_kept x p =
      record {
        promise = record {
          refused = λ r z. p.promise.refused r (sym same_verdict ∙ z);
          done = λ z. same_search (p.promise.done (sym same_verdict ∙ z));
        };
      }

  faithful_decodes : (x y : Result ℕ Refusal) {word list word' list' : List ℕ} → DecodesKept stored lentWord lentList x word list
      → Decodes stored.m stored.t (kept_word stored) lentWord lentList y word' list' → (x ≡ y) × (word ≡ word') × (list ≡ list')
  faithful_decodes x y p q = decode_one x y (decodes_kept x p) q

-- a splice into an opened record

module _ {m t : ℕ} {word : List ℕ} {stored : Kept} (R : OpenReady (code_of m t) word) (O : Opened word (code_of m t) stored) (start : ℕ) (stretch : List ℕ) where
  faithful : Faithful stored
  faithful = opened_faithful R O

  same_end : runs_past start (length stretch) (length word) ≡ runs_past start (length stretch) (n_of stored.m)
  same_end = ap (runs_past start (length stretch)) (R.long ∙ sym (ap n_of O.m_is))

  -- it is accepted exactly if the stretch ends in time and holds bits
  accepted : runs_past start (length stretch) (length word) ≡ false → has_bad_bit stretch ≡ false → splice_verdict stored start stretch ≡ Ok tt
  accepted e f =
      code_passes faithful.known (splice_checks stored start stretch (kept_code stored)) (passes faithful, (sym same_end ∙ e, (f, tt)))

  module _ (z : splice_verdict stored start stretch ≡ Ok tt) where
    ready : SpliceReady (kept_code stored) stored start stretch
    ready = splice_accepted stored start stretch z

    ends_in_time : runs_past start (length stretch) (length word) ≡ false
    ends_in_time = same_end ∙ le-ltb (n_of stored.m) (start + length stretch) ready.ends

    fits_in : start + length stretch ≤ length word
    fits_in = omega (arith, ready.ends, R.long, ap n_of O.m_is)

    pasted_ready : OpenReady (code_of m t) (paste word start stretch (length stretch))
    pasted_ready =
        record {
          known = R.known;
          long = length-paste word start stretch (length stretch) fits_in (omega arith) ∙ R.long;
          bits = bits_paste start R.bits ready.bits;
        }

    -- and then the record is the one opened with the stretch pasted in
    pasted_opened : {after : Kept} → Spliced (kept_code stored) stored start stretch after
        → Opened (paste word start stretch (length stretch)) (code_of m t) after
    pasted_opened {after} S =
        record {
          m_is = S.m_is ∙ O.m_is;
          t_is = S.t_is ∙ O.t_is;
          bits_are = bits;
          sums_are = record {
            long = sym s.whole.sums;
            holds = λ i h.
                s.sums i (omega (arith, S.t_is, O.t_is)) ∙ ap₂ (λ (x : ℕ) (xs : List ℕ). sum_of x (2 * i + 1) xs) (S.m_is ∙ O.m_is) kept;
            rest = λ i h. S.sums_rest i (omega (arith, O.t_is)) ∙ O.sums_are.rest i h;
          };
        }
      where
        s : Faithful after
        s = spliced_faithful faithful ready S

        bits : after.bits ≡ paste word start stretch (length stretch) ++ replicate (1023 - n_of m) 0
        bits =
            S.bits_are
            ∙ ap (λ (xs : List ℕ). paste xs start stretch (length stretch)) O.bits_are
            ∙ paste_part word (replicate (1023 - n_of m) 0) start stretch fits_in

        kept : kept_word after ≡ paste word start stretch (length stretch)
        kept =
            ap₂ (λ (x : ℕ) (xs : List ℕ). take (n_of x) xs) (S.m_is ∙ O.m_is) bits
            ∙ take_at (paste word start stretch (length stretch)) (replicate (1023 - n_of m) 0) (n_of m) pasted_ready.long

  -- accepted or refused, the record is the one opened with the bits that result
  one_splice : (x : Result Kept Refusal) → Splices stored start stretch x
      → OpenReady (code_of m t) (spliced word (start, stretch)) × Opened (spliced word (start, stretch)) (code_of m t) (result_unwrap_or x stored)
  one_splice x p = pick (runs_past start (length stretch) (length word)) (has_bad_bit stretch) refl refl
    where
      as_it_was : splice_verdict stored start stretch ≢ Ok tt → OpenReady (code_of m t) word × Opened word (code_of m t) (result_unwrap_or x stored)
      as_it_was n = (R, subst (Opened word (code_of m t)) (sym (splice_refused x (λ e. n (done_passed p.promise e)) p)) O)

      pick : (past bad : Bool) → runs_past start (length stretch) (length word) ≡ past → has_bad_bit stretch ≡ bad
          → OpenReady (code_of m t) (cond (past || bad) word (paste word start stretch (length stretch)))
          × Opened (cond (past || bad) word (paste word start stretch (length stretch))) (code_of m t) (result_unwrap_or x stored)
      pick true bad e f = as_it_was (λ z. true≢false (sym e ∙ ends_in_time z))
      pick false true e f = as_it_was (λ z. true≢false (sym f ∙ not_bad (ready z).bits))
      pick false false e f = let z = accepted e f in (pasted_ready z, pasted_opened z (p.promise.done z).did)

-- after any splices

after_opened : {m t : ℕ} {word : List ℕ} {stored after : Kept} (splices : List (ℕ × List ℕ)) → OpenReady (code_of m t) word
    → Opened word (code_of m t) stored → After stored splices after
    → OpenReady (code_of m t) (resulting word splices) × Opened (resulting word splices) (code_of m t) after
after_opened {m} {t} {word} [] R O e = (R, subst (Opened word (code_of m t)) e O)
after_opened {m} {t} {word} {stored} (s ∷ splices) R O (x, p, rest) =
    let (Q, P) = one_splice R O s.0 s.1 x p in after_opened {m = m} {t = t} {word = spliced word (s.0, s.1)} {stored = result_unwrap_or x stored} splices Q P
    rest

module _ {m t : ℕ} {word : List ℕ} (x : Result Kept Refusal) {stored : Kept} (splices : List (ℕ × List ℕ)) (o : Opens m t word x) (e : outcome_of x ≡ Ok tt)
    (a : After (result_unwrap_or x zero_kept) splices stored) where
  result : OpenReady (code_of m t) (resulting word splices) × Opened (resulting word splices) (code_of m t) stored
  result = let z = done_passed o.promise e in after_opened splices (open_accepted m t word z) (o.promise.done z).did a

  -- the record is the one that Open gives for the resulting bits
  pub kept_as_opened : (y : Result Kept Refusal) → Opens m t (resulting word splices) y → (outcome_of y ≡ Ok tt) × (stored ≡ result_unwrap_or y zero_kept)
  kept_as_opened y q =
      let (R, O) = result in
      let d = q.promise.done (code_passes R.known (open_checks (resulting word splices) (code_of m t)) (equal R.long, (not_bad R.bits, tt))) in
      (d.is_done, opened_one O d.did)

  -- Decode kept answers as Decode does for the resulting bits: answer, word and list
  pub kept_as_decoded : {lentWord lentList word₁ list₁ word₂ list₂ : List ℕ} (y y' : Result ℕ Refusal) → DecodesKept stored lentWord lentList y word₁ list₁
      → Decodes m t (resulting word splices) lentWord lentList y' word₂ list₂ → (y ≡ y') × (word₁ ≡ word₂) × (list₁ ≡ list₂)
  kept_as_decoded {lentWord} {lentList} {word₂ = word₂} {list₂} y y' p q =
      let (R, O) = result in
      faithful_decodes (opened_faithful R O) lentWord lentList y y' p (rw (opened_word R O, O.m_is, O.t_is) q)

  -- the whole word spliced in is that word opened afresh
  pub whole_splice : {stretch : List ℕ} (y y' : Result Kept Refusal) → Splices stored 0 stretch y → Opens m t stretch y' → outcome_of y' ≡ Ok tt → y ≡ y'
  whole_splice {stretch} y y' p q f =
      let (R, O) = result in
      let b = done_passed q.promise f in
      let Q = open_accepted m t stretch b in
      let same : length stretch ≡ length (resulting word splices) = Q.long ∙ sym R.long in
      let z = accepted R O 0 stretch (le-ltb (length (resulting word splices)) (0 + length stretch) (omega arith)) (not_bad Q.bits) in
      let S = p.promise.done z in
      let long = length-paste (resulting word splices) 0 stretch (length stretch) (omega arith) (omega arith) in
      let whole = copied_whole (resulting word splices) stretch (paste (resulting word splices) 0 stretch (length stretch)) (sym same) long refl in
      let P = subst (λ (w : List ℕ). Opened w (code_of m t) (result_unwrap_or y stored)) whole (pasted_opened R O 0 stretch z S.did) in
      let same_record = opened_one P (q.promise.done b).did in
      same_answer y y' (S.is_done ∙ sym (q.promise.done b).is_done)
      (λ (a c : Kept) d e. sym (ap (λ (x : Result Kept Refusal). result_unwrap_or x stored) d) ∙ same_record
      ∙ ap (λ (x : Result Kept Refusal). result_unwrap_or x zero_kept) e)
