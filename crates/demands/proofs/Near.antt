-- Within t of what came in there is at most one code word, so Decode leaves one outcome, and a sent word with at most t flips comes back.
use mathlib.Core.Path.{◌≡◌, ◌∙◌, refl, sym, ap, ap₂, subst}
use mathlib.Core.List.Memᴰ
use mathlib.Core.List.{List, ◌++◌, Memᴰ}
use Prim.Native.Nat.{ℕ, ◌+◌, ◌-◌, ◌*◌, ◌≤◌, ◌<◌}
use native.Mathlib.Nat.{sub-zero}
use native.Mathlib.Omega.{arith}
use lib.ListN.{length, replicate}
use Rattle.std.specs.Result.{result_unwrap_or}
use Rattle.std.specs.Prelude.{Result, Ok}
use Rattle.sheet.specs.declared.Refusal.{Refusal}
use Rattle.sheet.specs.Number.{outcome_of}
use Rattle.sheet.specs.Verdict.{finds, finds_nothing}
use Rattle.sheet.proofs.VerdictLaws.{not_done, does, done_passed, search_one}
use Rattle.bits.specs.Bits.{AreBits, list_of, flipped}
use Rattle.bits.specs.Differences.{differences, distance, Ascending}
use Rattle.bits.proofs.Lists.{list_at}
use Rattle.bits.proofs.BitLaws.{flipped-nil}
use Rattle.bits.proofs.DistanceLaws.{differences_ascending, distance_comm, differences_comm, distance-flipped, differences-flipped, flipped-differences}
use Rattle.field.specs.Product.{IsField}
use Rattle.field.specs.Power.{n_of}
use Rattle.codes.specs.Look.{code_of, code_verdict}
use Rattle.codes.specs.Sums.{CodeWord, sum_of}
use Rattle.codes.proofs.CheckLaws.{past, code_one}
use Rattle.locate.proofs.FindLaws.{one_set}
use Rattle.decode.specs.Decode.{Decodes, Mended, Mends, MendsWithin, decode_checks, left_by}
use Rattle.decode.proofs.DecodeLaws.{near_located}
use Rattle.decode.proofs.DecodeSteps.{decode_ready}
use Rattle.demands.specs.Words.{Received}
use Rattle.demands.proofs.OneOutcome.{same_answer}

-- two answers that have a number are the same if the numbers are
pub same_number : (x y : Result ℕ Refusal) → outcome_of x ≡ outcome_of y → result_unwrap_or x 0 ≡ result_unwrap_or y 0 → x ≡ y
same_number x y o n =
    same_answer x y o
    (λ a b e f. sym (ap (λ (z : Result ℕ Refusal). result_unwrap_or z 0) e) ∙ n ∙ ap (λ (z : Result ℕ Refusal). result_unwrap_or z 0) f)

-- two answers, and two that are left, with the same parts
pub decoded_same : (x y : Result ℕ Refusal) {word list word' list' : List ℕ} → (outcome_of x ≡ outcome_of y) × (left_by x word list ≡ left_by y word' list')
    → (x ≡ y) × (word ≡ word') × (list ≡ list')
decoded_same x y (o, l) = (
  same_number x y o (ap (λ (m : Mended). m.wrong) l),
  ap (λ (m : Mended). m.word) l,
  ap (λ (m : Mended). m.list) l,
)

pub left_same : {x y : Mended} → x.wrong ≡ y.wrong → x.word ≡ y.word → x.list ≡ y.list → x ≡ y
left_same {x} {y} a b c = ap₂ (λ (n : ℕ) (w : List ℕ). of n w x.list) a b ∙ ap (of y.wrong y.word) c
  where
    of : ℕ → List ℕ → List ℕ → Mended
    of wrong word list = record { wrong = wrong; word = word; list = list }

-- what came in: n bits
module _ {m t : ℕ} (L : IsField m) {received : List ℕ} (B : AreBits received) (long : length received ≡ n_of m) where
  pub near_one : {c d : List ℕ} → CodeWord m t c → CodeWord m t d → distance received c ≤ t → distance received d ≤ t → c ≡ d
  near_one {c} {d} C D h k =
      let f : ℕ → ℕ = λ i. sum_of m (2 * i + 1) received in
      let e = one_set {sums = list_of t f} L (near_located L B long (list_at t f) c C h) (near_located L B long (list_at t f) d D k) in
      sym (flipped-differences received c (long ∙ sym C.long) B C.bits) ∙ ap (flipped received) e
      ∙ flipped-differences received d (long ∙ sym D.long) B D.bits

  -- for every radius up to t
  pub mends_one : {radius : ℕ} {x y : Mended} → radius ≤ t → Mends m t radius received x → Mends m t radius received y → x ≡ y
  mends_one {x = x} {y} r p q =
      let e = near_one p.code_word q.code_word (omega (arith, p.counts, p.within)) (omega (arith, q.counts, q.within)) in
      let k : x.wrong ≡ y.wrong = sym p.counts ∙ ap (distance received) e ∙ q.counts in
      left_same k e (p.lists ∙ ap₂ (λ (c : List ℕ) (n : ℕ). differences received c ++ replicate (t - n) 0) e k ∙ sym q.lists)

pub decode_one : {m t : ℕ} {received lentWord lentList word list word' list' : List ℕ} (x y : Result ℕ Refusal)
    → Decodes m t received lentWord lentList x word list
    → Decodes m t received lentWord lentList y word' list' → (x ≡ y) × (word ≡ word') × (list ≡ list')
decode_one {received = received} {lentWord} {lentList} x y p q =
    decoded_same x y
    (code_one
    (λ c K z a b.
    let R = decode_ready received lentWord lentList K z in
    search_one (mends_one K.of_m.listed R.received_bits (R.received_long ∙ K.is_n) (omega arith))
    (λ l M F. F l.word M.code_word (omega (arith, M.counts, M.within))) a b)
    p q)

-- the answer that mended so many wrong places
abbrev pub mended_by : ℕ → Result ℕ Refusal
mended_by wrong = Ok wrong

-- a word that Decode may mend to is what it mends to
pub mended_is : {m t : ℕ} {received lentWord lentList word list : List ℕ} (x : Result ℕ Refusal) (left : Mended) → Mends m t t received left
    → code_verdict m t (decode_checks received lentWord lentList) ≡ Ok tt → Decodes m t received lentWord lentList x word list
    → (x ≡ mended_by left.wrong) × (word ≡ left.word) × (list ≡ left.list)
mended_is x left M z p = decode_one x (mended_by left.wrong) p (record { promise = does z (finds refl M) })

-- a sent word with at most t flips comes back as it was sent, with exactly the flipped places
pub flips_mended : {m t : ℕ} {c ps lentWord lentList word list : List ℕ} (x : Result ℕ Refusal) → CodeWord m t c → Ascending ps
    → ((p : ℕ) → Memᴰ p ps → p < n_of m) → length ps ≤ t → code_verdict m t (decode_checks (flipped c ps) lentWord lentList) ≡ Ok tt
    → Decodes m t (flipped c ps) lentWord lentList x word list → (x ≡ mended_by (length ps)) × (word ≡ c) × (list ≡ ps ++ replicate (t - length ps) 0)
flips_mended {m} {t} {c} {ps} x C A below few z p = mended_is x sent mends z p
  where
    within : (q : ℕ) → Memᴰ q ps → q < length c
    within q k = omega (arith, below q k, C.long)

    places : differences (flipped c ps) c ≡ ps
    places = differences_comm (flipped c ps) c ∙ differences-flipped c ps C.bits A within

    count : distance (flipped c ps) c ≡ length ps
    count = distance_comm (flipped c ps) c ∙ distance-flipped c ps C.bits A within

    sent : Mended
    sent = record { wrong = length ps; word = c; list = ps ++ replicate (t - length ps) 0 }

    mends : Mends m t t (flipped c ps) sent
    mends = record { code_word = C; counts = count; within = few; lists = ap (λ (qs : List ℕ). qs ++ replicate (t - length ps) 0) (sym places) }

-- a code word has no wrong place
pub word_unchanged : {m t : ℕ} {c lentWord lentList word list : List ℕ} (x : Result ℕ Refusal) → CodeWord m t c
    → code_verdict m t (decode_checks c lentWord lentList) ≡ Ok tt
    → Decodes m t c lentWord lentList x word list → (x ≡ mended_by 0) × (word ≡ c) × (list ≡ replicate t 0)
word_unchanged {m} {t} {c} {lentWord} {lentList} {word} {list} x C z p =
    let f = flips_mended x C tt (λ q k. absurd (Memᴰ.not-nil k)) (omega arith)
    (subst (λ (r : List ℕ). code_verdict m t (decode_checks r lentWord lentList) ≡ Ok tt) (sym (flipped-nil c)) z)
    (subst (λ (r : List ℕ). Decodes m t r lentWord lentList x word list) (sym (flipped-nil c)) p) in
    (f.0, f.1, f.2 ∙ ap (λ (n : ℕ). replicate n 0) (sub-zero t))

-- what an accepted Decode that mends gives
pub decode_received : {m t : ℕ} {received lentWord lentList word list : List ℕ} (x : Result ℕ Refusal) → Decodes m t received lentWord lentList x word list
    → outcome_of x ≡ Ok tt → Received m t received (result_unwrap_or x 0) word list
decode_received {m} {t} {received} {lentWord} {lentList} {word} {list} x p e = let z = done_passed p.promise e in tells z (p.promise.done z)
  where
    tells : code_verdict m t (decode_checks received lentWord lentList) ≡ Ok tt
        → MendsWithin (code_of m t) t received lentWord lentList (outcome_of x) (left_by x word list) → Received m t received (result_unwrap_or x 0) word list
    tells z (finds a M) =
        let q = past m t (decode_checks received lentWord lentList (code_of m t)) z in
        let R = decode_ready received lentWord lentList q.known q.rest in
        let near : distance received word ≤ t = omega (arith, M.counts, M.within) in
        record {
          code_word = M.code_word;
          within = near;
          only = λ other C d. near_one q.known.of_m.listed R.received_bits R.received_long C M.code_word d near;
          count = sym M.counts;
          upward = differences_ascending received word;
          lists = M.lists;
        }
    tells z (finds_nothing a f s) = absurd (not_done (sym a ∙ e))
