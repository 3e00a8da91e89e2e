-- Cases worked out by hand, in a single table, each proved of every outcome that the promises allow. A set stands for the word that holds 1 at its places.
use mathlib.Core.Path.{◌≡◌, ◌∙◌, refl, sym, ap, ap₂, subst}
use mathlib.Core.Bool.{Bool, true, false}
use mathlib.Core.List.Memᴰ
use mathlib.Core.List.{List, [], ◌∷◌, ◌++◌, Memᴰ}
use mathlib.Core.Logic.{◌⊎◌, inl, inr}
use Prim.Native.Nat.{ℕ, zero, suc, ◌+◌, ◌-◌, ◌*◌, ◌^◌, ◌≤◌, ◌<◌}
use native.Mathlib.Omega.{arith}
use lib.Dec.{T, eqb, leb, eqb→eq, leb→le}
use lib.ListN.{length, get_or, replicate, length-replicate}
use Rattle.std.specs.Prelude.{Result, Ok, Err}
use Rattle.sheet.specs.declared.Refusal.{Refusal}
use Rattle.sheet.specs.declared.Refusal.TheVariants.{NothingNear, LeadBits}
use Rattle.sheet.specs.Number.{Outcome, outcome_of}
use Rattle.sheet.specs.declared.Told.{Told}
use Rattle.sheet.specs.Number.{outcome_told, number_of, outcome_number}
use Rattle.sheet.specs.Verdict.{verdict, finds_nothing}
use Rattle.sheet.proofs.VerdictLaws.{does, always, answer_is, not_done}
use Rattle.bits.specs.Bits.{AreBits, list_of, first_above, flip, flipped}
use Rattle.bits.specs.Differences.{differences, differences_from, distance}
use Rattle.bits.proofs.Lists.{length_list, list_at}
use Rattle.bits.proofs.BitLaws.{length-flipped, bits_flipped, bits_replicate}
use Rattle.bits.proofs.DistanceLaws.{distance-length}
use Rattle.field.specs.Sum.{◌⊕◌}
use Rattle.field.specs.Product.{IsField, polynomials, polynomial, digits, horner, carryless, shifted, remainder, ◌⊗⟨◌⟩◌}
use Rattle.field.specs.Power.{n_of, power}
use Rattle.field.proofs.Tests.{both, both_left, both_right, all, All, done, also, all_passed, passes, passed_at}
use Rattle.codes.specs.Table.{first, firsts, ks, ts, listed_codes}
use Rattle.codes.specs.Look.{row_from, row_of, is_listed, k_of, code_of, code_verdict}
use Rattle.codes.proofs.CheckLaws.{past}
use Rattle.codes.specs.Sums.{CodeWord, sum_from, sum_of}
use Rattle.codes.specs.Encoding.{Encoding}
use Rattle.codes.proofs.SumLaws.{odd_sums}
use Rattle.codec.specs.Encode.{Encodes, encode_checks}
use Rattle.codec.specs.Edit.{Edits, edit_checks}
use Rattle.decode.specs.Decode.{Decodes, Mended, Mends, Far, decode_checks}
use Rattle.decode.proofs.DecodeLaws.{near_located}
use Rattle.kept.specs.declared.Kept.{Kept}
use Rattle.kept.specs.Record.{some_at_least}
use Rattle.splice.specs.Splice.{Splices, splice_checks}
use Rattle.layout.specs.Frame.{sent_bit, place_bit, word_of}
use Rattle.frame.specs.declared.reading.ReadFrame.{ReadFrame}
use Rattle.frame.specs.Read.{Reads, frame_checks, given_by, zeros}
use Rattle.book.specs.declared.reading.Found.{Found}
use Rattle.book.specs.Book.{mark, frame_start}
use Rattle.book.specs.Read.{span_of, has_mark, number_at, count_of, lacks_trailer, size_is_wrong, find_checks, Span, Finds}
use Rattle.demands.proofs.OneOutcome.{encode_one}
use Rattle.demands.proofs.Near.{mended_by, mended_is, decode_one}
use Rattle.demands.specs.Words.{StuckAt}
use Rattle.demands.proofs.Stays.{read_stays}
use Rattle.demands.proofs.StuckLine.{stuck_refused}
use Rattle.demands.proofs.NoSet.{zeroes, plus_place, no_set, nothing_located}

pub data Case : Type 0 where
  -- m, t, a message, the word that is sent
  sent : ℕ → ℕ → List ℕ → List ℕ → Case
  -- m, t, what came in, the list of the wrong places, the mended word
  mended : ℕ → ℕ → List ℕ → List ℕ → List ℕ → Case
  -- m, t, what came in: refused 6
  far : ℕ → ℕ → List ℕ → Case
  -- m, what came in, its sums S_1, S_3, ..
  summed : ℕ → List ℕ → List ℕ → Case
  -- m, t, a word place by place, a start, a stretch, what Edit tells
  told_edit : ℕ → ℕ → List ℕ → ℕ → List ℕ → Told → Case
  -- m, t, a start, a stretch, what Splice into a record of zeros tells
  told_splice : ℕ → ℕ → ℕ → List ℕ → Told → Case
  -- a book, a frame number, where the frame starts
  part_at : List ℕ → ℕ → ℕ → Case
  -- a book, a frame number, the number of the refusal, which comes with the empty part at the front
  no_part : List ℕ → ℕ → ℕ → Case
  -- a frame that is refused before it is mended, the number of the refusal, which comes with zeros
  no_frame : List ℕ → ℕ → Case
  -- a bit, a frame with pad 0 of a line stuck at that bit: refused 11, with zeros
  stuck_line : ℕ → List ℕ → Case

-- 5, with a buffer and a place
abbrev pub bad_bit : ℕ → ℕ → Told
bad_bit buffer place = record { number = 5; buffer = buffer; place = place }

-- a trailer with this mark, these bytes of the count and of the distance, and zero
abbrev pub trailer_with : List ℕ → List ℕ → List ℕ → List ℕ
trailer_with m count distance = m ++ count ++ distance ++ (0 ∷ 0 ∷ 0 ∷ 0 ∷ [])

unfoldable pub cases : List Case
cases =
    sent 4 1 (0 ∷ []) (0 ∷ 1 ∷ 4 ∷ [])
    ∷ sent 4 2 (0 ∷ []) (0 ∷ 4 ∷ 6 ∷ 7 ∷ 8 ∷ [])
    ∷ sent 4 3 (0 ∷ 2 ∷ 4 ∷ []) (0 ∷ 1 ∷ 2 ∷ 6 ∷ 9 ∷ 10 ∷ 12 ∷ 14 ∷ [])
    ∷ sent 4 3 (0 ∷ 1 ∷ 2 ∷ 3 ∷ 4 ∷ []) (0 ∷ 1 ∷ 2 ∷ 3 ∷ 4 ∷ 5 ∷ 6 ∷ 7 ∷ 8 ∷ 9 ∷ 10 ∷ 11 ∷ 12 ∷ 13 ∷ 14 ∷ [])
    ∷ mended 4 3 (1 ∷ 2 ∷ 6 ∷ 10 ∷ 12 ∷ []) (0 ∷ 9 ∷ 14 ∷ []) (0 ∷ 1 ∷ 2 ∷ 6 ∷ 9 ∷ 10 ∷ 12 ∷ 14 ∷ [])
    ∷ summed 4 (0 ∷ 1 ∷ 2 ∷ 3 ∷ []) (15 ∷ 15 ∷ 1 ∷ [])
    ∷ far 4 3 (0 ∷ 1 ∷ 2 ∷ 3 ∷ [])
    ∷ mended 4 3 (0 ∷ 1 ∷ 2 ∷ 4 ∷ []) (5 ∷ 8 ∷ 10 ∷ []) (0 ∷ 1 ∷ 2 ∷ 4 ∷ 5 ∷ 8 ∷ 10 ∷ [])
    ∷ mended 4 1 (0 ∷ 1 ∷ []) (4 ∷ []) (0 ∷ 1 ∷ 4 ∷ [])
    ∷ mended 3 1 (0 ∷ 1 ∷ []) (3 ∷ []) (0 ∷ 1 ∷ 3 ∷ [])
    ∷ mended 4 2 (0 ∷ 4 ∷ 6 ∷ []) (7 ∷ 8 ∷ []) (0 ∷ 4 ∷ 6 ∷ 7 ∷ 8 ∷ [])
    ∷ summed 4 (3 ∷ []) (8 ∷ 10 ∷ [])
    ∷ told_splice 4 3 10 (1 ∷ 0 ∷ 2 ∷ []) (bad_bit 0 2)
    ∷ told_edit 4 3 (replicate 7 0 ++ (2 ∷ replicate 7 0)) 0 (3 ∷ []) (bad_bit 0 7)
    ∷ told_edit 4 3 (replicate 15 0) 0 (1 ∷ 3 ∷ []) (bad_bit 1 1)
    ∷ no_part (trailer_with mark (0 ∷ 0 ∷ 0 ∷ 0 ∷ []) (0 ∷ 0 ∷ 0 ∷ 0 ∷ [])) 0 15
    ∷ no_part (trailer_with mark (0 ∷ 0 ∷ 0 ∷ 0 ∷ []) (0 ∷ 0 ∷ 0 ∷ 0 ∷ [])) (2 ^ 59) 15
    ∷ no_part (trailer_with mark (0 ∷ 0 ∷ 0 ∷ 0 ∷ []) (0 ∷ 0 ∷ 0 ∷ 0 ∷ [])) (2 ^ 64 - 1) 15
    ∷ no_part (trailer_with mark (8 ∷ 0 ∷ 0 ∷ 0 ∷ []) (0 ∷ 0 ∷ 0 ∷ 0 ∷ [])) 0 14
    ∷ no_part (trailer_with (80 ∷ 79 ∷ 76 ∷ 77 ∷ []) (8 ∷ 0 ∷ 0 ∷ 0 ∷ []) (0 ∷ 0 ∷ 0 ∷ 0 ∷ [])) 0 13
    ∷ no_part (replicate 31 7 ++ trailer_with mark (0 ∷ 0 ∷ 0 ∷ 1 ∷ []) (0 ∷ 0 ∷ 0 ∷ 32 ∷ [])) 0 14
    ∷ part_at (replicate 32 7 ++ trailer_with mark (0 ∷ 0 ∷ 0 ∷ 1 ∷ []) (0 ∷ 0 ∷ 0 ∷ 32 ∷ [])) 0 0
    ∷ part_at (replicate 65 7 ++ trailer_with mark (0 ∷ 0 ∷ 0 ∷ 2 ∷ []) (0 ∷ 0 ∷ 0 ∷ 64 ∷ [])) 1 33
    ∷ no_part (replicate 65 7 ++ trailer_with mark (0 ∷ 0 ∷ 0 ∷ 2 ∷ []) (0 ∷ 0 ∷ 0 ∷ 64 ∷ [])) 2 15
    ∷ stuck_line 0 (replicate 32 0)
    ∷ stuck_line 0 (replicate 5 0 ++ (129 ∷ replicate 26 0))
    ∷ no_frame (replicate 32 255) 10
    ∷ stuck_line 1 (replicate 31 255 ++ (254 ∷ []))
    ∷ no_frame (replicate 5 0) 9
    ∷ []

-- n bits that hold 1 at the places of a set
unfoldable pub bits_at : ℕ → List ℕ → List ℕ
bits_at n ps = flipped (replicate n 0) ps

bits_at_long : (n : ℕ) (ps : List ℕ) → length (bits_at n ps) ≡ n
unfolding bits_at
bits_at_long n ps = length-flipped (replicate n 0) ps ∙ length-replicate {A = ℕ} n 0

bits_at_bits : (n : ℕ) (ps : List ℕ) → AreBits (bits_at n ps)
unfolding bits_at
bits_at_bits n ps = bits_flipped ps (bits_replicate n)

-- the answer that no code word is near
abbrev pub nothing_near : Result ℕ Refusal
nothing_near = Err NothingNear

-- the record of zeros of a code
abbrev pub zeros_of : ℕ → ℕ → Kept
zeros_of m t = record { m = m; t = t; bits = replicate 1023 0; sums = replicate 255 0 }

-- every reading of a frame is refused with this number
abbrev pub Unread : List ℕ → ℕ → Type 0
Unread frame number = (x : Result ReadFrame Refusal) → Reads frame x → (outcome_number (outcome_of x) ≡ number) × (given_by x ≡ zeros)

-- what a case says: every outcome that the promise allows is this one
abbrev pub Holds : Case → Type 0
Holds (sent m t message word) =
    (lent left : List ℕ) (x : Outcome) → length lent ≡ n_of m → Encodes m t (bits_at (k_of m t) message) lent x left
    → (x ≡ Ok tt) × (left ≡ bits_at (n_of m) word)
Holds (mended m t received places word) =
    (lentWord lentList left list : List ℕ) (x : Result ℕ Refusal) → length lentWord ≡ n_of m → length lentList ≡ t
    → Decodes m t (bits_at (n_of m) received) lentWord lentList x left list
    → (x ≡ mended_by (length places)) × (left ≡ bits_at (n_of m) word) × (list ≡ places ++ replicate (t - length places) 0)
Holds (far m t received) =
    (lentWord lentList left list : List ℕ) (x : Result ℕ Refusal) → length lentWord ≡ n_of m → length lentList ≡ t
    → Decodes m t (bits_at (n_of m) received) lentWord lentList x left list
    → (x ≡ nothing_near) × (left ≡ lentWord) × (list ≡ lentList)
Holds (told_edit m t word start stretch told) = (left : List ℕ) (x : Outcome) → Edits m t word start stretch x left → outcome_told x ≡ told
Holds (told_splice m t start stretch told) = (x : Result Kept Refusal) → Splices (zeros_of m t) start stretch x → outcome_told (outcome_of x) ≡ told
Holds (part_at book i start) = (x : Result Found Refusal) → Finds book i x → (outcome_of x ≡ Ok tt) × ((span_of x).from ≡ start) × ((span_of x).to ≡ start + 32)
Holds (no_part book i number) = (x : Result Found Refusal) → Finds book i x
    → (outcome_number (outcome_of x) ≡ number) × ((span_of x).from ≡ 0) × ((span_of x).to ≡ 0)
Holds (no_frame frame number) = Unread frame number
Holds (stuck_line bit frame) = Unread frame 11
Holds (summed m received sums) = (i : ℕ) → i < length sums → sum_of m (2 * i + 1) (bits_at (n_of m) received) ≡ get_or sums i 0

-- the tests

-- the two lists are the same
unfoldable same_list : List ℕ → List ℕ → Bool
same_list [] [] = true
same_list [] (y ∷ ys) = false
same_list (x ∷ xs) [] = false
same_list (x ∷ xs) (y ∷ ys) = both (eqb x y) (same_list xs ys)

-- the checks come to nothing
unfoldable is_done : Outcome → Bool
is_done (Ok u) = true
is_done (Err r) = false

-- the checks come to an outcome of which this is told
unfoldable tells_as : Outcome → Told → Bool
tells_as v told =
    both (eqb (outcome_told v).number told.number) (both (eqb (outcome_told v).buffer told.buffer) (eqb (outcome_told v).place told.place))

unfoldable has_sums : ℕ → List ℕ → List ℕ → Bool
has_sums m word sums = passes (λ i. eqb (sum_of m (2 * i + 1) word) (get_or sums i 0)) 0 (length sums)

unfoldable is_code_word : ℕ → ℕ → List ℕ → Bool
is_code_word m t word = passes (λ i. eqb (sum_of m (2 * i + 1) word) 0) 0 t

unfoldable sent_tests : ℕ → ℕ → List ℕ → List ℕ → List Bool
sent_tests m t message word =
    is_done (code_verdict m t (encode_checks (bits_at (k_of m t) message) (bits_at (n_of m) word)))
    ∷ is_code_word m t (bits_at (n_of m) word)
    ∷ passes (λ i. eqb (get_or (bits_at (n_of m) word) (n_of m - k_of m t + i) 0) (get_or (bits_at (k_of m t) message) i 0)) 0 (k_of m t)
    ∷ []

-- the checks pass where the buffers are as long as they must be
unfoldable checks_pass : ℕ → ℕ → List ℕ → List ℕ → Bool
checks_pass m t received word = is_done (code_verdict m t (decode_checks received (bits_at (n_of m) word) (replicate t 0)))

unfoldable mended_tests : ℕ → ℕ → List ℕ → List ℕ → List ℕ → List Bool
mended_tests m t received places word =
    checks_pass m t (bits_at (n_of m) received) word
    ∷ is_code_word m t (bits_at (n_of m) word)
    ∷ same_list (differences (bits_at (n_of m) received) (bits_at (n_of m) word)) places
    ∷ leb (length places) t
    ∷ []

unfoldable far_tests : ℕ → ℕ → List ℕ → List Bool
far_tests m t received =
    checks_pass m t (bits_at (n_of m) received) received
    ∷ no_set m (n_of m) 0 t (list_of t (λ i. sum_of m (2 * i + 1) (bits_at (n_of m) received)))
    ∷ []

unfoldable part_tests : List ℕ → ℕ → ℕ → List Bool
part_tests book i start =
    is_done (verdict (find_checks book i))
    ∷ eqb (frame_start book (count_of book) i) start
    ∷ eqb (frame_start book (count_of book) (i + 1)) (start + 32)
    ∷ []

unfoldable stuck_tests : ℕ → List ℕ → List Bool
stuck_tests bit frame =
    leb bit 1
    ∷ eqb (length frame) 32
    ∷ eqb (sent_bit frame 255) 0
    ∷ leb (distance (word_of frame) (replicate 255 bit)) 23
    ∷ []

-- the checks come to the refusal with this number
unfoldable refuses : Outcome → ℕ → Bool
refuses (Ok u) number = false
refuses (Err r) number = eqb (number_of r) number

unfoldable test : Case → Bool
test (sent m t message word) = all (sent_tests m t message word)
test (mended m t received places word) = all (mended_tests m t received places word)
test (far m t received) = all (far_tests m t received)
test (told_edit m t word start stretch told) = tells_as (code_verdict m t (edit_checks word start stretch)) told
test (told_splice m t start stretch told) = tells_as (code_verdict m t (splice_checks (zeros_of m t) start stretch)) told
test (part_at book i start) = all (part_tests book i start)
test (no_part book i number) = refuses (verdict (find_checks book i)) number
test (no_frame frame number) = refuses (verdict (frame_checks frame)) number
test (stuck_line bit frame) = all (stuck_tests bit frame)
test (summed m received sums) = has_sums m (bits_at (n_of m) received) sums

-- what the tests tell

same_list_lem : (xs ys : List ℕ) → T (same_list xs ys) → xs ≡ ys
unfolding same_list
same_list_lem [] [] t = refl
same_list_lem [] (y ∷ ys) t = absurd t
same_list_lem (x ∷ xs) [] t = absurd t
same_list_lem (x ∷ xs) (y ∷ ys) t =
    ap₂ (λ (z : ℕ) (zs : List ℕ). z ∷ zs) (eqb→eq x y (both_left (eqb x y) (same_list xs ys) t))
    (same_list_lem xs ys (both_right (eqb x y) (same_list xs ys) t))

-- the test f passes below n
below_passed : (f : ℕ → Bool) (n : ℕ) → T (passes f 0 n) → (i : ℕ) → i < n → T (f i)
below_passed f n t i h = passed_at f 0 n t i (omega arith) (omega arith)

code_word : {m : ℕ} (t : ℕ) → IsField m → (ps : List ℕ) → T (is_code_word m t (bits_at (n_of m) ps)) → CodeWord m t (bits_at (n_of m) ps)
unfolding is_code_word
code_word {m} t L ps z =
    let word : List ℕ = bits_at (n_of m) ps in
    record {
      long = bits_at_long (n_of m) ps;
      bits = bits_at_bits (n_of m) ps;
      sums =
          odd_sums L word (bits_at_bits (n_of m) ps) t
          (λ i h. eqb→eq (sum_of m (2 * i + 1) word) 0 (below_passed (λ j. eqb (sum_of m (2 * j + 1) word) 0) t z i h));
    }

done_is : (v : Outcome) → T (is_done v) → v ≡ Ok tt
unfolding is_done
done_is (Ok u) t = refl
done_is (Err r) t = absurd t

same_told : {x y : Told} → x.number ≡ y.number → x.buffer ≡ y.buffer → x.place ≡ y.place → x ≡ y
same_told {x} {y} n b p = ap₂ (of x.number) b p ∙ ap (λ (k : ℕ). of k y.buffer y.place) n
  where
    of : ℕ → ℕ → ℕ → Told
    of number buffer place = record { number = number; buffer = buffer; place = place }

tells_is : (v : Outcome) (told : Told) → T (tells_as v told) → outcome_told v ≡ told
unfolding tells_as
tells_is v told t =
    let number : Bool = eqb (outcome_told v).number told.number in
    let buffer : Bool = eqb (outcome_told v).buffer told.buffer in
    let place : Bool = eqb (outcome_told v).place told.place in
    let rest = both_right number (both buffer place) t in
    same_told (eqb→eq _ _ (both_left number (both buffer place) t)) (eqb→eq _ _ (both_left buffer place rest)) (eqb→eq _ _ (both_right buffer place rest))

-- the checks look at the lengths of the lent buffers only
encode_lent : (m t : ℕ) (message lent lent' : List ℕ) → length lent ≡ length lent'
    → code_verdict m t (encode_checks message lent) ≡ code_verdict m t (encode_checks message lent')
encode_lent m t message lent lent' e = rw e refl

decode_lent : (m t : ℕ) (received word list word' list' : List ℕ) → length word ≡ length word' → length list ≡ length list'
    → code_verdict m t (decode_checks received word list) ≡ code_verdict m t (decode_checks received word' list')
decode_lent m t received word list word' list' e l = rw (e, l) refl

lent_passes : (m t : ℕ) (received word lentWord lentList : List ℕ) → length lentWord ≡ n_of m → length lentList ≡ t → T (checks_pass m t received word)
    → code_verdict m t (decode_checks received lentWord lentList) ≡ Ok tt
unfolding checks_pass
lent_passes m t received word lentWord lentList k l a =
    decode_lent m t received lentWord lentList (bits_at (n_of m) word) (replicate t 0) (k ∙ sym (bits_at_long (n_of m) word))
    (l ∙ sym (length-replicate {A = ℕ} t 0)) ∙ done_is _ a

sent_holds : (m t : ℕ) (message word : List ℕ) → All (sent_tests m t message word) → Holds (sent m t message word)
unfolding sent_tests
sent_holds m t message word (also a (also b (also c done))) lent left x l p = encode_one p (record { promise = does z (always E) })
  where
    bits : List ℕ
    bits = bits_at (k_of m t) message

    z : code_verdict m t (encode_checks bits lent) ≡ Ok tt
    z = encode_lent m t bits lent (bits_at (n_of m) word) (l ∙ sym (bits_at_long (n_of m) word)) ∙ done_is _ a

    E : Encoding m t (k_of m t) bits (bits_at (n_of m) word)
    E =
        record {
          code_word = code_word t (past m t (encode_checks bits lent (code_of m t)) z).known.of_m.listed word b;
          carries = λ i h.
              eqb→eq _ _ (below_passed (λ j. eqb (get_or (bits_at (n_of m) word) (n_of m - k_of m t + j) 0) (get_or bits j 0)) (k_of m t) c i h);
        }

mended_holds : (m t : ℕ) (received places word : List ℕ) → All (mended_tests m t received places word) → Holds (mended m t received places word)
unfolding mended_tests
mended_holds m t received places word (also a (also b (also c (also d done)))) lentWord lentList left list x k l p = mended_is x given mends z p
  where
    came : List ℕ
    came = bits_at (n_of m) received

    z : code_verdict m t (decode_checks came lentWord lentList) ≡ Ok tt
    z = lent_passes m t came word lentWord lentList k l a

    differ : differences came (bits_at (n_of m) word) ≡ places
    differ = same_list_lem (differences came (bits_at (n_of m) word)) places c

    given : Mended
    given = record { wrong = length places; word = bits_at (n_of m) word; list = places ++ replicate (t - length places) 0 }

    mends : Mends m t t came given
    mends =
        record {
          code_word = code_word t (past m t (decode_checks came lentWord lentList (code_of m t)) z).known.of_m.listed word b;
          counts = distance-length came (bits_at (n_of m) word) ∙ ap length differ;
          within = leb→le (length places) t d;
          lists = ap (λ (ps : List ℕ). ps ++ replicate (t - length places) 0) (sym differ);
        }

far_holds : (m t : ℕ) (received : List ℕ) → All (far_tests m t received) → Holds (far m t received)
unfolding far_tests
far_holds m t received (also a (also b done)) lentWord lentList left list x k l p =
    decode_one x nothing_near p (record { promise = does z (finds_nothing refl nothing refl) })
  where
    came : List ℕ
    came = bits_at (n_of m) received

    f : ℕ → ℕ
    f i = sum_of m (2 * i + 1) came

    z : code_verdict m t (decode_checks came lentWord lentList) ≡ Ok tt
    z = lent_passes m t came received lentWord lentList k l a

    nothing : Far m t t came
    nothing c C h =
        let L = (past m t (decode_checks came lentWord lentList (code_of m t)) z).known.of_m.listed in
        nothing_located (length_list t f) b (differences came c)
        (near_located L (bits_at_bits (n_of m) received) (bits_at_long (n_of m) received) (list_at t f) c C h)

summed_holds : (m : ℕ) (received sums : List ℕ) → T (has_sums m (bits_at (n_of m) received) sums) → Holds (summed m received sums)
unfolding has_sums
summed_holds m received sums t i h =
    eqb→eq _ _ (below_passed (λ j. eqb (sum_of m (2 * j + 1) (bits_at (n_of m) received)) (get_or sums j 0)) (length sums) t i h)

part_holds : (book : List ℕ) (i start : ℕ) → All (part_tests book i start) → Holds (part_at book i start)
unfolding part_tests
part_holds book i start (also a (also b (also c done))) x p =
    let d = p.done (done_is _ a) in
    (d.is_done, d.did.starts ∙ eqb→eq _ _ b, d.did.ends ∙ eqb→eq _ _ c)

-- checks that refuse with a number come to a refusal that has it
refusal_with : (o : Outcome) (number : ℕ) → T (refuses o number) → (r : Refusal) × (o ≡ Err r) × (number_of r ≡ number)
unfolding refuses
refusal_with (Ok u) number t = absurd t
refusal_with (Err r) number t = (r, refl, eqb→eq (number_of r) number t)

none_holds : (book : List ℕ) (i number : ℕ) → T (refuses (verdict (find_checks book i)) number) → Holds (no_part book i number)
none_holds book i number t x p =
    let (r, e, n) = refusal_with (verdict (find_checks book i)) number t in
    let (o, s) = p.refused r e in
    (ap outcome_number o ∙ n, ap (λ (s : Span). s.from) s, ap (λ (s : Span). s.to) s)

no_frame_holds : (frame : List ℕ) (number : ℕ) → T (refuses (verdict (frame_checks frame)) number) → Unread frame number
no_frame_holds frame number t x p =
    let (r, e, n) = refusal_with (verdict (frame_checks frame)) number t in
    let (o, s) = p.refused r e in
    (ap outcome_number o ∙ n, s)

stuck_holds : (bit : ℕ) (frame : List ℕ) → All (stuck_tests bit frame) → Unread frame 11
unfolding stuck_tests
stuck_holds bit frame (also a (also b (also c (also d done)))) x p =
    let refused : outcome_of x ≡ Err LeadBits = rw (eqb→eq (sent_bit frame 255) 0 c) at (stuck_refused frame x (either bit (leb→le bit 1 a) d) p) in
    (ap outcome_number refused, read_stays frame x p (λ e. absurd (not_done (sym refused ∙ e))))
  where
    stuck : (v : ℕ) → T (leb (distance (word_of frame) (replicate 255 v)) 23) → StuckAt v frame
    stuck v t = record { long = eqb→eq (length frame) 32 b; changed = leb→le (distance (word_of frame) (replicate 255 v)) 23 t }

    either : (v : ℕ) → v ≤ 1 → T (leb (distance (word_of frame) (replicate 255 v)) 23) → StuckAt 0 frame ⊎ StuckAt 1 frame
    either zero l t = inl (stuck 0 t)
    either (suc zero) l t = inr (stuck 1 t)
    either (suc (suc v)) l t = absurd (omega arith)

holds : (c : Case) → T (test c) → Holds c
unfolding test
holds (sent m t message word) b = sent_holds m t message word (all_passed (sent_tests m t message word) b)
holds (mended m t received places word) b = mended_holds m t received places word (all_passed (mended_tests m t received places word) b)
holds (far m t received) b = far_holds m t received (all_passed (far_tests m t received) b)
holds (told_edit m t word start stretch told) b = λ left x p. ap outcome_told (answer_is p.promise) ∙ tells_is _ told b
holds (told_splice m t start stretch told) b = λ x p. ap outcome_told (answer_is p.promise) ∙ tells_is _ told b
holds (part_at book i start) b = part_holds book i start (all_passed (part_tests book i start) b)
holds (no_part book i number) b = none_holds book i number b
holds (no_frame frame number) b = no_frame_holds frame number b
holds (stuck_line bit frame) b = stuck_holds bit frame (all_passed (stuck_tests bit frame) b)
holds (summed m received sums) b = summed_holds m received sums b

-- the table

unfoldable tests : List Case → Bool
tests [] = true
tests (c ∷ cs) = both (test c) (tests cs)

tested : T (tests cases)
unfolding tests cases test sent_tests mended_tests far_tests part_tests stuck_tests refuses checks_pass is_done tells_as is_code_word has_sums same_list
    bits_at no_set zeroes
    plus_place has_mark number_at lacks_trailer size_is_wrong sent_bit place_bit word_of distance list_of is_listed
    row_of row_from k_of first firsts ks ts listed_codes first_above flip flipped differences differences_from sum_of sum_from power ◌⊗⟨◌⟩◌ remainder
    carryless horner digits shifted polynomial polynomials ◌⊕◌ some_at_least
tested = tt

each : (cs : List Case) → T (tests cs) → (c : Case) → Memᴰ c cs → Holds c
unfolding tests
each [] b c k = absurd (Memᴰ.not-nil k)
each (d ∷ cs) b c (Memᴰ.head e) = holds c (subst (λ (x : Case). T (test x)) (sym e) (both_left (test d) (tests cs) b))
each (d ∷ cs) b c (Memᴰ.tail k) = each cs (both_right (test d) (tests cs) b) c k

-- every case of the table holds
pub all_hold : (c : Case) → Memᴰ c cases → Holds c
all_hold = each cases tested
