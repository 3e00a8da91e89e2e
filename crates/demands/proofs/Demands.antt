-- The three demands, as theorems over the promises, each under its sentence. Their words are in specs/Words.
use mathlib.Core.Path.{◌≡◌, ◌∙◌, ap, ap₂}
use mathlib.Core.List.{List, [], ◌++◌}
use mathlib.Core.Logic.{◌≢◌, ◌↔◌, ◌⊎◌}
use Prim.Native.Nat.{ℕ, ◌+◌, ◌/◌, ◌%◌, ◌≤◌}
use lib.ListN.{length, get_or, replicate}
use Rattle.std.specs.Result.{result_unwrap_or}
use Rattle.std.specs.Prelude.{Result, Ok, Err}
use Rattle.sheet.specs.declared.Refusal.{Refusal}
use Rattle.sheet.specs.declared.Refusal.TheVariants.{NothingNear}
use Rattle.sheet.specs.Number.{Outcome, outcome_of}
use Rattle.sheet.specs.Number.{outcome_told, number_of}
use Rattle.sheet.specs.Verdict.{verdict}
use Rattle.sheet.proofs.NumberLaws.{number_tells, outcome_tells}
use Rattle.sheet.proofs.VerdictLaws.{answer_is, refused_stays, always_stays}
use Rattle.bits.specs.Bits.{AreBits}
use Rattle.bits.specs.Differences.{distance}
use Rattle.field.specs.Product.{IsField}
use Rattle.field.specs.Power.{n_of}
use Rattle.codes.specs.Rule.{Rule}
use Rattle.codes.specs.Look.{k_of, code_of, code_checks, code_verdict}
use Rattle.codes.specs.Sums.{CodeWord}
use Rattle.codes.specs.Encoding.{Encoding}
use Rattle.generator.specs.Minimal.{Minimal}
use Rattle.generator.proofs.MinimalLaws.{minimal_is, minimal_one}
use Rattle.codec.specs.declared.describing.Described.{Described}
use Rattle.codec.specs.Sizes.{GivesSizes, sizes_given}
use Rattle.codec.specs.Describe.{Describes}
use Rattle.codec.specs.Encode.{Encodes}
use Rattle.codec.specs.Edit.{Edits}
use Rattle.decode.specs.Decode.{Decodes, Far, decode_checks}
use Rattle.kept.specs.declared.Kept.{Kept}
use Rattle.kept.specs.Record.{zero_kept}
use Rattle.kept.specs.Open.{Opens}
use Rattle.splice.specs.Splice.{Splices}
use Rattle.decode_kept.specs.DecodeKept.{DecodesKept, NoSet, decode_kept_checks}
use Rattle.layout.specs.declared.message.Reading.{Reading}
use Rattle.layout.specs.Frame.{sent_bit, word_of, Lawful}
use Rattle.frame.specs.declared.reading.ReadFrame.{ReadFrame}
use Rattle.frame.specs.Make.{Makes}
use Rattle.frame.specs.Read.{Reads, frame_checks}
use Rattle.book.specs.declared.reading.Found.{Found}
use Rattle.book.specs.Book.{IsBook, AreBytes}
use Rattle.book.specs.Read.{Looks, Finds}
use Rattle.book.specs.Write.{WritesBook}
use Rattle.line.specs.Line.{refused_line}
use Rattle.lister.specs.Listing.{LineOf, Lines, Lists, Steps, frames_of, ListsBook}
use Rattle.maker.specs.Making.{all_lines, GiveAll}
use Rattle.demands.specs.Words.{OneOutcome, NeverStruck, TellsWhich, NeverBadBit, OneCondition, RefusedStays, RefusedAs, NeverLookedAt}
use Rattle.demands.specs.Words.{Numbered, GaloisField, Divides, LeastCommonMultiple, Received, PassesAgain}
use Rattle.demands.specs.Words.{After, resulting, Elsewhere, edited_message, OnlyStretch}
use Rattle.demands.specs.Words.{read_as, StuckAt, pad_or_lead, CarriedHome, joined, EndsShort, MakingRun}
use Rattle.demands.proofs.TheCode.{checks_by_rule, k_by_rule, codes_in_number, sizes_by_rule, sizes_n, sizes_as_described, the_field, all_ones}
use Rattle.demands.proofs.TheCode.{generator_is_lcm, lcm_is_generator, code_by_generator}
use Rattle.demands.proofs.OneOutcome.{sizes_one, describe_one, encode_one, encode_sends}
use Rattle.demands.proofs.Near.{decode_one, decode_received}
use Rattle.demands.proofs.EditOutcome.{edit_one, edit_encodes, edit_as_encoded, edit_only}
use Rattle.demands.proofs.KeptOutcome.{open_one, splice_one, decode_kept_one, splice_refused, splice_only}
use Rattle.demands.proofs.Demand3.{kept_as_opened, kept_as_decoded, whole_splice}
use Rattle.demands.proofs.FrameOutcome.{make_one, read_one, changed_reads_back}
use Rattle.demands.proofs.BookOutcome.{look_one, find_one, read_book_one, write_book_one, list_book_one, book_exactly, book_carried}
use Rattle.demands.proofs.BookOutcome.{home_listed, find_behind}
use Rattle.demands.proofs.ListingOutcome.{listing_one, lists_one, lines_so_far, pieces_listed, short_frame}
use Rattle.demands.proofs.TypedOutcome.{typed_one}
use Rattle.demands.proofs.MakingOutcome.{give_all_one, run_gives}
use Rattle.demands.proofs.Exactly.{decode_refused, decode_nothing, decode_kept_refused, decode_kept_nothing, read_refused, read_nothing}
use Rattle.demands.proofs.StuckLine.{stuck_refused, stuck_listed}
use Rattle.demands.proofs.Struck.{never_answered, mended_again}
use Rattle.demands.proofs.BadBit.{tells_which, never_bad_bit}
use Rattle.demands.proofs.Stays.{sizes_stays, describe_stays, decode_stays, decode_kept_stays, read_stays}
use Rattle.demands.proofs.RefusedAs.{refused_as}
use Rattle.demands.proofs.Lent.{describe_lent, encode_lent, decode_lent, decode_kept_lent, make_lent, write_book_lent}

pair : {A B : Type 0} {a a' : A} {b b' : B} → (a ≡ a') × (b ≡ b') → ◌≡◌ {A = A × B} (a, b) (a', b')
pair (e, f) = ap₂ (λ x y. (x, y)) e f

triple : {A B C : Type 0} {a a' : A} {b b' : B} {c c' : C} → (a ≡ a') × (b ≡ b') × (c ≡ c') → ◌≡◌ {A = A × B × C} (a, b, c) (a', b', c')
triple {a' = a'} {b' = b'} {c = c} (e, f, g) = ap₂ (λ x y. (x, y, c)) e f ∙ ap (λ z. (a', b', z)) g

-- docs/SCOPE.md 9: "Every operation ends and answers for every input and checks its input itself." That it ends, and that nothing is asked of its input, is the
-- language's: no operation has a requires. Its promise leaves one outcome: the answer and every place of every buffer, refusals too.
pub demand_1 : OneOutcome
demand_1 =
    record {
      sizes = λ m t x y p q. sizes_one x y p q;
      describe = λ m t lent x y p q. pair (describe_one x.0 y.0 p q);
      encode = λ m t message lent x y p q. pair (encode_one p q);
      decode = λ m t received lentWord lentList x y p q. triple (decode_one x.0 y.0 p q);
      edit = λ m t lent start stretch x y p q. pair (edit_one p q);
      opening = λ m t word x y p q. open_one x y p q;
      splice = λ stored start stretch x y p q. splice_one x y p q;
      decode_kept = λ stored lentWord lentList x y p q. triple (decode_kept_one x.0 y.0 p q);
      make_frame = λ reading lent x y p q. pair (make_one p q);
      read_frame = λ frame x y p q. read_one frame x y p q;
      look_at_book = λ book x y p q. look_one book x y p q;
      find_frame = λ book i x y p q. find_one book i x y p q;
      read_book = λ book r s i p q. read_book_one p q;
      write_book = λ frames lent x y p q. pair (write_book_one p q);
      list_frames = λ first bytes lent x y p q. pair (lists_one p q);
      list_book = λ book lent x y p q. pair (list_book_one p q);
      read_line = λ line x y p q. typed_one line x y p q;
    }

-- docs/SCOPE.md 9: "Each refusal has one number and one condition;"
pub demand_1_numbers : {r s : Refusal} → number_of r ≡ number_of s → number_of r ≢ 5 → r ≡ s
demand_1_numbers e n = number_tells e n

-- With 5 stand a buffer and a place, and then the three tell it: no two outcomes are told alike.
pub demand_1_told : (x y : Outcome) → outcome_told x ≡ outcome_told y → x ≡ y
demand_1_told x y e = outcome_tells x y e

-- docs/SCOPE.md 5.1: "With 5 come a buffer and the first place in it, as it was lent, that holds more than 1."
pub demand_1_which : TellsWhich
demand_1_which = tells_which

-- Under the other C names nothing is answered there, since 5 never comes.
pub demand_1_only : NeverBadBit
demand_1_only = never_bad_bit

-- docs/SCOPE.md 5.1: "8 is struck: no refusal has this number, and none will get it again." Under no C name is it answered.
pub demand_1_struck : NeverStruck
demand_1_struck = never_answered

pub demand_1_conditions : OneCondition
demand_1_conditions =
    record {
      sizes = λ x p. answer_is p.promise;
      describe = λ x p. answer_is p.promise;
      encode = λ p. answer_is p.promise;
      decode = λ x p r. decode_refused x p r;
      edit = λ p. answer_is p.promise;
      opening = λ x p. answer_is p.promise;
      splice = λ x p. answer_is p.promise;
      decode_kept = λ x p r. decode_kept_refused x p r;
      make_frame = λ p. answer_is p;
      read_frame = λ frame x p r. read_refused frame x p r;
      look_at_book = λ book x p. answer_is p;
      read_book = λ book i x p. answer_is p;
      write_book = λ p. answer_is p;
    }

-- docs/SCOPE.md 9: "what it returns and what stays in each lent buffer is written down." A refusal leaves everything, and what an output buffer
-- held before is never looked at.
pub demand_1_refused : RefusedStays
demand_1_refused =
    record {
      sizes = λ x p n. sizes_stays x p n;
      describe = λ x p n. describe_stays x p n;
      encode = λ p n. refused_stays (λ a z. always_stays a z) p.promise n;
      decode = λ x p n. decode_stays x p n;
      edit = λ p n. refused_stays (λ a z. always_stays a z) p.promise n;
      opening = λ x p n. refused_stays (λ a z. always_stays a z) p.promise n;
      splice = λ x p n. splice_refused x n p;
      decode_kept = λ x p n. decode_kept_stays x p n;
      make_frame = λ p n. refused_stays (λ a z. always_stays a z) p n;
      read_frame = λ frame x p n. read_stays frame x p n;
      look_at_book = λ book x p n. refused_stays (λ a z. always_stays a z) p n;
      read_book = λ book i x p n. refused_stays (λ a z. always_stays a z) p n;
      write_book = λ p n. refused_stays (λ a z. always_stays a z) p n;
    }

-- Under the C names too, where what comes back is a struct with every value in it.
pub demand_1_refused_as : RefusedAs
demand_1_refused_as = refused_as demand_1_refused

pub demand_1_lent : NeverLookedAt
demand_1_lent =
    record {
      describe = λ x y same p q. describe_lent x y same p q;
      encode = λ same p q. encode_lent same p q;
      decode = λ x y same same_list_lem p q. decode_lent x y same same_list_lem p q;
      decode_kept = λ x y same same_list_lem p q. decode_kept_lent x y same same_list_lem p q;
      make_frame = λ same p q. make_lent same p q;
      write_book = λ same p q. write_book_lent same p q;
    }

-- docs/SCOPE.md 9: "The code is the binary narrow-sense BCH code, fields of 8 to 1,024 elements, the 232 listed codes." Checks 1 and 2 pass exactly for
-- these: m is from 3 to 10 and the rule holds of t with some k, and that k is the one of every promise.
pub demand_2_listed : (m t : ℕ) → (verdict (code_checks m t []) ≡ Ok tt) ↔ (IsField m × ((k : ℕ) × Rule m k t))
demand_2_listed m t = checks_by_rule m t

pub demand_2_k : {m t k : ℕ} → IsField m → Rule m k t → k ≡ (code_of m t).k
demand_2_k L R = k_by_rule L R

pub demand_2_number : Numbered (λ (m t : ℕ). verdict (code_checks m t []) ≡ Ok tt) 232
demand_2_number = codes_in_number

-- Sizes tells them: it is done and gives k exactly if the rule holds, n is 2^m - 1, and Describe answers the same.
pub demand_2_sizes : {m t : ℕ} (x : Result Described Refusal) → GivesSizes m t x → (k : ℕ)
    → ((outcome_of x ≡ Ok tt) × ((sizes_given x).k ≡ k)) ↔ (IsField m × Rule m k t)
demand_2_sizes x p k = sizes_by_rule x p k

pub demand_2_n : {m t : ℕ} (x : Result Described Refusal) → GivesSizes m t x → outcome_of x ≡ Ok tt → (sizes_given x).n ≡ n_of m
demand_2_n x p e = sizes_n x p e

pub demand_2_described : {m t : ℕ} {lent left : List ℕ} (x y : Result Described Refusal) → GivesSizes m t x → Describes m t lent y left
    → outcome_of y ≡ Ok tt → x ≡ y
demand_2_described x y p q e = sizes_as_described x y p q e

-- The field has 2^m elements, every nonzero one has its inverse, and a has order n and no smaller one.
pub demand_2_field : {m : ℕ} → IsField m → GaloisField m
demand_2_field L = the_field L

-- The generator is the least common multiple of the minimal polynomials of a, a^3, .. a^(2t-1); there is one minimal polynomial for each power of a.
pub demand_2_generator : {m t : ℕ} {lent left : List ℕ} (x : Result Described Refusal) → Describes m t lent x left → outcome_of x ≡ Ok tt
    → LeastCommonMultiple m t left
demand_2_generator x p e = generator_is_lcm x p e

pub demand_2_only_generator : {m t : ℕ} {lent left : List ℕ} (x : Result Described Refusal) → Describes m t lent x left → outcome_of x ≡ Ok tt
    → (h : List ℕ) → LeastCommonMultiple m t h → (i : ℕ) → get_or h i 0 ≡ get_or left i 0
demand_2_only_generator x p e h H = lcm_is_generator x p e h H

pub demand_2_minimal : {m i d e : ℕ} {p q : List ℕ} → IsField m → Minimal m i d p → Minimal m i e q → (d ≡ e) × (p ≡ q)
demand_2_minimal L M N = minimal_one L M N

pub demand_2_minimals : {m : ℕ} → IsField m → (i : ℕ) → (d : ℕ) × (p : List ℕ) × Minimal m i d p
demand_2_minimals L i = minimal_is L i

-- The code words are the words of n bits that the generator divides, and the word of all ones is one of them.
pub demand_2_multiples : {m t : ℕ} {lent left : List ℕ} (x : Result Described Refusal) → Describes m t lent x left → outcome_of x ≡ Ok tt
    → (c : List ℕ) → CodeWord m t c ↔ ((length c ≡ n_of m) × AreBits c × Divides left c)
demand_2_multiples x p e c = code_by_generator x p e c

pub demand_2_all_ones : {m t : ℕ} → verdict (code_checks m t []) ≡ Ok tt → CodeWord m t (replicate (n_of m) 1)
demand_2_all_ones e = all_ones e

-- docs/SCOPE.md 9: "Sending gives the one code word that carries the message in its top places."
pub demand_2_sending : {m t : ℕ} {message lent left : List ℕ} {x : Outcome} → Encodes m t message lent x left → x ≡ Ok tt
    → Encoding m t (k_of m t) message left × ((c : List ℕ) → Encoding m t (k_of m t) message c → c ≡ left)
demand_2_sending p e = encode_sends p e

-- docs/SCOPE.md 9: "Receiving gives the code word within t changed bits of what came in, with those places listed upward,"
pub demand_2_receiving : {m t : ℕ} {received lentWord lentList word list : List ℕ} (x : Result ℕ Refusal) → Decodes m t received lentWord lentList x word list
    → outcome_of x ≡ Ok tt → Received m t received (result_unwrap_or x 0) word list
demand_2_receiving x p e = decode_received x p e

-- docs/SCOPE.md 9: "and refuses for want of one exactly when there is none." Decode, Decode kept, and reading a frame.
pub demand_2_refusing : {m t : ℕ} {received lentWord lentList word list : List ℕ} (x : Result ℕ Refusal) → Decodes m t received lentWord lentList x word list
    → (outcome_of x ≡ Err NothingNear) ↔ ((code_verdict m t (decode_checks received lentWord lentList) ≡ Ok tt) × Far m t t received)
demand_2_refusing x p = decode_nothing x p

pub demand_2_refusing_kept : {stored : Kept} {lentWord lentList word list : List ℕ} (x : Result ℕ Refusal) → DecodesKept stored lentWord lentList x word list
    → (outcome_of x ≡ Err NothingNear)
    ↔ ((code_verdict stored.m stored.t (decode_kept_checks stored lentWord lentList) ≡ Ok tt) × NoSet (code_of stored.m stored.t) stored)
demand_2_refusing_kept x p = decode_kept_nothing x p

pub demand_2_refusing_frame : (frame : List ℕ) (x : Result ReadFrame Refusal) → Reads frame x
    → (outcome_of x ≡ Err NothingNear) ↔ ((verdict (frame_checks frame) ≡ Ok tt) × Far 8 23 23 (word_of frame))
demand_2_refusing_frame frame x p = read_nothing frame x p

-- docs/SCOPE.md 5.1: "A mended word always passes this check."
pub demand_2_mended : {m t : ℕ} {received lentWord lentList word list : List ℕ} (x : Result ℕ Refusal) → Decodes m t received lentWord lentList x word list
    → outcome_of x ≡ Ok tt → PassesAgain m t word
demand_2_mended x p e = mended_again x p e

-- docs/SCOPE.md 9: "After an accepted Open and any list of splices, refused ones among them, decoding what is kept answers as 2 does for the
-- resulting bits taken afresh;" the record is the very one that Open gives for these bits.
pub demand_3_record : {m t : ℕ} {word : List ℕ} (x y : Result Kept Refusal) {stored : Kept} (splices : List (ℕ × List ℕ)) → Opens m t word x
    → outcome_of x ≡ Ok tt
    → After (result_unwrap_or x zero_kept) splices stored → Opens m t (resulting word splices) y
    → (outcome_of y ≡ Ok tt) × (stored ≡ result_unwrap_or y zero_kept)
demand_3_record x y splices o e a q = kept_as_opened x splices o e a y q

pub demand_3_keeping : {m t : ℕ} {word lentWord lentList word₁ list₁ word₂ list₂ : List ℕ} (x : Result Kept Refusal) {stored : Kept} (y z : Result ℕ Refusal)
    (splices : List (ℕ × List ℕ)) → Opens m t word x → outcome_of x ≡ Ok tt → After (result_unwrap_or x zero_kept) splices stored
    → DecodesKept stored lentWord lentList y word₁ list₁ → Decodes m t (resulting word splices) lentWord lentList z word₂ list₂
    → (y ≡ z) × (word₁ ≡ word₂) × (list₁ ≡ list₂)
demand_3_keeping x y z splices o e a p q = kept_as_decoded x splices o e a y z p q

-- docs/SCOPE.md 9: "an accepted splice changes only what it names and the sums, a refused one nothing."
pub demand_3_splicing : {stored : Kept} {start : ℕ} {stretch : List ℕ} (x : Result Kept Refusal) → Splices stored start stretch x
    → Elsewhere stored start (start + length stretch) (result_unwrap_or x stored)
demand_3_splicing x p = splice_only x p

pub demand_3_refused : {stored : Kept} {start : ℕ} {stretch : List ℕ} (x : Result Kept Refusal) → Splices stored start stretch x → outcome_of x ≢ Ok tt
    → result_unwrap_or x stored ≡ stored
demand_3_refused x p n = splice_refused x n p

-- The whole word spliced in, after any splices, is that word opened afresh.
pub demand_3_whole : {m t : ℕ} {word stretch : List ℕ} (x y z : Result Kept Refusal) {stored : Kept} (splices : List (ℕ × List ℕ)) → Opens m t word x
    → outcome_of x ≡ Ok tt → After (result_unwrap_or x zero_kept) splices stored → Splices stored 0 stretch y → Opens m t stretch z → outcome_of z ≡ Ok tt
    → y ≡ z
demand_3_whole x y z splices o e a p q f = whole_splice x splices o e a y z p q f

-- docs/SCOPE.md 9: "A sent word whose message is edited becomes the encoding of the edited message;" which is what an accepted Encode of that message
-- leaves in its buffer,
pub demand_3_editing : {m t start : ℕ} {lent stretch left : List ℕ} {x : Outcome} → CodeWord m t lent → Edits m t lent start stretch x left → x ≡ Ok tt
    → Encoding m t (k_of m t) (edited_message m t lent start stretch) left
demand_3_editing C p e = edit_encodes C p e

pub demand_3_encoded : {m t start : ℕ} {lent stretch left lent' left' : List ℕ} {x y : Outcome} → CodeWord m t lent → Edits m t lent start stretch x left
    → x ≡ Ok tt → Encodes m t (edited_message m t lent start stretch) lent' y left' → y ≡ Ok tt → left ≡ left'
demand_3_encoded C p e q f = edit_as_encoded C p e q f

-- docs/SCOPE.md 9: "only the stretch and the parity change."
pub demand_3_only : {m t start : ℕ} {lent stretch left : List ℕ} {x : Outcome} → Edits m t lent start stretch x left
    → OnlyStretch m t lent start (start + length stretch) left
demand_3_only p = edit_only p

-- docs/SCOPE.md 6.2: "What is made reads back as it was made, also with up to 23 changed bits." The changed ones are counted.
pub frame_home : {reading : Reading} {lent made : List ℕ} (received : List ℕ) {e : ℕ} (x : Result ReadFrame Refusal) → Lawful reading
    → Makes reading lent (Ok tt) made
    → length received ≡ 32 → sent_bit received 255 ≡ 0 → distance (word_of made) (word_of received) ≡ e → e ≤ 23 → Reads received x → x ≡ read_as reading e
frame_home received x L p l pad d few r = changed_reads_back received x L p l pad d few r

-- docs/SCOPE.md 6.2: "A line stuck at zero or at one, with up to 23 changed bits, is refused: by 10 if its pad is 1, else by 11."
pub frame_stuck : (frame : List ℕ) (x : Result ReadFrame Refusal) → StuckAt 0 frame ⊎ StuckAt 1 frame → Reads frame x → outcome_of x ≡ Err (pad_or_lead frame)
frame_stuck frame x s p = stuck_refused frame x s p

-- The listing says so of it.
pub frame_stuck_line : (frame : List ℕ) {number : ℕ} {line : List ℕ} → StuckAt 0 frame ⊎ StuckAt 1 frame → LineOf number frame line
    → line ≡ refused_line number (pad_or_lead frame)
frame_stuck_line frame s p = stuck_listed frame s p

-- docs/SCOPE.md 6.3: "The trailer is always the last 16 bytes, and other bytes may stand before the first frame." Looking at bytes is done and gives a count
-- exactly if they are a book of so many frames.
pub book_looked : (book : List ℕ) (x : Result ℕ Refusal) (count : ℕ) → AreBytes book → Looks book x
    → ((outcome_of x ≡ Ok tt) × (result_unwrap_or x 0 ≡ count)) ↔ IsBook book count
book_looked book x count b p = book_exactly book x count b p

-- docs/SCOPE.md 6.3: "What the writer makes from a list of frames, the reader gives back frame for frame," also with other bytes in front.
pub book_home : {frames lent book : List ℕ} {x : Outcome} → WritesBook frames lent x book → x ≡ Ok tt → (front : List ℕ) → CarriedHome frames front book
book_home p e front = book_carried p e front

-- What stands before the frames is not looked at: other bytes there, as many, give the same answer.
pub book_before : (front front' rest : List ℕ) {i : ℕ} (x y : Result Found Refusal) → length front ≡ length front' → 16 ≤ length rest
    → Finds (front ++ rest) i x
    → Finds (front' ++ rest) i y → x ≡ y
book_before front front' rest x y e h p q = find_behind front front' rest x y e h p q

-- Its listing is that of the frames themselves.
pub book_lines : {frames lent book room left : List ℕ} {x : Outcome} {end : ℕ} → WritesBook frames lent x book → x ≡ Ok tt → (front : List ℕ)
    → ListsBook (front ++ book) room left end → Lists 1 frames room left end
book_lines p e front l = home_listed p e front l

-- The listing: before more is waited for, the lines of all frames that have come whole are written, in order and numbered from 1; at the end of the input
-- those of all frames, a short last one refused 9. It does not depend on the pieces in which the input comes.
pub listing_so_far : {pieces : List (List ℕ)} {text held : List ℕ} {listed : ℕ} → Steps pieces text listed held
    → Lines (joined pieces) 1 (length (joined pieces) / 32) text
listing_so_far s = lines_so_far s

pub listing_all : {pieces : List (List ℕ)} {text held last : List ℕ} {listed : ℕ} → Steps pieces text listed held
    → Lines held (listed + 1) (frames_of held) last → Lines (joined pieces) 1 (frames_of (joined pieces)) (text ++ last)
listing_all s p = pieces_listed s p

pub listing_short : {bytes text : List ℕ} {first : ℕ} → 1 ≤ length bytes % 32 → Lines bytes first (frames_of bytes) text → EndsShort bytes first text
listing_short h p = short_frame h p

pub listing_same : {bytes text text' : List ℕ} {first count : ℕ} → Lines bytes first count text → Lines bytes first count text' → text ≡ text'
listing_same p q = listing_one p q

-- The making: the frames and the names of all lines of the text, whatever the pieces in which it comes.
pub making_all : {pieces : List (List ℕ)} {frames names : List ℕ} → MakingRun pieces frames names → GiveAll 1 (all_lines (joined pieces)) frames names
making_all r = run_gives r

pub making_same : {number : ℕ} {lines : List (List ℕ)} {frames names frames' names' : List ℕ} → GiveAll number lines frames names
    → GiveAll number lines frames' names' → (frames ≡ frames') × (names ≡ names')
making_same p q = give_all_one p q
