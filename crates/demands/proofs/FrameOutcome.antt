-- Making and reading a frame leave one outcome, and a frame with at most 23 changed bits reads back as it was made.
use mathlib.Core.Path.{◌≡◌, ◌∙◌, sym, ap, ap₂, subst}
use mathlib.Core.Bool.{false}
use mathlib.Core.List.{List}
use Prim.Native.Nat.{ℕ, ◌+◌, ◌-◌, ◌*◌, ◌/◌, ◌%◌, ◌^◌, ◌≤◌, ◌<◌}
use native.Mathlib.Decide.{ℕ_discrete}
use native.Mathlib.Omega.{arith}
use lib.ListN.{length, get_or}
use lib.Seq.{ext_get_or}
use Rattle.std.specs.Prelude.{Result, Ok}
use Rattle.sheet.specs.declared.Refusal.{Refusal}
use Rattle.sheet.specs.Number.{Outcome, outcome_of}
use Rattle.sheet.proofs.VerdictLaws.{does, always, always_one, answer_is, promise_one}
use Rattle.bits.specs.Differences.{distance}
use Rattle.bits.proofs.DistanceLaws.{distance_comm, distance_self}
use Rattle.codes.specs.Sums.{CodeWord}
use Rattle.layout.specs.declared.message.Reading.{Reading}
use Rattle.layout.specs.Frame.{sent_bit, word_of, Lawful, lead, message_bit, lead_is_wrong, Carries}
use Rattle.layout.proofs.DigitLaws.{same_digits}
use Rattle.layout.proofs.SentLaws.{sent_shifted}
use Rattle.layout.proofs.PackLaws.{word_long, word_bits, word_at}
use Rattle.layout.proofs.MessageLaws.{message_counter, message_poll, message_house, message_lead, message_at}
use Rattle.layout.proofs.FieldLaws.{lead_right}
use Rattle.layout.proofs.ReadingLaws.{reading_tells}
use Rattle.frame.specs.declared.reading.ReadFrame.{ReadFrame}
use Rattle.frame.specs.Make.{Made, Makes}
use Rattle.frame.specs.Read.{Given, given_by, ReadsWord, ReadsReceived, near, far, Reads}
use Rattle.frame.proofs.CodeLaws.{listed}
use Rattle.frame.proofs.ReadLaws.{frame_passes}
use Rattle.line.specs.Line.{Writes}
use Rattle.demands.specs.Words.{read_as}
use Rattle.demands.proofs.OneOutcome.{same_answer}
use Rattle.demands.proofs.OneOutcome.{encoding_one}
use Rattle.demands.proofs.Near.{near_one}

-- making

-- the bits of two frames that hold the same word
module _ (frame other : List ℕ) (pad : sent_bit frame 255 ≡ sent_bit other 255) (word : word_of frame ≡ word_of other) where
  same_bit : (q : ℕ) → q < 256 → sent_bit frame q ≡ sent_bit other q
  same_bit q h = pick (ℕ_discrete q 255)
    where
      pick : Dec (q ≡ 255) → sent_bit frame q ≡ sent_bit other q
      pick (yes e) = rw e pad
      pick (no n) =
          let e : 254 - (254 - q) ≡ q = omega arith in
          let b = sym (word_at frame (254 - q) (omega arith)) ∙ ap (λ (w : List ℕ). get_or w (254 - q) 0) word ∙ word_at other (254 - q) (omega arith) in
          rw e at b

  same_byte : (b : ℕ) → b < 32 → get_or frame b 0 < 256 → get_or other b 0 < 256 → get_or frame b 0 ≡ get_or other b 0
  same_byte b h k l = same_digits 8 (get_or frame b 0) (get_or other b 0) k l digit
    where
      at : (xs : List ℕ) (i : ℕ) → i < 8 → get_or xs b 0 / 2 ^ i % 2 ≡ sent_bit xs (8 * b + (7 - i))
      at xs i m =
          let d : (8 * b + (7 - i)) / 8 ≡ b = omega arith in
          let e : 7 - (8 * b + (7 - i)) % 8 ≡ i = omega arith in
          sym (sent_shifted xs (8 * b + (7 - i)) ∙ ap₂ (λ (x y : ℕ). get_or xs x 0 / 2 ^ y % 2) d e)

      digit : (i : ℕ) → i < 8 → get_or frame b 0 / 2 ^ i % 2 ≡ get_or other b 0 / 2 ^ i % 2
      digit i m = at frame i m ∙ same_bit (8 * b + (7 - i)) (omega arith) ∙ sym (at other i m)

pub made_one : {reading : Reading} {frame other : List ℕ} → Made reading frame → Made reading other → frame ≡ other
made_one {reading} {frame} {other} p q =
    let w = encoding_one listed p.encodes q.encodes in
    ext_get_or 0 frame other (p.long ∙ sym q.long)
    (λ b h. let k : b < 32 = omega (arith, p.long) in same_byte frame other (p.pad ∙ sym q.pad) w b k (p.bytes b k) (q.bytes b k))

pub make_one : {reading : Reading} {lent left left' : List ℕ} {x y : Outcome} → Makes reading lent x left → Makes reading lent y left'
    → (x ≡ y) × (left ≡ left')
make_one p q = promise_one (λ z a b. always_one made_one a b) p q

-- reading

-- the message tells a lawful reading
module _ {a b : Reading} (A : Lawful a) (B : Lawful b) (same : (i : ℕ) → i < 99 → message_bit a i ≡ message_bit b i) where
  same_field : (field : Reading → ℕ) (from n : ℕ) → from + n ≤ 99 → field a < 2 ^ n → field b < 2 ^ n
      → ((r : Reading) (i : ℕ) → i < n → message_bit r (from + i) ≡ field r / 2 ^ (from + i - from) % 2) → field a ≡ field b
  same_field field from n fits h l at = same_digits n (field a) (field b) h l (λ i k. sym (digit a i k) ∙ same (from + i) (omega arith) ∙ digit b i k)
    where
      digit : (r : Reading) (i : ℕ) → i < n → message_bit r (from + i) ≡ field r / 2 ^ i % 2
      digit r i k =
          let e : from + i - from ≡ i = omega arith in
          at r i k ∙ ap (λ (x : ℕ). field r / 2 ^ x % 2) e

  same_house : a.house ≡ b.house
  same_house = same_field (λ r. r.house) 80 16 (omega arith) A.house B.house (λ r i h. message_house r (omega arith) (omega arith))

  same_poll : a.poll ≡ b.poll
  same_poll = same_field (λ r. r.poll) 64 16 (omega arith) A.poll B.poll (λ r i h. message_poll r (omega arith) (omega arith))

  same_counter : a.counter ≡ b.counter
  same_counter =
      same_digits 64 a.counter b.counter A.counter B.counter (λ i h. sym (message_counter a h) ∙ same i (omega arith) ∙ message_counter b h)

  same_reading : a ≡ b
  same_reading = reading_tells a b same_house same_poll same_counter

carried_one : {a b : Reading} {word : List ℕ} → Carries a word → Carries b word → a ≡ b
carried_one p q = same_reading p.lawful q.lawful (λ i h. sym (p.message i h) ∙ q.message i h)

given_same : {x y : Given} → x.reading ≡ y.reading → x.wrong ≡ y.wrong → x ≡ y
given_same a b = ap₂ (λ (r : Reading) (n : ℕ). record { reading = r; wrong = n }) a b

says_one : {word : List ℕ} {count : ℕ} {x y : Outcome} {given given' : Given} → ReadsWord word count x given → ReadsWord word count y given'
    → (x ≡ y) × (given ≡ given')
says_one p q =
    promise_one (λ z a b. always_one (λ v w. given_same (carried_one v.reading w.reading) (v.count ∙ sym w.count)) a b) p q

-- the answer is what any code word within 23 of the frame's word says
pub says_any : (frame : List ℕ) {x : Outcome} {given : Given} {word other : List ℕ} → CodeWord 8 23 word → distance (word_of frame) word ≤ 23
    → ReadsWord word (distance (word_of frame) word) x given → CodeWord 8 23 other → distance (word_of frame) other ≤ 23
    → ReadsWord other (distance (word_of frame) other) x given
says_any frame {x} {given} D k s C h =
    subst (λ (w : List ℕ). ReadsWord w (distance (word_of frame) w) x given)
    (near_one listed.of_m.listed (word_bits frame) (word_long frame) D C k h) s

received_one : (frame : List ℕ) {x y : Outcome} {given given' : Given} → ReadsReceived (word_of frame) x given → ReadsReceived (word_of frame) y given'
    → (x ≡ y) × (given ≡ given')
received_one frame (near w D k s) (near v C h r) = says_one (says_any frame D k s C h) r
received_one frame (near w D k s) (far e f z) = absurd (f w D k)
received_one frame (far e f z) (near v C h r) = absurd (f v C h)
received_one frame (far e f z) (far d g y) = (e ∙ sym d, z ∙ sym y)

answer_same : (x y : Result ReadFrame Refusal) → (outcome_of x ≡ outcome_of y) × (given_by x ≡ given_by y) → x ≡ y
answer_same x y (o, g) = same_answer x y o same
  where
    same : (a b : ReadFrame) → x ≡ Ok a → y ≡ Ok b → a ≡ b
    same a b e f =
        let s = sym (ap given_by e) ∙ g ∙ ap given_by f in
        ap₂ (λ (r : Reading) (n : ℕ). record { reading = r; wrong = n }) (ap (λ (z : Given). z.reading) s) (ap (λ (z : Given). z.wrong) s)

pub read_one : (frame : List ℕ) (x y : Result ReadFrame Refusal) → Reads frame x → Reads frame y → x ≡ y
read_one frame x y p q = answer_same x y (promise_one (λ z a b. received_one frame a b) p q)

-- a line of the listing
pub line_one : {line lent left left' : List ℕ} {n n' : ℕ} → Writes line lent left n → Writes line lent left' n' → (n ≡ n') × (left ≡ left')
line_one p q = (p.long ∙ sym q.long, p.is ∙ sym q.is)

-- a made frame

made_carries : {reading : Reading} {frame : List ℕ} → Lawful reading → Made reading frame → Carries reading (word_of frame)
made_carries {reading} L m = record { lawful = L; message = λ i h. m.encodes.carries i h ∙ message_at reading i h }

made_lead : {reading : Reading} (frame : List ℕ) → Made reading frame → lead_is_wrong (word_of frame) ≡ false
made_lead {reading} frame m = lead_right (word_of frame) (record { at = sent })
  where
    sent : (q : ℕ) → q < 3 → get_or (word_of frame) (254 - q) 0 ≡ get_or lead q 0
    sent q h =
        let e : 156 + (98 - q) ≡ 254 - q = omega arith in
        let f : 98 - (98 - q) ≡ q = omega arith in
        ap (λ (x : ℕ). get_or (word_of frame) x 0) (sym e)
        ∙ m.encodes.carries (98 - q) (omega arith)
        ∙ message_at reading (98 - q) (omega arith)
        ∙ message_lead reading (omega arith)
        ∙ ap (λ (x : ℕ). get_or lead x 0) f

-- a frame whose word differs from that of a made one in at most 23 places, with the pad left alone, reads back as it was made, and the differences are
-- counted
pub changed_reads_back : {reading : Reading} {lent made : List ℕ} (received : List ℕ) {e : ℕ} (y : Result ReadFrame Refusal) → Lawful reading
    → Makes reading lent (Ok tt) made
    → length received ≡ 32 → sent_bit received 255 ≡ 0 → distance (word_of made) (word_of received) ≡ e → e ≤ 23 → Reads received y → y ≡ read_as reading e
changed_reads_back {reading} {lent} {made} received {e} y L p l pad d few r =
    read_one received y (read_as reading e) r (does (frame_passes received l pad) found)
  where
    m : Made reading made
    m = (p.done (sym (answer_is p))).did

    count : distance (word_of received) (word_of made) ≡ e
    count = distance_comm (word_of received) (word_of made) ∙ d

    found : ReadsReceived (word_of received) (Ok tt) (record { reading = reading; wrong = e })
    found =
        near (word_of made) m.encodes.code_word (omega (arith, count))
        (does (rw (made_lead made m)) (always (record { reading = made_carries L m; count = sym count })))

-- what is made for a reading reads back as that reading with nothing wrong
pub made_reads_back : {reading : Reading} {lent made : List ℕ} (y : Result ReadFrame Refusal) → Lawful reading → Makes reading lent (Ok tt) made → Reads made y
    → y ≡ read_as reading 0
made_reads_back {made = made} y L p r =
    let m = (p.done (sym (answer_is p))).did in
    changed_reads_back made y L p m.long m.pad (distance_self (word_of made)) (omega arith) r
