-- Frames of bytes, lines stored one after another, and what is held between two reads.
use mathlib.Core.Path.{◌≡◌, ◌∙◌, refl, sym, ap, subst}
use mathlib.Core.List.{List, [], ◌++◌}
use Prim.Native.Nat.{ℕ, ◌+◌, ◌-◌, ◌*◌, ◌/◌, ◌%◌, ◌≤◌, ◌<◌, min}
use native.Mathlib.Decide.{dec_lt}
use native.Mathlib.Nat.{add-zero, zero-add}
use native.Mathlib.Numerals.{add-one}
use native.Mathlib.Omega.{arith}
use borrow.Rule.Slice.PartMut.{put_mid}
use lib.ListN.{length, take, drop, length-drop, length-take, drop_of_length-le}
use lib.Seq.{take_all, take_at, take-add, drop_at, drop-drop}
use lib.Seq.{length-take-le, length-sets}
use Rattle.std.specs.Prelude.{Result}
use Rattle.sheet.specs.declared.Refusal.{Refusal}
use Rattle.std.specs.List.{copy_within}
use Rattle.std.proofs.lemmas.List.{drop-take}
use Rattle.std.proofs.lemmas.List.Edits.{take-paste}
use Rattle.frame.specs.declared.reading.ReadFrame.{ReadFrame}
use Rattle.frame.specs.Read.{Reads}
use Rattle.line.specs.Line.{line_of, Writes}
use Rattle.line.proofs.LineLaws.{put_nothing, put_then, put_line, writes_fits, part_put}
use Rattle.lister.specs.declared.Progress.{Progress}
use Rattle.input.specs.Reads.{ReadsAfter}
use Rattle.lister.specs.Listing.{frame_at, frames_of, no_line, one_more, ListsFirst, Lists, Lines, start, step, TakesIn}
use Rattle.lister.specs.Work.{Going, AddsLine, ListedTo}

-- the line that is written is the line of the frame
pub line_put : {number long : ℕ} {part : List ℕ} (answer : Result ReadFrame Refusal) (frame lent : List ℕ) (end room : ℕ) → Reads frame answer → room ≡ 128
    → end + room ≤ length lent → length part ≡ length (take room (drop end lent)) → Writes (line_of number answer) (take room (drop end lent)) part long
    → AddsLine number frame lent end (put_mid end room lent part) (end + long)
line_put {number} answer frame lent end room r few fits l w =
    record {
      line = line_of number answer;
      is_line = record { answer = answer; reads = r; is = refl };
      put = part_put lent end room fits l w;
      most = omega (arith, writes_fits w, length-take room (drop end lent));
    }

-- the bytes from a frame's start to its end, or to the last byte if that comes first, are the frame
pub frame_part : (bytes : List ℕ) (from to : ℕ) → from ≤ length bytes → to ≡ min (from + 32) (length bytes)
    → take (to - from) (drop from bytes) ≡ take 32 (drop from bytes)
frame_part bytes from to h e = pick (dec_lt (from + 32) (length bytes))
  where
    pick : Dec (from + 32 < length bytes) → take (to - from) (drop from bytes) ≡ take 32 (drop from bytes)
    pick (yes l) = let z : to - from ≡ 32 = omega arith in rw z
    pick (no l) =
        let d = length-drop from bytes in
        take_all (to - from) (drop from bytes) (omega arith) ∙ sym (take_all 32 (drop from bytes) (omega arith))

pub line_added : {number from to next end : ℕ} {lent left : List ℕ} (bytes : List ℕ) → from ≤ length bytes → to ≡ min (from + 32) (length bytes)
    → AddsLine number (take (to - from) (drop from bytes)) lent end left next → AddsLine number (take 32 (drop from bytes)) lent end left next
line_added {number} {from} {to} {next} {end} {lent} {left} bytes h e a =
    subst (λ (frame : List ℕ). AddsLine number frame lent end left next) (frame_part bytes from to h e) a

-- the part between two places is the same whether its end or its start is cut off first
pub between : (bytes : List ℕ) (from to : ℕ) → from ≤ to → to ≤ length bytes → drop from (take to bytes) ≡ take (to - from) (drop from bytes)
between bytes from to h l =
    let e : from + (to - from) ≡ to = omega arith in
    ap (λ (n : ℕ). drop from (take n bytes)) (sym e) ∙ drop-take from (to - from) bytes

-- the lines of no frame, of one frame more, of all of them

pub none_listed : (before : ℕ) (bytes lent : List ℕ) → ListedTo before bytes lent lent 0 before 0
none_listed before bytes lent =
    record { text = []; lines = no_line; put = put_nothing lent refl; number_is = sym (add-zero before); most = omega arith }

pub one_listed : {before i number end next : ℕ} {bytes lent left left' : List ℕ} → ListedTo before bytes lent left i number end
    → AddsLine (number + 1) (frame_at bytes i) left end left' next → ListedTo before bytes lent left' (i + 1) (number + 1) next
one_listed {before} {i} {number} f a =
    let e : number + 1 ≡ before + 1 + i = omega (arith, f.number_is) in
    record {
      text = f.text ++ a.line;
      lines = rw (add-one i) (one_more f.lines (rw e at a.is_line));
      put = put_then f.put a.put;
      number_is = omega (arith, f.number_is);
      most = omega (arith, f.most, a.most);
    }

pub listed_long : {before i number end : ℕ} {bytes lent left : List ℕ} → ListedTo before bytes lent left i number end → length left ≡ length lent
listed_long {lent = lent} f = ap length f.put.is ∙ length-sets lent 0 f.text

pub all_listed : {before i count number end : ℕ} {bytes lent left : List ℕ} → ListedTo before bytes lent left i number end → i ≡ count → end ≤ length lent
    → ListsFirst (before + 1) count bytes lent left end
all_listed f e h = record { text = f.text; lines = rw e at f.lines; written = put_line f.put h }

-- frames are cut off the front one by one

pub record Chunked (before : ℕ) (frames lent left : List ℕ) (number end : ℕ) (rest : List ℕ) : Type 0 where
  pub count : ℕ
  pub listed : ListedTo before frames lent left count number end
  pub is : rest ≡ drop (32 * count) frames
  pub begun : 32 * count ≤ length frames + 31

cut : (xs x t : List ℕ) → xs ≡ x ++ t → length x ≡ min 32 (length xs) → (take 32 xs ≡ x) × (drop 32 xs ≡ t)
cut xs x t e l = pick (dec_lt (length xs) 32)
  where
    first : take (length x) xs ≡ x
    first = rw e (take_at x t (length x) refl)

    last : drop (length x) xs ≡ t
    last = rw e (drop_at x t (length x) refl)

    pick : Dec (length xs < 32) → (take 32 xs ≡ x) × (drop 32 xs ≡ t)
    pick (no n) =
        let z : length x ≡ 32 = omega arith in
        (rw z at first, rw z at last)
    pick (yes h) =
        let z : length x ≡ length xs = omega arith in (
          take_all 32 xs (omega arith) ∙ sym (take_all (length x) xs (omega arith)) ∙ first,
          drop_of_length-le xs {i = 32} (omega arith) ∙ sym (drop_of_length-le xs {i = length x} (omega arith)) ∙ last,
        )

pub none_cut : (before : ℕ) (frames lent : List ℕ) → Chunked before frames lent lent before 0 frames
none_cut before frames lent = record { count = 0; listed = none_listed before frames lent; is = refl; begun = omega arith }

module _ {before number end : ℕ} {frames lent left rest : List ℕ} (c : Chunked before frames lent left number end rest) where
  rest_long : length rest ≡ length frames - 32 * c.count
  rest_long = ap length c.is ∙ length-drop (32 * c.count) frames

  pub one_cut : {next : ℕ} {frame t left' : List ℕ} → rest ≡ frame ++ t → length frame ≡ min 32 (length rest) → 0 < length rest
      → AddsLine (number + 1) frame left end left' next → Chunked before frames lent left' (number + 1) next t
  one_cut {frame = frame} {t = t} e l h a =
      let parts = cut rest frame t e l in
      let is_frame : frame ≡ frame_at frames c.count = sym parts.0 ∙ ap (take 32) c.is in
      let place : 32 * (c.count + 1) ≡ 32 * c.count + 32 = omega arith in
      record {
        count = c.count + 1;
        listed = one_listed c.listed (rw is_frame at a);
        is = sym parts.1 ∙ ap (drop 32) c.is ∙ drop-drop 32 (32 * c.count) frames ∙ ap (λ n. drop n frames) (sym place);
        begun = omega (arith, rest_long);
      }

  pub cut_room : length frames ≤ 16000 → 64000 ≤ length lent → 0 < length rest → (end + 128 ≤ length left) × (number < before + 500)
  cut_room few room h =
      (omega (arith, rest_long, c.listed.most, listed_long c.listed), omega (arith, rest_long, c.listed.number_is))

  pub all_cut : length frames ≤ 16000 → 64000 ≤ length lent → length rest ≡ 0 → Lists (before + 1) frames lent left end
  all_cut few room h =
      all_listed c.listed (omega (arith, rest_long, c.begun)) (omega (arith, c.begun, c.listed.most))

-- the first frames of the front of the bytes are those of the bytes

pub frame_front : (bytes : List ℕ) (n i : ℕ) → 32 * i + 32 ≤ n → n ≤ length bytes → frame_at (take n bytes) i ≡ frame_at bytes i
frame_front bytes n i h l =
    let more = n - (32 * i + 32) in
    let e : n ≡ 32 * i + (32 + more) = omega arith in
    let from = drop (32 * i) bytes in
    let whole = length-take-le 32 from (omega (arith, length-drop (32 * i) bytes)) in
    ap (λ (k : ℕ). take 32 (drop (32 * i) (take k bytes))) e
    ∙ ap (take 32) (drop-take (32 * i) (32 + more) bytes ∙ take-add 32 more from)
    ∙ take_at (take 32 from) (take more (drop 32 from)) 32 whole

lines_front : {n first : ℕ} {bytes : List ℕ} {count : ℕ} {text : List ℕ} → Lines (take n bytes) first count text → 32 * count ≤ n → n ≤ length bytes
    → Lines bytes first count text
lines_front no_line h l = no_line
lines_front {n} {bytes = bytes} (one_more {count = count} {line = line} p q) h l =
    let same = frame_front bytes n count (omega arith) l in
    one_more (lines_front p (omega arith) l) (rw same at q)

-- of the bytes that are there the frames that are whole are listed, and what is left moves to the front
module _ (frames : List ℕ) {got whole : ℕ} (fits : got ≤ length frames) (w : whole ≡ got - got % 32) where
  there : length (take got frames) ≡ got
  there = length-take-le got frames fits

  parts : got ≡ whole + (got - whole)
  parts = omega arith

  whole_front : take whole frames ≡ take whole (take got frames)
  whole_front =
      let front = length-take-le whole frames (omega arith) in
      sym (
      ap (λ (n : ℕ). take whole (take n frames)) parts
      ∙ ap (take whole) (take-add whole (got - whole) frames)
      ∙ take_at (take whole frames) (take (got - whole) (drop whole frames)) whole front
      )

  whole_lines : {first : ℕ} {text : List ℕ} → Lines (take whole frames) first (frames_of (take whole frames)) text
      → Lines (take got frames) first (got / 32) text
  whole_lines p =
      let count : frames_of (take whole frames) ≡ got / 32 = omega (arith, length-take-le whole frames (omega arith)) in
      lines_front {n = whole} (rw whole_front at (rw count at p)) (omega arith) (omega (arith, there))

  left_over : take (got - whole) (copy_within frames whole got 0) ≡ drop whole (take got frames)
  left_over =
      ap (λ (n : ℕ). take n (copy_within frames whole got 0)) (sym (zero-add (got - whole)))
      ∙ take-paste frames 0 (drop whole frames) (got - whole) (omega arith) (omega (arith, length-drop whole frames))
      ∙ sym (between frames whole got (omega arith) fits)

-- one step on the buffers
pub taken_in : (at : Progress) (came : ℕ) (next : Progress) (frames : List ℕ) {lines frames' lines' : List ℕ} {whole : ℕ} → at.held + came ≤ length frames
    → whole ≡ at.held + came - (at.held + came) % 32 → next.listed ≡ at.listed + whole / 32 → next.held ≡ at.held + came - whole
    → Lists (at.listed + 1) (take whole frames) lines lines' next.end → frames' ≡ copy_within frames whole (at.held + came) 0
    → TakesIn at came frames lines frames' lines' next
taken_in at came next frames {whole = whole} fits w listed held lists moved =
    let all = sym (take-add at.held came frames) in
    let long = there frames fits w in
    let count : whole / 32 ≡ (at.held + came) / 32 = omega arith in
    let from : 32 * ((at.held + came) / 32) ≡ whole = omega arith in
    record {
      text = lists.text;
      taken = record {
        lines = rw (all, long) (whole_lines frames fits w lists.lines);
        listed_is = rw (all, long, listed, count) refl;
        held_is = rw (all, long, from, held, moved) (left_over frames fits w);
      };
      written = lists.written;
      held = omega arith;
    }

-- every byte that came is in a frame that is listed, or held
taken_count : {at next : Progress} {came : ℕ} {frames lines frames' lines' : List ℕ} → TakesIn at came frames lines frames' lines' next
    → at.held + came ≤ length frames → 32 * next.listed + next.held ≡ 32 * at.listed + at.held + came
taken_count {at} {came = came} {frames} t h =
    let bytes : length (take at.held frames ++ take came (drop at.held frames)) ≡ at.held + came =
    ap length (sym (take-add at.held came frames)) ∙ length-take-le (at.held + came) frames h in
    omega (arith, t.taken.listed_is, t.held)

-- from read to read

pub going_first : (at : Progress) (frames : List ℕ) → at.listed ≡ 0 → at.held ≡ 0 → Going at 32000000 frames
going_first at frames l h =
    record { pieces = []; text = []; steps = rw (l, h) start; bytes = omega arith; held = omega arith }

pub going_on : {at next : Progress} {came left : ℕ} {frames read kept lines written : List ℕ} → Going at left frames
    → ReadsAfter at.held left frames read came → TakesIn at came read lines kept written next → length read ≡ length frames
    → Going next (left - came) kept
going_on {at} {next} {came} {left} g r t e =
    record {
      pieces = _;
      text = _;
      steps = step g.steps (rw r.kept at t.taken);
      bytes = omega (arith, g.bytes, r.few, taken_count t (omega (arith, r.within)));
      held = omega (arith, t.held);
    }
