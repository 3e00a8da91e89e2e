-- The poll book: one outcome for each of its operations, what is a book, and what the writer makes read back, also with other bytes in front of it.
use mathlib.Core.Path.{◌≡◌, ◌∙◌, refl, sym, ap, ap₂, subst}
use mathlib.Core.List.{List, [], ◌++◌}
use mathlib.Core.Logic.{◌↔◌}
use Prim.Native.Nat.{ℕ, ◌+◌, ◌-◌, ◌*◌, ◌%◌, ◌≤◌, ◌<◌}
use native.Mathlib.Nat.{zero-add}
use native.Mathlib.Omega.{arith}
use denote.Ref.{Bor}
use borrow.Author.Tests.{le-leb, ltb-false}
use lib.ListN.{length, take, drop, length-append, length-drop}
use lib.Seq.{take-append-le, drop-append-add, drop-append-le, take_at}
use Rattle.std.specs.Result.{result_unwrap_or}
use Rattle.std.specs.Prelude.{Result, Ok, Err}
use Rattle.sheet.specs.declared.Refusal.{Refusal}
use Rattle.sheet.specs.declared.Refusal.TheVariants.{NoSuchFrame}
use Rattle.sheet.specs.Number.{Outcome, outcome_of}
use Rattle.sheet.proofs.VerdictLaws.{always_one, promise_one, done_passed, earlier_pass, all_pass, same_of}
use Rattle.sheet.proofs.VerdictLaws.{not_done, same_refusal}
use Rattle.book.specs.declared.reading.Found.{Found}
use Rattle.book.specs.Book.{trailer, IsBook, frame_start, AreBytes}
use Rattle.book.specs.Read.{count_of, book_checks, number_checks, Looks, Span, empty_span, span_of, Finds, Part, ReadsPart}
use Rattle.book.specs.Write.{frame_count, write_checks, Written, WritesBook}
use Rattle.book.proofs.ReadLaws.{passed, frame_passes, same_finds}
use Rattle.book.proofs.TrailerLaws.{book_count, book_passes, passes_book, front_trailer, front_book, written_book, written_long}
use Rattle.lister.specs.Listing.{frame_at, frames_of, ListsFirst, Lists, frames_in, ListsBook, lists, refuses}
use Rattle.demands.specs.Words.{CarriedHome}
use Rattle.demands.proofs.OneOutcome.{same_answer}
use Rattle.demands.proofs.Near.{same_number}
use Rattle.demands.proofs.FrameOutcome.{line_one}
use Rattle.demands.proofs.ListingOutcome.{lists_one}

-- one outcome

pub look_one : (book : List ℕ) (x y : Result ℕ Refusal) → Looks book x → Looks book y → x ≡ y
look_one book x y p q =
    let (o, c) = promise_one (λ z a b. always_one (λ v w. v.is ∙ sym w.is) a b) p q in
    same_number x y o c

span_same : {s t : Span} → s.from ≡ t.from → s.to ≡ t.to → s ≡ t
span_same a b = ap₂ (λ (m n : ℕ). record { from = m; to = n }) a b

found_same : (x y : Result Found Refusal) → outcome_of x ≡ outcome_of y → span_of x ≡ span_of y → x ≡ y
found_same x y o s = same_answer x y o same
  where
    same : (a b : Found) → x ≡ Ok a → y ≡ Ok b → a ≡ b
    same a b e f =
        let u = sym (ap span_of e) ∙ s ∙ ap span_of f in
        ap₂ (λ (m n : ℕ). record { from = m; to = n }) (ap (λ (t : Span). t.from) u) (ap (λ (t : Span). t.to) u)

pub find_one : (book : List ℕ) (i : ℕ) (x y : Result Found Refusal) → Finds book i x → Finds book i y → x ≡ y
find_one book i x y p q =
    let (o, s) = promise_one (λ z a b. always_one (λ v w. span_same (v.starts ∙ sym w.starts) (v.ends ∙ sym w.ends)) a b) p q in
    found_same x y o s

part_same : {s r t : Bor (List ℕ)} {from to from' to' : ℕ} → from ≡ from' → to ≡ to' → Part s from to r → Part s from' to' t
    → (r.now ≡ t.now) × (r.ref_ptr ≡ t.ref_ptr)
part_same {s} e f p q = (
  p.holds ∙ ap₂ (λ (a b : ℕ). take (b - a) (drop a s.now)) e f ∙ sym q.holds,
  p.lies ∙ ap (λ (a : ℕ). (s.ref_ptr.0, a + s.ref_ptr.1)) e ∙ sym q.lies,
)

pub read_book_one : {book r s : Bor (List ℕ)} {i : ℕ} → ReadsPart book i r → ReadsPart book i s → (r.now ≡ s.now) × (r.ref_ptr ≡ s.ref_ptr)
read_book_one {book} {i = i} p q =
    let same = ap span_of (find_one book.now i p.found q.found p.finds q.finds) in
    part_same (ap (λ (s : Span). s.from) same) (ap (λ (s : Span). s.to) same) p.part q.part

pub write_book_one : {frames lent left left' : List ℕ} {x y : Outcome} → WritesBook frames lent x left → WritesBook frames lent y left'
    → (x ≡ y) × (left ≡ left')
write_book_one p q = promise_one (λ z a b. always_one (λ v w. v.is ∙ sym w.is) a b) p q

-- what is a book

pub book_exactly : (book : List ℕ) (x : Result ℕ Refusal) (count : ℕ) → AreBytes book → Looks book x
    → ((outcome_of x ≡ Ok tt) × (result_unwrap_or x 0 ≡ count)) ↔ IsBook book count
book_exactly book x count b p = (λ (e, c). there e c, back)
  where
    there : outcome_of x ≡ Ok tt → result_unwrap_or x 0 ≡ count → IsBook book count
    there e c =
        let z = done_passed p e in
        subst (IsBook book) (sym (p.done z).did.is ∙ c) (passes_book book b (passed book z))

    back : IsBook book count → (outcome_of x ≡ Ok tt) × (result_unwrap_or x 0 ≡ count)
    back k =
        let z = book_passes k in
        ((p.done z).is_done, (p.done z).did.is ∙ book_count k)

-- reading back

module _ {book : List ℕ} {count : ℕ} (b : IsBook book count) {i : ℕ} (x : Result Found Refusal) (p : Finds book i x) where
  found_there : i < count → (outcome_of x ≡ Ok tt) × ((span_of x).from ≡ frame_start book count i) × ((span_of x).to ≡ frame_start book count (i + 1))
  found_there h =
      let below : i < count_of book = omega (arith, book_count b) in
      let d = p.done (frame_passes book i (book_passes b) below) in (
        d.is_done,
        d.did.starts ∙ ap (λ (n : ℕ). frame_start book n i) (book_count b),
        d.did.ends ∙ ap (λ (n : ℕ). frame_start book n (i + 1)) (book_count b),
      )

  found_nowhere : count ≤ i → (outcome_of x ≡ Err NoSuchFrame) × (span_of x ≡ empty_span)
  found_nowhere h =
      let past : count_of book ≤ i = omega (arith, book_count b) in
      p.refused NoSuchFrame (earlier_pass (book_checks book) (number_checks (count_of book) i) (book_passes b) ∙ rw (le-leb (count_of book) i past))

-- frame i of what was written, behind other bytes
frame_behind : (front frames rest : List ℕ) (i : ℕ) → 32 * i + 32 ≤ length frames
    → take 32 (drop (length front + 32 * i) (front ++ (frames ++ rest))) ≡ take 32 (drop (32 * i) frames)
frame_behind front frames rest i h =
    ap (take 32) (drop-append-add front (frames ++ rest) (32 * i) ∙ drop-append-le (32 * i) frames rest (omega arith))
    ∙ take-append-le 32 (drop (32 * i) frames) rest (omega (arith, length-drop (32 * i) frames))

module _ {frames lent book : List ℕ} {x : Outcome} (p : WritesBook frames lent x book) (e : x ≡ Ok tt) (front : List ℕ) where
  made : Written frames book
  made = (p.done (done_passed p e)).did

  few : length frames ≤ 32000
  few = let (above, rest) = all_pass (write_checks frames lent) (done_passed p e) in ltb-false 32000 (length frames) above

  no_piece : length frames % 32 ≡ 0
  no_piece = let (above, (piece, rest)) = all_pass (write_checks frames lent) (done_passed p e) in same_of (length frames % 32) 0 piece

  whole : IsBook (front ++ book) (frame_count frames)
  whole = front_book front (written_book few made)

  -- where frame i stands in all of it
  start : (i : ℕ) → frame_start (front ++ book) (frame_count frames) i ≡ length front + 32 * i
  start i = omega (arith, length-append front book, written_long made, no_piece)

  home_found : (i : ℕ) (y : Result Found Refusal) → Finds (front ++ book) i y → i < frame_count frames
      → (outcome_of y ≡ Ok tt) × ((span_of y).from ≡ length front + 32 * i) × ((span_of y).to ≡ length front + 32 * i + 32)
  home_found i y q h =
      let (o, from, to) = found_there whole y q h in
      (o, from ∙ start i, to ∙ start (i + 1) ∙ omega arith)

  home_frame : (book' r : Bor (List ℕ)) (i : ℕ) → book'.now ≡ front ++ book → ReadsPart book' i r → i < frame_count frames
      → (r.now ≡ frame_at frames i) × (r.ref_ptr ≡ (book'.ref_ptr.0, length front + 32 * i + book'.ref_ptr.1))
  home_frame book' r i s q h =
      let (o, from, to) = home_found i q.found (subst (λ (l : List ℕ). Finds l i q.found) s q.finds) h in
      let long : (span_of q.found).to - (span_of q.found).from ≡ 32 = omega arith in (
        q.part.holds
            ∙ ap₂ (λ (n a : ℕ). take n (drop a book'.now)) long from
            ∙ ap (λ (l : List ℕ). take 32 (drop (length front + 32 * i) l)) (s ∙ ap (λ (l : List ℕ). front ++ l) made.is)
            ∙ frame_behind front frames (trailer (frame_count frames)) i (omega arith),
        q.part.lies ∙ ap (λ (a : ℕ). (book'.ref_ptr.0, a + book'.ref_ptr.1)) from,
      )

  home_none : (i : ℕ) (y : Result Found Refusal) → Finds (front ++ book) i y → frame_count frames ≤ i
      → (outcome_of y ≡ Err NoSuchFrame) × (span_of y ≡ empty_span)
  home_none i y q h = found_nowhere whole y q h

  home_empty : (book' r : Bor (List ℕ)) (i : ℕ) → book'.now ≡ front ++ book → ReadsPart book' i r → frame_count frames ≤ i
      → (r.now ≡ []) × (r.ref_ptr ≡ book'.ref_ptr)
  home_empty book' r i s q h =
      let (o, span) = home_none i q.found (subst (λ (l : List ℕ). Finds l i q.found) s q.finds) h in
      let from = ap (λ (t : Span). t.from) span in
      let to = ap (λ (t : Span). t.to) span in (
        q.part.holds ∙ ap₂ (λ (a b : ℕ). take (b - a) (drop a book'.now)) from to,
        q.part.lies ∙ ap₂ (λ (b a : ℕ). (b, a)) refl (ap (λ (a : ℕ). a + book'.ref_ptr.1) from ∙ zero-add book'.ref_ptr.1),
      )

  pub book_carried : CarriedHome frames front book
  book_carried =
      record {
        is_book = whole;
        counted = λ y q. let z = book_passes whole in ((q.done z).is_done, (q.done z).did.is ∙ book_count whole);
        found = home_found;
        none = home_none;
        frame = home_frame;
        empty = home_empty;
      }

  -- and its frames are the ones that were written
  home_frames : frames_in (front ++ book) (frame_count frames) ≡ frames
  home_frames =
      let count : 32 * frame_count frames ≡ length frames = omega (arith, no_piece) in
      ap (λ (n : ℕ). take (32 * frame_count frames) (drop n (front ++ book))) (start 0)
      ∙ ap (take (32 * frame_count frames)) (drop-append-add front book (32 * 0))
      ∙ ap (take (32 * frame_count frames)) made.is
      ∙ take_at frames (trailer (frame_count frames)) (32 * frame_count frames) (sym count)

  -- so what is listed of it is what the listing lists of them
  pub home_listed : {room left : List ℕ} {end : ℕ} → ListsBook (front ++ book) room left end → Lists 1 frames room left end
  home_listed {room} {left} {end} (lists z l) =
      let count : frame_count frames ≡ frames_of frames = omega (arith, no_piece) in
      let counted = subst (λ (n : ℕ). ListsFirst 1 n (frames_in (front ++ book) n) room left end) (book_count whole) l in
      let same = subst (λ (l : List ℕ). ListsFirst 1 (frame_count frames) l room left end) home_frames counted in
      subst (λ (n : ℕ). ListsFirst 1 n frames room left end) count same
  home_listed (refuses r z w) = absurd (not_done (sym z ∙ book_passes whole))

-- what stands before the frames is not looked at: other bytes there, as many, give the same answer
pub find_behind : (front front' rest : List ℕ) {i : ℕ} (x y : Result Found Refusal) → length front ≡ length front' → 16 ≤ length rest
    → Finds (front ++ rest) i x
    → Finds (front' ++ rest) i y → x ≡ y
find_behind front front' rest {i} x y e h p q =
    let long = length-append front rest ∙ ap (λ (n : ℕ). n + length rest) e ∙ sym (length-append front' rest) in
    let same = front_trailer front rest h ∙ sym (front_trailer front' rest h) in
    find_one (front' ++ rest) i x y (same_finds (front ++ rest) (front' ++ rest) long same x p) q

-- what is listed of a book is one text
pub list_book_one : {book lent left left' : List ℕ} {end end' : ℕ} → ListsBook book lent left end → ListsBook book lent left' end'
    → (end ≡ end') × (left ≡ left')
list_book_one (lists z l) (lists y k) = lists_one l k
list_book_one (lists z l) (refuses r y w) = absurd (not_done (sym y ∙ z))
list_book_one (refuses r z w) (lists y k) = absurd (not_done (sym z ∙ y))
list_book_one (refuses r z w) (refuses s y v) =
    let same = same_refusal (sym z ∙ y) in
    line_one (rw same at w) v
