-- The conditions of 13 and 14 as the code tests them, and what is known of a book that passes.
use mathlib.Core.Path.{◌≡◌, ◌∙◌, refl, sym, ap, ap₂, subst}
use mathlib.Core.Bool.{Bool, true, false, not, ◌&&◌, ◌||◌}
use mathlib.Core.List.{List, [], ◌∷◌, ◌++◌}
use Prim.Native.Nat.{ℕ, zero, suc, ◌+◌, ◌-◌, ◌*◌, ◌≤◌, ◌<◌}
use native.Mathlib.Nat.{add-zero}
use native.Mathlib.Omega.{arith}
use borrow.Author.Tests.{lt-ltb, le-ltb, lt-leb, leb-false}
use mir.Facts.{T_not-not, and_yes, or_no, ltb_no, eqb_yes}
use lib.Dec.{T, eqb, ltb}
use lib.ListN.{length, get_or, take, drop, length-drop}
use lib.Seq.{get_or-take, get_or-drop, ext_get_or, length-take-le, take_all}
use denote.Ref.{Bor}
use Rattle.std.specs.Prelude.{Result, Ok, Err}
use Rattle.std.specs.Result.{result_unwrap_or}
use Rattle.sheet.specs.declared.Refusal.{Refusal}
use Rattle.sheet.specs.Number.{outcome_of}
use Rattle.sheet.specs.Verdict.{verdict, Promise, Always}
use Rattle.sheet.specs.Work.{AllPass}
use Rattle.sheet.proofs.VerdictLaws.{equal, unequal, all_pass, earlier_refuse, earlier_pass, refuses_as, done_passed, answer_is}
use Rattle.sheet.proofs.VerdictLaws.{Verdict, verdict-cases}
use Rattle.sheet.proofs.VerdictLaws as VerdictLaws
use Rattle.book.specs.declared.reading.Found.{Found}
use Rattle.book.specs.Book.{mark, frame_start}
use Rattle.book.specs.Read.{trailer_of, mark_at, has_mark, number_at, count_of, distance_of, last_of, lacks_trailer, size_is_wrong}
use Rattle.book.specs.Read.{book_checks, number_checks, find_checks, Looks, Span, empty_span, span_of, FrameSpan, Finds, ReadsPart}

-- the four places from one on
pub four_places : (l : List ℕ) (at : ℕ) → at + 4 ≤ length l
    → take 4 (drop at l) ≡ get_or l at 0 ∷ get_or l (at + 1) 0 ∷ get_or l (at + 2) 0 ∷ get_or l (at + 3) 0 ∷ []
four_places l at h =
    ext_get_or 0 (take 4 (drop at l)) (get_or l at 0 ∷ get_or l (at + 1) 0 ∷ get_or l (at + 2) 0 ∷ get_or l (at + 3) 0 ∷ []) long
    (λ i k. let m : i < 4 = omega (arith, long) in get_or-take 4 (drop at l) i 0 m ∙ get_or-drop at l i 0 ∙ places i m)
  where
    long : length (take 4 (drop at l)) ≡ 4
    long = length-take-le 4 (drop at l) (omega (arith, length-drop at l))

    places : (i : ℕ) → i < 4 → get_or l (at + i) 0 ≡ get_or (get_or l at 0 ∷ get_or l (at + 1) 0 ∷ get_or l (at + 2) 0 ∷ get_or l (at + 3) 0 ∷ []) i 0
    places zero m = ap (λ (k : ℕ). get_or l k 0) (add-zero at)
    places (suc zero) m = refl
    places (suc (suc zero)) m = refl
    places (suc (suc (suc zero))) m = refl
    places (suc (suc (suc (suc i)))) m = absurd (omega arith)

-- the mark

pub mark-told : (bytes : List ℕ) → take 4 bytes ≡ mark → has_mark bytes ≡ true
unfolding has_mark
mark-told bytes e =
    rw (is 0 (omega arith), is 1 (omega arith), is 2 (omega arith), is 3 (omega arith))
  where
    is : (i : ℕ) → i < 4 → get_or bytes i 0 ≡ get_or mark i 0
    is i h = sym (get_or-take 4 bytes i 0 h) ∙ ap (λ (l : List ℕ). get_or l i 0) e

pub mark_is : (bytes : List ℕ) → 4 ≤ length bytes → T (has_mark bytes) → take 4 bytes ≡ mark
unfolding has_mark
mark_is bytes l t =
    let (three, d) = and_yes (mark_at bytes 0 && mark_at bytes 1 && mark_at bytes 2) (mark_at bytes 3) t in
    let (two, c) = and_yes (mark_at bytes 0 && mark_at bytes 1) (mark_at bytes 2) three in
    let (a, b) = and_yes (mark_at bytes 0) (mark_at bytes 1) two in
    let p : get_or bytes 0 0 ≡ 80 = eqb_yes a in
    let q : get_or bytes 1 0 ≡ 79 = eqb_yes b in
    let r : get_or bytes 2 0 ≡ 76 = eqb_yes c in
    let s : get_or bytes 3 0 ≡ 76 = eqb_yes d in
    four_places bytes 0 l ∙ rw (p, q, r, s)

-- a test that tells whether the first four bytes are the mark
pub mark_tested : (bytes : List ℕ) {with : List ℕ} (r : Bool) → 4 ≤ length bytes → with ≡ mark → (r ≡ true → take 4 bytes ≡ with)
    → (take 4 bytes ≡ with → r ≡ true)
    → r ≡ has_mark bytes
mark_tested bytes true l m same told = sym (mark-told bytes (same refl ∙ m))
mark_tested bytes false l m same told = no (has_mark bytes) refl
  where
    no : (b : Bool) → has_mark bytes ≡ b → false ≡ b
    no true e = told (mark_is bytes l (subst T (sym e) tt) ∙ sym m)
    no false e = refl

-- the last 16 bytes as the part that the code takes
abbrev taken : List ℕ → List ℕ
taken book = take (length book - (length book - 16)) (drop (length book - 16) book)

pub trailer_part : (book : List ℕ) → taken book ≡ trailer_of book
trailer_part book = take_all (length book - (length book - 16)) (trailer_of book) (omega (arith, length-drop (length book - 16) book))

pub part_long : (book : List ℕ) → 16 ≤ length book → length (taken book) ≡ 16
part_long book h = ap length (trailer_part book) ∙ length-drop (length book - 16) book ∙ omega arith

-- 13

pub too_short : (book : List ℕ) → length book < 16 → lacks_trailer book ≡ true
unfolding lacks_trailer
too_short book h = rw (lt-ltb (length book) 16 h)

pub wrong_mark : (book : List ℕ) → 16 ≤ length book → has_mark (trailer_of book) ≡ false → lacks_trailer book ≡ true
unfolding lacks_trailer
wrong_mark book h e = rw (le-ltb (length book) 16 h, e)

pub last_decides : (book : List ℕ) → 16 ≤ length book → has_mark (trailer_of book) ≡ true → lacks_trailer book ≡ not (eqb (last_of book) 0)
unfolding lacks_trailer
last_decides book h e = rw (le-ltb (length book) 16 h, e)

-- 14

pub count_above : (count distance end : ℕ) → 1000 < count → size_is_wrong count distance end ≡ true
unfolding size_is_wrong
count_above count distance end h = rw (lt-ltb 1000 count h)

pub distance_other : (count distance end : ℕ) → count ≤ 1000 → (distance ≡ 32 * count → ⊥) → size_is_wrong count distance end ≡ true
unfolding size_is_wrong
distance_other count distance end h n = rw (le-ltb 1000 count h, unequal n)

pub reach_decides : (count distance end : ℕ) → count ≤ 1000 → distance ≡ 32 * count → size_is_wrong count distance end ≡ ltb end distance
unfolding size_is_wrong
reach_decides count distance end h e = rw (le-ltb 1000 count h, equal e)

-- the size as it is read from the part
pub sized_as : (book : List ℕ) {count distance : ℕ} {wrong : Bool} → count ≡ number_at (taken book) 4 → distance ≡ number_at (taken book) 8
    → wrong ≡ size_is_wrong count distance (length book - 16) → wrong ≡ size_is_wrong (count_of book) (distance_of book) (length book - 16)
sized_as book c d e =
    let part = trailer_part book in
    e ∙ ap₂ (λ (x y : ℕ). size_is_wrong x y (length book - 16)) (c ∙ ap (λ (l : List ℕ). number_at l 4) part) (d ∙ ap (λ (l : List ℕ). number_at l 8) part)

-- a book that passes

pub record HasTrailer (book : List ℕ) : Type 0 where
  pub long : 16 ≤ length book
  pub marked : T (has_mark (trailer_of book))
  pub last : last_of book ≡ 0

pub has_trailer : (book : List ℕ) → lacks_trailer book ≡ false → HasTrailer book
unfolding lacks_trailer
has_trailer book e =
    let short = ltb (length book) 16 in
    let other = not (has_mark (trailer_of book)) in
    let (first, last) = or_no (short || other) (not (eqb (last_of book) 0)) (subst (λ (b : Bool). T (not b)) (sym e) tt) in
    let (long, marked) = or_no short other first in
    record { long = ltb_no long; marked = T_not-not (has_mark (trailer_of book)) marked; last = eqb_yes (T_not-not (eqb (last_of book) 0) last) }

pub record RightSize (count distance end : ℕ) : Type 0 where
  pub few : count ≤ 1000
  pub distance_is : distance ≡ 32 * count
  pub reaches : distance ≤ end

right_size : (count distance end : ℕ) → size_is_wrong count distance end ≡ false → RightSize count distance end
unfolding size_is_wrong
right_size count distance end e =
    let above = ltb 1000 count in
    let other = not (eqb distance (32 * count)) in
    let (first, reaches) = or_no (above || other) (ltb end distance) (subst (λ (b : Bool). T (not b)) (sym e) tt) in
    let (few, same) = or_no above other first in
    record { few = ltb_no few; distance_is = eqb_yes (T_not-not (eqb distance (32 * count)) same); reaches = ltb_no reaches }

pub record Passes (book : List ℕ) : Type 0 where
  pub has : HasTrailer book
  pub size : RightSize (count_of book) (distance_of book) (length book - 16)

pub passed : (book : List ℕ) → verdict (book_checks book) ≡ Ok tt → Passes book
passed book e =
    let (trailer, (size, t)) = all_pass (book_checks book) e in
    record { has = has_trailer book trailer; size = right_size (count_of book) (distance_of book) (length book - 16) size }

-- looking

pub looked_refused : {book : List ℕ} {answer : Result ℕ Refusal} {r : Refusal} → Looks book answer → answer ≡ Err r → verdict (book_checks book) ≡ Err r
looked_refused p e = sym (answer_is p) ∙ ap outcome_of e

-- the count that a book was found to have
pub looked_count : {book : List ℕ} {answer : Result ℕ Refusal} {count : ℕ} → Looks book answer → answer ≡ Ok count
    → (verdict (book_checks book) ≡ Ok tt) × (count ≡ count_of book)
looked_count p e =
    let z = done_passed p (ap outcome_of e) in
    (z, sym (ap (λ (x : Result ℕ Refusal). result_unwrap_or x 0) e) ∙ (p.done z).did.is)

-- the frames of a book that was counted reach back no further than its start
pub counted_fits : {book : List ℕ} {answer : Result ℕ Refusal} {count : ℕ} → Looks book answer → answer ≡ Ok count → 32 * count + 16 ≤ length book
counted_fits {book} p e =
    let (z, is) = looked_count p e in
    let q = passed book z in
    omega (arith, is, q.has.long, q.size.distance_is, q.size.reaches)

-- finding

pub found_none : {book : List ℕ} {i : ℕ} {a : Result ℕ Refusal} {r : Refusal} → Looks book a → a ≡ Err r → Finds book i (Err r)
found_none {book} {i} p e = refuses_as (earlier_refuse (book_checks book) (number_checks (count_of book) i) (looked_refused p e)) refl refl

pub found_frame : {book : List ℕ} {i count : ℕ} {a : Result ℕ Refusal} (x : Result Found Refusal) → Looks book a → a ≡ Ok count
    → Promise (number_checks count i) (Always (FrameSpan book count i)) empty_span (outcome_of x) (span_of x) → Finds book i x
found_frame {book} {i} {count} {a} x p e q =
    let (z, same) = looked_count p e in
    let own = subst (λ (n : ℕ). Promise (number_checks n i) (Always (FrameSpan book n i)) empty_span (outcome_of x) (span_of x)) same q in
    let behind = earlier_pass (book_checks book) (number_checks (count_of book) i) z in
    record { refused = λ r v. own.refused r (sym behind ∙ v); done = λ v. own.done (sym behind ∙ v) }

-- what is found lies in the book
pub found_within : {book : List ℕ} {i : ℕ} (x : Result Found Refusal) → Finds book i x
    → ((span_of x).from ≤ (span_of x).to) × ((span_of x).to ≤ length book)
found_within {book} {i} x p = pick (verdict-cases (verdict (find_checks book i)))
  where
    pick : Verdict (verdict (find_checks book i)) → ((span_of x).from ≤ (span_of x).to) × ((span_of x).to ≤ length book)
    pick (VerdictLaws.refused r e) =
        let s = (p.refused r e).1 in
        let from = ap (λ (s : Span). s.from) s in
        let to = ap (λ (s : Span). s.to) s in
        (omega arith, omega arith)
    pick (VerdictLaws.passed e) = frame (all_pass (book_checks book ++ number_checks (count_of book) i) e)
      where
        frame : AllPass (find_checks book i) → ((span_of x).from ≤ (span_of x).to) × ((span_of x).to ≤ length book)
        frame (trailer, (size, (number, t))) =
            let few = leb-false (count_of book) i number in
            let s = (p.done e).did in
            let h = has_trailer book trailer in
            let z = right_size (count_of book) (distance_of book) (length book - 16) size in
            (omega (arith, s.starts, s.ends), omega (arith, s.ends, few, h.long, z.distance_is, z.reaches))

-- the part that is cut: the one that was found, or the empty one at the front
pub cut_at : (x : Result Found Refusal) {cut : Found} → cut ≡ result_unwrap_or x (record { from = 0; to = 0 })
    → (cut.from ≡ (span_of x).from) × (cut.to ≡ (span_of x).to)
cut_at (Ok found) e = (ap (λ (f : Found). f.from) e, ap (λ (f : Found). f.to) e)
cut_at (Err r) e = (ap (λ (f : Found). f.from) e, ap (λ (f : Found). f.to) e)

-- a frame below the count is found, and the part that is read holds its 32 bytes
pub frame_passes : (book : List ℕ) (i : ℕ) → verdict (book_checks book) ≡ Ok tt → i < count_of book → verdict (find_checks book i) ≡ Ok tt
frame_passes book i z h = earlier_pass (book_checks book) (number_checks (count_of book) i) z ∙ rw (lt-leb (count_of book) i h)

pub frame_read : {book r : Bor (List ℕ)} {i : ℕ} → ReadsPart book i r → verdict (book_checks book.now) ≡ Ok tt → i < count_of book.now
    → r.now ≡ take 32 (drop (frame_start book.now (count_of book.now) i) book.now)
frame_read {book} {i = i} p z h =
    let s = (p.finds.done (frame_passes book.now i z h)).did in
    let long : (span_of p.found).to - (span_of p.found).from ≡ 32 = omega (arith, s.starts, s.ends) in
    p.part.holds ∙ ap₂ (λ (n from : ℕ). take n (drop from book.now)) long s.starts

-- two books of the same length with the same last 16 bytes
module _ (book other : List ℕ) (long : length book ≡ length other) (same : trailer_of book ≡ trailer_of other) where
  same_lack : lacks_trailer book ≡ lacks_trailer other
  unfolding lacks_trailer
  same_lack = ap₂ (λ (n : ℕ) (t : List ℕ). ltb n 16 || not (has_mark t) || not (eqb (number_at t 12) 0)) long same

  same_size : size_is_wrong (count_of book) (distance_of book) (length book - 16) ≡ size_is_wrong (count_of other) (distance_of other) (length other - 16)
  same_size = ap₂ (λ (n : ℕ) (t : List ℕ). size_is_wrong (number_at t 4) (number_at t 8) (n - 16)) long same

  same_count : count_of book ≡ count_of other
  same_count = ap (λ (t : List ℕ). number_at t 4) same

  same_start : (i : ℕ) → frame_start book (count_of book) i ≡ frame_start other (count_of other) i
  same_start i = ap₂ (λ (n c : ℕ). n - 16 - 32 * c + 32 * i) long same_count

  -- where a frame is found in one, it is found in the other
  pub same_finds : {i : ℕ} (x : Result Found Refusal) → Finds book i x → Finds other i x
  same_finds {i} x p =
      let v : verdict (find_checks book i) ≡ verdict (find_checks other i) = rw (same_lack, same_size, same_count) in
      record {
        refused = λ r z. p.refused r (v ∙ z);
        done = λ z.
            let d = p.done (v ∙ z) in
            record { is_done = d.is_done; did = record { starts = d.did.starts ∙ same_start i; ends = d.did.ends ∙ same_start (i + 1) } };
      }
