-- The trailer of a count, read and written: a book is what passes the checks.
use mathlib.Core.Path.{◌≡◌, ◌∙◌, refl, sym, ap}
use mathlib.Core.Bool.{true}
use mathlib.Core.List.{List, [], ◌∷◌, ◌++◌}
use Prim.Native.Nat.{ℕ, ◌+◌, ◌-◌, ◌*◌, ◌/◌, ◌%◌, ◌^◌, ◌≤◌, ◌<◌}
use native.Mathlib.Omega.{arith}
use borrow.Author.Tests.{le-ltb}
use lib.ListN.{length, get_or, take, drop, length-append, length-drop}
use lib.Seq.{get_or-drop, take-add, drop-append-add, drop_at, take_all}
use Rattle.std.specs.Prelude.{Ok}
use Rattle.sheet.specs.Verdict.{verdict}
use Rattle.sheet.proofs.VerdictLaws.{equal, none_refuses}
use Rattle.book.specs.Book.{four_bytes, trailer, IsBook, AreBytes}
use Rattle.book.specs.Read.{trailer_of, has_mark, number_at, count_of, distance_of, book_checks}
use Rattle.book.specs.Write.{frame_count, Written}
use Rattle.book.proofs.ReadLaws.{four_places, mark-told, mark_is, last_decides, reach_decides, Passes}

-- reading what was written

trailer_marked : (c : ℕ) → has_mark (trailer c) ≡ true
unfolding four_bytes
trailer_marked c = mark-told (trailer c) refl

-- the bytes of a number, one after another
from_bytes : (n : ℕ) → n < 2 ^ 32 → 2 ^ 24 * (n / 2 ^ 24 % 256) + 2 ^ 16 * (n / 2 ^ 16 % 256) + 2 ^ 8 * (n / 2 ^ 8 % 256) + n % 256 ≡ n
from_bytes n h =
    let a : n / 2 ^ 16 / 256 ≡ n / 2 ^ 24 = omega arith in
    let b : n / 2 ^ 8 / 256 ≡ n / 2 ^ 16 = omega arith in
    let c : n / 2 ^ 24 % 256 ≡ n / 2 ^ 24 = omega arith in
    omega arith

trailer_count : (c : ℕ) → c < 2 ^ 32 → number_at (trailer c) 4 ≡ c
unfolding four_bytes number_at
trailer_count c h = from_bytes c h

trailer-distance : (c : ℕ) → 32 * c < 2 ^ 32 → number_at (trailer c) 8 ≡ 32 * c
unfolding four_bytes number_at
trailer-distance c h = from_bytes (32 * c) h

trailer_last : (c : ℕ) → number_at (trailer c) 12 ≡ 0
unfolding four_bytes number_at
trailer_last c = refl

trailer_long : (c : ℕ) → length (trailer c) ≡ 16
unfolding four_bytes
trailer_long c = refl

-- a book passes the checks with its count
module _ {book : List ℕ} {count : ℕ} (b : IsBook book count) where
  pub book_count : count_of book ≡ count
  book_count = ap (λ (l : List ℕ). number_at l 4) b.ends ∙ trailer_count count (omega (arith, b.few))

  pub book_passes : verdict (book_checks book) ≡ Ok tt
  book_passes =
      let long : 16 ≤ length book = omega (arith, b.reaches) in
      let distance : distance_of book ≡ 32 * count =
      ap (λ (l : List ℕ). number_at l 8) b.ends ∙ trailer-distance count (omega (arith, b.few)) in
      let last = ap (λ (l : List ℕ). number_at l 12) b.ends ∙ trailer_last count in
      let marked = ap has_mark b.ends ∙ trailer_marked count in
      let few : count_of book ≤ 1000 = omega (arith, book_count, b.few) in
      let same : distance_of book ≡ 32 * count_of book = omega (arith, book_count) in
      let first = last_decides book long marked ∙ equal last in
      let second = reach_decides (count_of book) (distance_of book) (length book - 16) few same
      ∙ le-ltb (length book - 16) (distance_of book) (omega (arith, b.reaches)) in
      none_refuses (book_checks book) (first, (second, tt))

-- writing what was read

four_of : (a b c d : ℕ) → a < 256 → b < 256 → c < 256 → d < 256 → four_bytes (2 ^ 24 * a + 2 ^ 16 * b + 2 ^ 8 * c + d) ≡ a ∷ b ∷ c ∷ d ∷ []
unfolding four_bytes
four_of a b c d h k l m =
    let n = 2 ^ 24 * a + 2 ^ 16 * b + 2 ^ 8 * c + d in
    let p : n / 2 ^ 24 % 256 ≡ a = omega arith in
    let q : n / 2 ^ 16 % 256 ≡ b = omega arith in
    let r : n / 2 ^ 8 % 256 ≡ c = omega arith in
    let s : n % 256 ≡ d = omega arith in
    rw (p, q, r, s)

-- 16 places, four by four
by_four : (l : List ℕ) → length l ≡ 16 → l ≡ take 4 l ++ take 4 (drop 4 l) ++ take 4 (drop 8 l) ++ take 4 (drop 12 l)
by_four l h =
    sym (take_all 16 l (omega arith))
    ∙ take-add 12 4 l
    ∙ ap (λ (x : List ℕ). x ++ take 4 (drop 12 l)) (take-add 8 4 l ∙ ap (λ (x : List ℕ). x ++ take 4 (drop 8 l)) (take-add 4 4 l))

drop_bytes : (n : ℕ) (l : List ℕ) → AreBytes l → AreBytes (drop n l)
drop_bytes n l b = record { below = λ i. omega (arith, get_or-drop n l i 0, b.below (n + i)) }

bytes_of_number : (l : List ℕ) (at : ℕ) → AreBytes l → at + 4 ≤ length l → four_bytes (number_at l at) ≡ take 4 (drop at l)
unfolding number_at
bytes_of_number l at b h =
    four_of (get_or l at 0) (get_or l (at + 1) 0) (get_or l (at + 2) 0) (get_or l (at + 3) 0)
    (b.below at) (b.below (at + 1)) (b.below (at + 2)) (b.below (at + 3))
    ∙ sym (four_places l at h)

-- what passes the checks is a book
pub passes_book : (book : List ℕ) → AreBytes book → Passes book → IsBook book (count_of book)
passes_book book b p =
    let l = trailer_of book in
    let long : length l ≡ 16 = length-drop (length book - 16) book ∙ omega (arith, p.has.long) in
    let lb = drop_bytes (length book - 16) book b in
    let marked = mark_is l (omega arith) p.has.marked in
    let count = sym (bytes_of_number l 4 lb (omega arith)) in
    let distance = sym (bytes_of_number l 8 lb (omega arith)) ∙ ap four_bytes p.size.distance_is in
    let last = sym (bytes_of_number l 12 lb (omega arith)) ∙ ap four_bytes p.has.last in
    record {
      few = p.size.few;
      reaches = omega (arith, p.has.long, p.size.distance_is, p.size.reaches);
      ends = by_four l long ∙ all marked count distance last;
    }
  where
    all : {a b c d a' b' c' d' : List ℕ} → a ≡ a' → b ≡ b' → c ≡ c' → d ≡ d' → a ++ b ++ c ++ d ≡ a' ++ b' ++ c' ++ d'
    all e f g h = rw (e, f, g, h)

-- other bytes in front

pub front_trailer : (front book : List ℕ) → 16 ≤ length book → trailer_of (front ++ book) ≡ trailer_of book
front_trailer front book h =
    let behind : length (front ++ book) - 16 ≡ length front + (length book - 16) = omega (arith, length-append front book) in
    ap (λ (n : ℕ). drop n (front ++ book)) behind ∙ drop-append-add front book (length book - 16)

pub front_book : {book : List ℕ} {count : ℕ} (front : List ℕ) → IsBook book count → IsBook (front ++ book) count
front_book {book} front b =
    record {
      few = b.few;
      reaches = omega (arith, length-append front book, b.reaches);
      ends = front_trailer front book (omega (arith, b.reaches)) ∙ b.ends;
    }

-- what the writer makes

pub written_long : {frames book : List ℕ} → Written frames book → length book ≡ length frames + 16
written_long {frames} w =
    let count = frame_count frames in
    ap length w.is ∙ length-append frames (trailer count) ∙ ap (λ (n : ℕ). length frames + n) (trailer_long count)

pub written_book : {frames book : List ℕ} → length frames ≤ 32000 → Written frames book → IsBook book (frame_count frames)
written_book {frames} {book} h w =
    let long = written_long w in
    record {
      few = omega arith;
      reaches = omega arith;
      ends = ap (drop (length book - 16)) w.is ∙ drop_at frames (trailer (frame_count frames)) (length book - 16) (omega arith);
    }
