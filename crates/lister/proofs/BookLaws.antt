-- The frames of a book, one after another, and their lines.
use mathlib.Core.Path.{◌≡◌, ◌∙◌, sym, ap, subst}
use mathlib.Core.List.{List}
use Prim.Native.Nat.{ℕ, ◌+◌, ◌*◌, ◌≤◌, ◌<◌}
use native.Mathlib.Omega.{arith}
use denote.Ref.{Bor}
use lib.ListN.{length, take, drop, length-drop}
use lib.Seq.{drop-drop}
use Rattle.sheet.specs.declared.Refusal.{Refusal}
use Rattle.std.specs.Prelude.{Result, Ok, Err}
use Rattle.book.specs.Book.{frame_start}
use Rattle.book.specs.Read.{Looks, ReadsPart}
use Rattle.book.proofs.ReadLaws.{passed, frame_read, looked_refused, looked_count}
use Rattle.line.specs.Line.{refusal_line, Writes}
use Rattle.line.proofs.LineLaws.{writes_fits}
use Rattle.lister.specs.Listing.{frame_at, ListsFirst, frames_in, ListsBook, lists, refuses}
use Rattle.lister.specs.Work.{Counts}
use Rattle.lister.proofs.ListLaws.{frame_front}

-- frame i of the frames is where frame i of the book starts
frame_in : (book : List ℕ) (count i : ℕ) → 32 * count + 16 ≤ length book → i < count
    → frame_at (frames_in book count) i ≡ take 32 (drop (frame_start book count i) book)
frame_in book count i fits h =
    let first = frame_start book count 0 in
    let there : first + 32 * i ≡ frame_start book count i = omega arith in
    let rest = drop first book in
    let long = length-drop first book in
    frame_front rest (32 * count) i (omega arith) (omega (arith, long))
    ∙ ap (take 32) (drop-drop (32 * i) first book ∙ ap (λ (n : ℕ). drop n book) there)

-- the part that is read is that frame
pub part_is : {book r : Bor (List ℕ)} {count i : ℕ} → Counts book.now count → ReadsPart book i r → i < count
    → r.now ≡ frame_at (frames_in book.now count) i
part_is {book} {count = count} {i} c p h =
    let q = passed book.now c.passes in
    let fits : 32 * count + 16 ≤ length book.now = omega (arith, c.is, q.has.long, q.size.distance_is, q.size.reaches) in
    frame_read p c.passes (omega (arith, c.is))
    ∙ ap (λ (n : ℕ). take 32 (drop (frame_start book.now n i) book.now)) (sym c.is)
    ∙ sym (frame_in book.now count i fits h)

pub counted : {book : List ℕ} {answer : Result ℕ Refusal} {count : ℕ} → Looks book answer → answer ≡ Ok count → Counts book count
counted p e = let (z, is) = looked_count p e in record { passes = z; is = is }

-- a book has 1,000 frames at most
pub counted_few : {book : List ℕ} {count : ℕ} → Counts book count → count ≤ 1000
counted_few {book} c = omega (arith, c.is, (passed book c.passes).size.few)

-- what is written of a book

pub book_listed : {book lent left : List ℕ} {count end : ℕ} → Counts book count → ListsFirst 1 count (frames_in book count) lent left end
    → ListsBook book lent left end
book_listed {book} {lent} {left} {end = end} c l =
    lists c.passes (subst (λ (n : ℕ). ListsFirst 1 n (frames_in book n) lent left end) c.is l)

pub book_refused : {book lent left : List ℕ} {answer : Result ℕ Refusal} {r : Refusal} {end : ℕ} → Looks book answer → answer ≡ Err r
    → Writes (refusal_line r) lent left end → ListsBook book lent left end
book_refused {r = r} p e w = refuses r (looked_refused p e) w

-- it fits in the buffer
pub book_fits : {book lent left : List ℕ} {end : ℕ} → ListsBook book lent left end → end ≤ length left
book_fits (lists e l) = writes_fits l.written
book_fits (refuses r e w) = writes_fits w
