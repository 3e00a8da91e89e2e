-- Frames and trailer, copied into a buffer one after the other.
use mathlib.Core.Path.{◌≡◌, ◌∙◌, refl, sym, ap, ap₂}
use mathlib.Core.List.{List, [], ◌∷◌, ◌++◌, append_assoc}
use Prim.Native.Nat.{ℕ, ◌+◌, ◌*◌, ◌/◌, ◌%◌, ◌^◌, ◌≤◌, ◌<◌}
use native.Mathlib.Omega.{arith}
use borrow.Author.Tests.{lt-ltb, le-ltb}
use lib.ListN.{length, take}
use lib.Seq.{paste, take_all, take-length, take-paste, length-paste}
use Rattle.book.specs.Book.{mark, four_bytes, trailer}
use Rattle.sheet.specs.declared.Refusal.TheVariants.{OutputLength, FrameLength, BookSize}
use Rattle.std.specs.Prelude.{Ok, Err}
use Rattle.sheet.specs.Verdict.{verdict}
use Rattle.sheet.proofs.VerdictLaws.{equal, unequal}
use Rattle.book.specs.Write.{frame_count, write_checks, Written}

-- the checks, each with those before it

pub too_many : (frames lent : List ℕ) → 32000 < length frames → verdict (write_checks frames lent) ≡ Err BookSize
too_many frames lent h = rw (lt-ltb 32000 (length frames) h)

pub no_frames : (frames lent : List ℕ) → length frames ≤ 32000 → (length frames % 32 ≡ 0 → ⊥) → verdict (write_checks frames lent) ≡ Err FrameLength
no_frames frames lent h n = rw (le-ltb 32000 (length frames) h, unequal n)

pub wrong_room : (frames lent : List ℕ) → length frames ≤ 32000 → length frames % 32 ≡ 0 → (length lent ≡ 32 * frame_count frames + 16 → ⊥)
    → verdict (write_checks frames lent) ≡ Err OutputLength
wrong_room frames lent h e n = rw (le-ltb 32000 (length frames) h, equal e, unequal n)

pub write_passes : (frames lent : List ℕ) → length frames ≤ 32000 → length frames % 32 ≡ 0 → length lent ≡ 32 * frame_count frames + 16
    → verdict (write_checks frames lent) ≡ Ok tt
write_passes frames lent h e l = rw (le-ltb 32000 (length frames) h, equal e, equal l)

-- the numbers

pub four_bytes_lem : (n : ℕ) {a b c d : ℕ} → a ≡ n / 2 ^ 24 % 256 → b ≡ n / 2 ^ 16 % 256 → c ≡ n / 2 ^ 8 % 256 → d ≡ n / 2 ^ 0 % 256
    → a ∷ b ∷ c ∷ d ∷ [] ≡ four_bytes n
unfolding four_bytes
four_bytes_lem n p q r s =
    let low : n / 2 ^ 0 % 256 ≡ n % 256 = omega arith in
    rw (p, q, r, s ∙ low)

pub three_numbers : (n m : ℕ) {a b c d e f g h : ℕ} → a ∷ b ∷ c ∷ d ∷ [] ≡ four_bytes n → e ∷ f ∷ g ∷ h ∷ [] ≡ four_bytes m
    → a ∷ b ∷ c ∷ d ∷ e ∷ f ∷ g ∷ h ∷ 0 ∷ 0 ∷ 0 ∷ 0 ∷ [] ≡ four_bytes n ++ four_bytes m ++ four_bytes 0
three_numbers n m p q =
    ap₂ (λ (x y : List ℕ). x ++ y ++ (0 ∷ 0 ∷ 0 ∷ 0 ∷ [])) p q ∙ ap (λ (z : List ℕ). four_bytes n ++ four_bytes m ++ z) (four_bytes_lem 0 refl refl refl refl)

numbers_long : (count : ℕ) → length (four_bytes count ++ four_bytes (32 * count) ++ four_bytes 0) ≡ 12
unfolding four_bytes
numbers_long count = refl

-- after a copy, what stands up to its end is what stood before it and the copy
copied : {book' : List ℕ} (book : List ℕ) (at : ℕ) (s : List ℕ) → book' ≡ paste book at s (length s) → at ≤ length book
    → take (at + length s) book' ≡ take at book ++ s
copied book at s e h =
    ap (take (at + length s)) e ∙ take-paste book at s (length s) h (omega arith) ∙ ap (λ (x : List ℕ). take at book ++ x) (take-length s)

copied_long : {book' : List ℕ} (book : List ℕ) (at : ℕ) (s : List ℕ) → book' ≡ paste book at s (length s) → at + length s ≤ length book
    → length book' ≡ length book
copied_long book at s e h = ap length e ∙ length-paste book at s (length s) h (omega arith)

pub trailer_copied : {m numbers book₁ book₂ : List ℕ} (book : List ℕ) (count : ℕ) → m ≡ mark
    → numbers ≡ four_bytes count ++ four_bytes (32 * count) ++ four_bytes 0 → book₁ ≡ paste book (32 * count) m (length m)
    → book₂ ≡ paste book₁ (32 * count + 4) numbers (length numbers) → length book ≡ 32 * count + 16
    → book₂ ≡ take (32 * count) book ++ trailer count
trailer_copied {m} {numbers} {book₁} {book₂} book count e f p q l =
    let end = 32 * count in
    let four : length m ≡ 4 = ap length e in
    let twelve : length numbers ≡ 12 = ap length f ∙ numbers_long count in
    let long₁ = copied_long book end m p (omega arith) in
    let long₂ = copied_long book₁ (end + 4) numbers q (omega arith) in
    sym (take_all (end + 4 + length numbers) book₂ (omega arith))
    ∙ copied book₁ (end + 4) numbers q (omega arith)
    ∙ ap₂ (λ (k : ℕ) (x : List ℕ). take (end + k) book₁ ++ x) (sym four) f
    ∙ ap (λ (x : List ℕ). x ++ (four_bytes count ++ four_bytes end ++ four_bytes 0))
    (copied book end m p (omega arith) ∙ ap (λ (x : List ℕ). take end book ++ x) e)
    ∙ simp append_assoc

pub book_written : {book₁ book₂ : List ℕ} (frames lent : List ℕ) → length frames % 32 ≡ 0 → length lent ≡ 32 * frame_count frames + 16
    → book₁ ≡ paste lent 0 frames (length frames) → book₂ ≡ take (32 * frame_count frames) book₁ ++ trailer (frame_count frames) → Written frames book₂
book_written {book₁} frames lent whole l p q =
    let all : 32 * frame_count frames ≡ 0 + length frames = omega arith in
    let front = ap (λ (n : ℕ). take n book₁) all ∙ copied lent 0 frames p (omega arith) in
    record { is = q ∙ ap (λ (x : List ℕ). x ++ trailer (frame_count frames)) front }
