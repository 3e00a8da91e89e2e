-- What one turn of each loop does to the list that it works on.
use mathlib.Core.Path.{◌≡◌, ◌∙◌, sym, ap, ap₂, subst}
use mathlib.Core.List.{List, [], ◌∷◌, ◌++◌, append_assoc}
use Prim.Native.Nat.{ℕ, zero, suc, ◌+◌, ◌-◌, ◌≤◌, ◌<◌}
use native.Mathlib.Nat.{zero-add, suc-add, not-suc-le-zero, le_of_suc-le-suc}
use native.Mathlib.Decide.{dec_lt}
use native.Mathlib.Omega.{arith}
use borrow.Author.Tests.{lt-ltb, le-ltb}
use lib.Bits.{bit_xor}
use lib.Dec.{ltb}
use lib.ListN.{length, get_or, set, take, drop, take-append-drop, get_or-append}
use lib.Seq.{paste, length-paste, length_paste_head, take_at, drop_at, take-append-le, drop-append-le, drop-paste, get_or-take}
use lib.Seq.{get_or-drop, get_or-append-add, take_all, take-length, take-append_seam, length-take-le}
use Rattle.bits.specs.Bits.{AreBits, added, flip, flipped}
use Rattle.bits.specs.Work.{added_at}
use Rattle.bits.proofs.BitLaws.{bits_append, bits_take, bits_drop, added_none, added-cons, added_at-zero, added_at-cons}
use Rattle.bits.proofs.BitLaws.{added_at-nil, added_at_after, flipped-nil, flipped-cons}

added_more : (d s : List ℕ) (i : ℕ) → i < length d → i < length s
    → set (added d (take i s)) i (bit_xor (get_or d i 0) (get_or s i 0)) ≡ added d (take (suc i) s)
added_more [] s i h k = absurd (not-suc-le-zero h)
added_more (x ∷ d) [] i h k = absurd (not-suc-le-zero k)
added_more (x ∷ d) (y ∷ s) zero h k = rw (added_none (x ∷ d), added-cons x d y [], added_none d)
added_more (x ∷ d) (y ∷ s) (suc i) h k =
    rw (added-cons x d y (take i s), added-cons x d y (take (suc i) s))
    (ap (λ (l : List ℕ). bit_xor x y ∷ l) (added_more d s i (le_of_suc-le-suc h) (le_of_suc-le-suc k)))

more : (d : List ℕ) (at : ℕ) (s : List ℕ) (i : ℕ) → at + i < length d → i < length s
    → set (added_at d at (take i s)) (at + i) (bit_xor (get_or d (at + i) 0) (get_or s i 0)) ≡ added_at d at (take (suc i) s)
more d zero s i h k = rw (zero-add i, added_at-zero d (take i s), added_at-zero d (take (suc i) s)) (added_more d s i (omega arith) k)
more [] (suc at) s i h k = absurd (not-suc-le-zero h)
more (x ∷ d) (suc at) s i h k =
    rw (suc-add at i, added_at-cons x d at (take i s), added_at-cons x d at (take (suc i) s))
    (ap (λ (l : List ℕ). x ∷ l) (more d at s i (omega arith) k))

-- one more place added
pub added_at_more : (d : List ℕ) (at : ℕ) (s : List ℕ) (i : ℕ) → at + i < length d → i < length s
    → set (added_at d at (take i s)) (at + i) (bit_xor (get_or (added_at d at (take i s)) (at + i) 0) (get_or s i 0)) ≡ added_at d at (take (suc i) s)
added_at_more d at s i h k =
    let l : length (take i s) ≡ i = length-take-le i s (omega arith) in
    rw (added_at_after d at (take i s) (at + i) (omega arith)) (more d at s i h k)

-- one more place turned over
pub flipped_more : (d ps : List ℕ) (i : ℕ) → i < length ps → flipped d (take (suc i) ps) ≡ flip (flipped d (take i ps)) (get_or ps i 0)
flipped_more d [] i h = absurd (not-suc-le-zero h)
flipped_more d (p ∷ ps) zero h = rw (flipped-nil d, flipped-cons d p [], flipped-nil (flip d p))
flipped_more d (p ∷ ps) (suc i) h =
    rw (flipped-cons d p (take (suc i) ps), flipped-cons d p (take i ps)) (flipped_more (flip d p) ps i (le_of_suc-le-suc h))

pub added_at_none : (d : List ℕ) (at : ℕ) → added_at d at [] ≡ d
added_at_none d zero = added_at-zero d [] ∙ added_none d
added_at_none [] (suc at) = added_at-nil (suc at) []
added_at_none (x ∷ d) (suc at) = added_at-cons x d at [] ∙ ap (λ (l : List ℕ). x ∷ l) (added_at_none d at)

-- the first places of a buffer into which a list was copied
pub copied_front : (space g copy : List ℕ) → copy ≡ paste space 0 g (length g) → take (length g) copy ≡ g
copied_front space g copy e =
    ap (take (length g)) (e ∙ ap (λ (l : List ℕ). l ++ drop (0 + length g) space) (take-length g)) ∙ take-append_seam g (drop (0 + length g) space)

pub copied_whole : (d s copy : List ℕ) → length d ≡ length s → length copy ≡ length d → copy ≡ paste d 0 s (length s) → copy ≡ s
copied_whole d s copy l k e = sym (take_all (length s) copy (omega arith)) ∙ copied_front d s copy e

-- what a copy leaves at the places copied to
pub paste_at : (d : List ℕ) (at : ℕ) (s : List ℕ) (i : ℕ) → at ≤ length d → i < length s → get_or (paste d at s (length s)) (at + i) 0 ≡ get_or s i 0
paste_at d at s i h k =
    get_or-append (take at d ++ take (length s) s) (drop (at + length s) d) 0 (at + i) (omega (arith, length_paste_head d at s (length s) h (omega arith)))
    ∙ ap (λ (p : ℕ). get_or (take at d ++ take (length s) s) (p + i) 0) (sym (length-take-le at d h))
    ∙ get_or-append-add (take at d) (take (length s) s) i 0
    ∙ ap (λ (l : List ℕ). get_or l i 0) (take-length s)

-- lists that are the same from place n on
pub same_from : (n : ℕ) (xs ys : List ℕ) → drop n xs ≡ drop n ys → (i : ℕ) → n ≤ i → get_or xs i 0 ≡ get_or ys i 0
same_from n xs ys e i h =
    let at : n + (i - n) ≡ i = omega arith in
    subst (λ (p : ℕ). get_or xs p 0 ≡ get_or ys p 0) at
    (sym (get_or-drop n xs (i - n) 0) ∙ ap (λ (l : List ℕ). get_or l (i - n) 0) e ∙ get_or-drop n ys (i - n) 0)

-- what a copy leaves at the places before and after those copied to
pub paste_before : (d : List ℕ) (at : ℕ) (s : List ℕ) (i : ℕ) → at ≤ length d → i < at → get_or (paste d at s (length s)) i 0 ≡ get_or d i 0
paste_before d at s i h k =
    get_or-append (take at d ++ take (length s) s) (drop (at + length s) d) 0 i (omega (arith, length_paste_head d at s (length s) h (omega arith)))
    ∙ get_or-append (take at d) (take (length s) s) 0 i (omega (arith, length-take-le at d h))
    ∙ get_or-take at d i 0 k

pub paste_after : (d : List ℕ) (at : ℕ) (s : List ℕ) (i : ℕ) → at ≤ length d → at + length s ≤ i → get_or (paste d at s (length s)) i 0 ≡ get_or d i 0
paste_after d at s i h k = same_from (at + length s) (paste d at s (length s)) d (drop-paste d at s (length s) h (omega arith)) i k

pub bits_paste : {d s : List ℕ} (at : ℕ) → AreBits d → AreBits s → AreBits (paste d at s (length s))
bits_paste {d} {s} at b c = bits_append (bits_append (bits_take at b) (bits_take (length s) c)) (bits_drop (at + length s) b)

-- a copy that ends within the first part of a list leaves the rest
pub paste_part : (d e : List ℕ) (at : ℕ) (s : List ℕ) → at + length s ≤ length d → paste (d ++ e) at s (length s) ≡ paste d at s (length s) ++ e
paste_part d e at s h =
    ap₂ (λ (x y : List ℕ). x ++ take (length s) s ++ y) (take-append-le at d e (omega arith)) (drop-append-le (at + length s) d e h)
    ∙ sym (append_assoc (take at d ++ take (length s) s) (drop (at + length s) d) e)

-- so copying and taking the first n places may be done in either order, and the places from n on stay as they were
pub paste_front : (n : ℕ) (d : List ℕ) (at : ℕ) (s : List ℕ) → n ≤ length d → at + length s ≤ n
    → (take n (paste d at s (length s)) ≡ paste (take n d) at s (length s)) × (drop n (paste d at s (length s)) ≡ drop n d)
paste_front n d at s h k =
    let cut : length (take n d) ≡ n = length-take-le n d h in
    let whole : paste d at s (length s) ≡ paste (take n d) at s (length s) ++ drop n d =
    ap (λ (l : List ℕ). paste l at s (length s)) (sym (take-append-drop n d)) ∙ paste_part (take n d) (drop n d) at s (omega arith) in
    let long : length (paste (take n d) at s (length s)) ≡ n = length-paste (take n d) at s (length s) (omega arith) (omega arith) ∙ cut in (
      ap (take n) whole ∙ take_at (paste (take n d) at s (length s)) (drop n d) n long,
      ap (drop n) whole ∙ drop_at (paste (take n d) at s (length s)) (drop n d) n long,
    )

-- a stretch runs past the end exactly if it is longer than the room that is left
pub room_past : (start long end : ℕ) → start ≤ end → ltb (end - start) long ≡ ltb end (start + long)
room_past start long end h = pick (dec_lt (end - start) long)
  where
    pick : Dec (end - start < long) → ltb (end - start) long ≡ ltb end (start + long)
    pick (yes l) = lt-ltb (end - start) long l ∙ sym (lt-ltb end (start + long) (omega arith))
    pick (no n) = le-ltb (end - start) long (omega arith) ∙ sym (le-ltb end (start + long) (omega arith))
