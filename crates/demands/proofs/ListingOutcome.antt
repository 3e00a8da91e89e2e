-- The listing leaves one text, whatever pieces its input comes in, and the line of a short last frame is that of refusal 9.
use mathlib.Core.Path.{◌≡◌, ◌∙◌, refl, sym, ap, ap₂}
use mathlib.Core.List.{List, [], ◌∷◌, ◌++◌, append-nil, append_assoc}
use Prim.Native.Nat.{ℕ, suc, ◌+◌, ◌*◌, ◌/◌, ◌%◌, ◌≤◌, ◌<◌}
use native.Mathlib.Nat.{add-zero, add-suc, add_assoc}
use native.Mathlib.Omega.{arith}
use lib.ListN.{length, take, drop, length-append, length-drop, length-take}
use lib.Seq.{take-append-le, drop-append-le, drop-drop}
use Rattle.sheet.specs.declared.Refusal.TheVariants.{FrameLength}
use Rattle.sheet.proofs.VerdictLaws.{unequal}
use Rattle.line.specs.Line.{line_of, refused_line}
use Rattle.lister.specs.Listing.{frame_at, frames_of, LineOf, Lines, no_line, one_more, ListsFirst, Taken, Steps, start, step}
use Rattle.demands.specs.Words.{joined, EndsShort}
use Rattle.demands.proofs.OneOutcome.{refused_is}
use Rattle.demands.proofs.FrameOutcome.{read_one, line_one}

-- one outcome

frame_line_one : (number : ℕ) (frame : List ℕ) {line line' : List ℕ} → LineOf number frame line → LineOf number frame line' → line ≡ line'
frame_line_one number frame p q = p.is ∙ ap (line_of number) (read_one frame p.answer q.answer p.reads q.reads) ∙ sym q.is

pub listing_one : {bytes : List ℕ} {first count : ℕ} {text text' : List ℕ} → Lines bytes first count text → Lines bytes first count text' → text ≡ text'
listing_one no_line no_line = refl
listing_one (one_more p a) (one_more q b) = ap₂ ◌++◌ (listing_one p q) (frame_line_one _ _ a b)

pub lists_one : {bytes lent left left' : List ℕ} {first count end end' : ℕ} → ListsFirst first count bytes lent left end
    → ListsFirst first count bytes lent left' end' → (end ≡ end') × (left ≡ left')
lists_one p q = let e = listing_one p.lines q.lines in line_one (rw e at p.written) q.written

pub taken-one : {listed listed' listed'' : ℕ} {held came text text' held' held'' : List ℕ} → Taken listed held came text listed' held'
    → Taken listed held came text' listed'' held'' → (text ≡ text') × (listed' ≡ listed'') × (held' ≡ held'')
taken-one p q = (listing_one p.lines q.lines, p.listed_is ∙ sym q.listed_is, p.held_is ∙ sym q.held_is)

-- no byte, no line
pub nothing_listed : {text : List ℕ} {first : ℕ} → Lines [] first (frames_of []) text → text ≡ []
nothing_listed p = listing_one p no_line

-- a short frame

short_line : {number : ℕ} (frame : List ℕ) {line : List ℕ} → length frame < 32 → LineOf number frame line → line ≡ refused_line number FrameLength
short_line {number} frame h p =
    let wrong = unequal {a = length frame} {b = 32} (λ e. omega arith) in
    p.is ∙ ap (line_of number) (refused_is p.answer (p.reads.refused FrameLength (rw wrong)).0)

ends_short : {bytes text : List ℕ} {first n : ℕ} → n ≡ length bytes / 32 → length (frame_at bytes n) < 32 → Lines bytes first (suc n) text
    → EndsShort bytes first text
ends_short {first = first} e h (one_more {text = before} q a) =
    record {
      before = before;
      lines = rw e at q;
      is = ap (λ (l : List ℕ). before ++ l) (short_line _ h a) ∙ ap (λ (k : ℕ). before ++ refused_line (first + k) FrameLength) e;
    }

pub short_frame : {bytes text : List ℕ} {first : ℕ} → 1 ≤ length bytes % 32 → Lines bytes first (frames_of bytes) text → EndsShort bytes first text
short_frame {bytes} h p =
    let whole = length bytes / 32 in
    let e : frames_of bytes ≡ suc whole = omega arith in
    ends_short refl (omega (arith, length-take 32 (drop (32 * whole) bytes), length-drop (32 * whole) bytes)) (rw e at p)

-- pieces

-- the frames after the first n are those of the bytes after them
frame_after : (bytes : List ℕ) (n i : ℕ) → frame_at (drop (32 * n) bytes) i ≡ frame_at bytes (n + i)
frame_after bytes n i =
    let e : 32 * n + 32 * i ≡ 32 * (n + i) = omega arith in
    ap (take 32) (drop-drop (32 * i) (32 * n) bytes ∙ ap (λ (k : ℕ). drop k bytes) e)

lines_after : {bytes text : List ℕ} {first n m : ℕ} {rest : List ℕ} → Lines bytes first n text → Lines (drop (32 * n) bytes) (first + n) m rest
    → Lines bytes first (n + m) (text ++ rest)
lines_after {text = text} {n = n} p no_line = rw (add-zero n, append-nil text) p
lines_after {bytes} {text} {first} {n} p (one_more {count = m} {text = before} {line = line} q a) =
    rw (add-suc n m, ← (append_assoc text before line)) (one_more (lines_after p q) (rw (frame_after bytes n m, add_assoc first n m) at a))

-- a frame that is whole stays as it is when more bytes come
frame_front : (bytes more : List ℕ) (i : ℕ) → 32 * i + 32 ≤ length bytes → frame_at (bytes ++ more) i ≡ frame_at bytes i
frame_front bytes more i h =
    ap (take 32) (drop-append-le (32 * i) bytes more (omega arith))
    ∙ take-append-le 32 (drop (32 * i) bytes) more (omega (arith, length-drop (32 * i) bytes))

lines_front : (bytes more : List ℕ) {first n : ℕ} {text : List ℕ} → 32 * n ≤ length bytes → Lines bytes first n text → Lines (bytes ++ more) first n text
lines_front bytes more h no_line = no_line
lines_front bytes more h (one_more {count = m} p a) =
    one_more (lines_front bytes more (omega arith) p) (rw (← (frame_front bytes more m (omega arith))) at a)

joined_with : (pieces : List (List ℕ)) (piece : List ℕ) → joined (pieces ++ piece ∷ []) ≡ joined pieces ++ piece
joined_with [] piece = append-nil piece
joined_with (x ∷ pieces) piece = ap (λ (l : List ℕ). x ++ l) (joined_with pieces piece) ∙ sym (append_assoc x (joined pieces) piece)

-- after any steps the frames that have come whole are listed, and the rest is held
record ListedSoFar (bytes text : List ℕ) (listed : ℕ) (held : List ℕ) : Type 0 where
  whole : listed ≡ length bytes / 32
  lines : Lines bytes 1 listed text
  rest : held ≡ drop (32 * listed) bytes

one_step : {bytes text held piece lines held' : List ℕ} {listed listed' : ℕ} → ListedSoFar bytes text listed held
    → Taken listed held piece lines listed' held' → ListedSoFar (bytes ++ piece) (text ++ lines) listed' held'
one_step {bytes} {held = held} {piece} {listed = listed} {listed'} f t =
    record {
      whole = omega (arith, t.listed_is, f.whole, ap length left, length-drop (32 * listed) (bytes ++ piece), length-append bytes piece);
      lines = rw (t.listed_is, left) (lines_after (lines_front bytes piece (omega (arith, f.whole)) f.lines) (rw (left, next) at t.lines));
      rest = rw (t.listed_is, t.held_is, left) (drop-drop (32 * more) (32 * listed) (bytes ++ piece) ∙ ap (λ (k : ℕ). drop k (bytes ++ piece)) both);
    }
  where
    left : held ++ piece ≡ drop (32 * listed) (bytes ++ piece)
    left = ap (λ (l : List ℕ). l ++ piece) f.rest ∙ sym (drop-append-le (32 * listed) bytes piece (omega (arith, f.whole)))

    more : ℕ
    more = length (drop (32 * listed) (bytes ++ piece)) / 32

    next : listed + 1 ≡ 1 + listed
    next = omega arith

    both : 32 * listed + 32 * more ≡ 32 * (listed + more)
    both = omega arith

so_far : {pieces : List (List ℕ)} {text held : List ℕ} {listed : ℕ} → Steps pieces text listed held → ListedSoFar (joined pieces) text listed held
so_far start = record { whole = refl; lines = no_line; rest = refl }
so_far (step {pieces} {piece = piece} s t) = rw (joined_with pieces piece) (one_step (so_far s) t)

-- before more is waited for, the lines of all frames that have come whole are written
pub lines_so_far : {pieces : List (List ℕ)} {text held : List ℕ} {listed : ℕ} → Steps pieces text listed held
    → Lines (joined pieces) 1 (length (joined pieces) / 32) text
lines_so_far s = let f = so_far s in rw f.whole at f.lines

-- and with the line of what is held at the end, those of all frames
pub pieces_listed : {pieces : List (List ℕ)} {text held last : List ℕ} {listed : ℕ} → Steps pieces text listed held
    → Lines held (listed + 1) (frames_of held) last → Lines (joined pieces) 1 (frames_of (joined pieces)) (text ++ last)
pieces_listed {pieces} {held = held} {listed = listed} s p =
    let f = so_far s in
    let bytes = joined pieces in
    let next : listed + 1 ≡ 1 + listed = omega arith in
    let all : listed + frames_of (drop (32 * listed) bytes) ≡ frames_of bytes = omega (arith, f.whole, length-drop (32 * listed) bytes) in
    rw all at (lines_after f.lines (rw (f.rest, next) at p))

-- so what is written depends on the bytes and not on the pieces that they come in
pub pieces_same : {pieces pieces' : List (List ℕ)} {text text' held held' last last' : List ℕ} {listed listed' : ℕ} → joined pieces ≡ joined pieces'
    → Steps pieces text listed held → Lines held (listed + 1) (frames_of held) last → Steps pieces' text' listed' held'
    → Lines held' (listed' + 1) (frames_of held') last' → text ++ last ≡ text' ++ last'
pieces_same e s p t q = listing_one (rw e at (pieces_listed s p)) (pieces_listed t q)
