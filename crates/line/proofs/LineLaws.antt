-- Decimal digits, and texts stored one after another.
use mathlib.Core.Path.{◌≡◌, ◌∙◌, refl, sym, ap, ap₂}
use mathlib.Core.List.{List, [], ◌∷◌, ◌++◌, append_assoc}
use Prim.Native.Nat.{ℕ, zero, suc, ◌+◌, ◌/◌, ◌%◌, ◌^◌, ◌≤◌, ◌<◌}
use native.Mathlib.Decide.{dec_lt}
use native.Mathlib.Nat.{add-zero, add-suc, suc-add, pow-succ', zero-add}
use native.Mathlib.Omega.{arith}
use borrow.Author.Tests.{lt-ltb, le-ltb}
use borrow.Rule.Slice.PartMut.{put_mid}
use lib.ListN.{length, take, drop, set, length-append, length-drop, take-append-drop}
use lib.Seq.{sets, sets-eq, paste, take_at, take-length, drop-drop, drop-append-le, length-take-le}
use Rattle.sheet.specs.declared.Refusal.{Refusal}
use Rattle.sheet.specs.Number.{number_of}
use Rattle.line.specs.Line.{digits_up_to, decimal, read_text, refused_word, refused_text, space, newline}
use Rattle.line.specs.Line.{read_line, refused_line, refusal_line, Writes}
use Rattle.line.specs.Work.{Put, PutField}
use Rattle.layout.specs.declared.message.Reading.{Reading}

up_to_small : (more n : ℕ) → n < 10 → digits_up_to (suc more) n ≡ (48 + n) ∷ []
unfolding digits_up_to
up_to_small more n h = rw (lt-ltb n 10 h)

up_to_more : (more n : ℕ) → 10 ≤ n → digits_up_to (suc more) n ≡ digits_up_to more (n / 10) ++ ((48 + n % 10) ∷ [])
unfolding digits_up_to
up_to_more more n h = rw (le-ltb n 10 h)

-- a bound that is large enough does not matter
enough : (a b n : ℕ) → n < a → n < b → digits_up_to a n ≡ digits_up_to b n
enough zero b n h l = absurd (omega arith)
enough (suc a) zero n h l = absurd (omega arith)
enough (suc a) (suc b) n h l = pick (dec_lt n 10) (λ k. enough a b (n / 10) (omega arith) (omega arith))
  where
    pick : Dec (n < 10) → (10 ≤ n → digits_up_to a (n / 10) ≡ digits_up_to b (n / 10)) → digits_up_to (suc a) n ≡ digits_up_to (suc b) n
    pick (yes k) rest = up_to_small a n k ∙ sym (up_to_small b n k)
    pick (no k) rest =
        let m : 10 ≤ n = omega arith in
        up_to_more a n m ∙ ap (λ (d : List ℕ). d ++ ((48 + n % 10) ∷ [])) (rest m) ∙ sym (up_to_more b n m)

pub decimal_small : {n : ℕ} → n < 10 → decimal n ≡ (48 + n) ∷ []
unfolding decimal
decimal_small {n} h = up_to_small n n h

pub decimal_more : {n : ℕ} → 10 ≤ n → decimal n ≡ decimal (n / 10) ++ ((48 + n % 10) ∷ [])
unfolding decimal
decimal_more {n} h = up_to_more n n h ∙ ap (λ (d : List ℕ). d ++ ((48 + n % 10) ∷ [])) (enough n (suc (n / 10)) (n / 10) (omega arith) (omega arith))

-- one digit more
pub decimal_longer : {n : ℕ} → 10 ≤ n → length (decimal n) ≡ length (decimal (n / 10)) + 1
decimal_longer {n} h = ap length (decimal_more h) ∙ length-append (decimal (n / 10)) ((48 + n % 10) ∷ [])

pub decimal-length : (k n : ℕ) → n < 10 ^ suc k → length (decimal n) ≤ suc k
decimal-length zero n h = omega (arith, ap length (decimal_small {n = n} (omega arith)))
decimal-length (suc k) n h =
    let p = pow-succ' 10 (suc k) in
    pick (dec_lt n 10) (decimal-length k (n / 10) (omega arith))
  where
    pick : Dec (n < 10) → length (decimal (n / 10)) ≤ suc k → length (decimal n) ≤ suc (suc k)
    pick (yes l) rest = omega (arith, ap length (decimal_small l))
    pick (no l) rest = omega (arith, decimal_longer {n = n} (omega arith))

-- a number of 64 bits has at most 20 digits
pub decimal_fits : {n : ℕ} → n < 2 ^ 64 → length (decimal n) ≤ 20
decimal_fits {n} h = decimal-length 19 n (omega arith)

-- stores one after another

sets_append : (l : List ℕ) (i : ℕ) (s t : List ℕ) → sets l i (s ++ t) ≡ sets (sets l i s) (i + length s) t
sets_append l i [] t = ap (λ (k : ℕ). sets l k t) (sym (add-zero i))
sets_append l i (a ∷ s) t =
    sets_append (set l i a) (suc i) s t ∙ ap (λ (k : ℕ). sets (sets (set l i a) (suc i) s) k t) (suc-add i (length s) ∙ sym (add-suc i (length s)))

pub put_one : (l : List ℕ) (at v : ℕ) → Put l at (v ∷ []) (set l at v) (at + 1)
put_one l at v = record { is = refl; next_is = refl }

pub put_nothing : (l : List ℕ) {at next : ℕ} → next ≡ at → Put l at [] l next
put_nothing l e = record { is = refl; next_is = omega arith }

pub put_then : {l m r s t : List ℕ} {at i j : ℕ} → Put l at s m i → Put m i t r j → Put l at (s ++ t) r j
put_then {l} {s = s} {t} {at} p q =
    record {
      is = q.is ∙ ap₂ (λ (x : List ℕ) (k : ℕ). sets x k t) p.is p.next_is ∙ sym (sets_append l at s t);
      next_is = omega (arith, p.next_is, q.next_is, length-append s t);
    }

pub put_copied : {l s r : List ℕ} (at : ℕ) → at + length s ≤ length l → r ≡ paste l at s (length s) → Put l at s r (at + length s)
put_copied {l} {s} at h e =
    record { is = e ∙ ap (λ (x : List ℕ). take at l ++ x ++ drop (at + length s) l) (take-length s) ∙ sym (sets-eq s l at h); next_is = refl }

pub put_line : {l line r : List ℕ} {n : ℕ} → Put l 0 line r n → n ≤ length l → Writes line l r n
put_line {l} {line} p h =
    record {
      is = p.is ∙ sets-eq line l 0 (omega (arith, p.next_is)) ∙ ap (λ (k : ℕ). line ++ drop k l) (zero-add (length line));
      long = p.next_is ∙ zero-add (length line);
    }

-- a text that is written fits in its buffer, and is its front

pub writes_fits : {text lent left : List ℕ} {count : ℕ} → Writes text lent left count → count ≤ length left
writes_fits {text} {lent} w = omega (arith, w.long, ap length w.is ∙ length-append text (drop (length text) lent))

pub writes_front : {text lent left : List ℕ} {count : ℕ} → Writes text lent left count → take count left ≡ text
writes_front {text} {lent} {count = count} w = ap (take count) w.is ∙ take_at text (drop (length text) lent) count (sym w.long)

-- a text at the front of a part of the buffer is stored there
pub part_put : {text part : List ℕ} {long : ℕ} (lent : List ℕ) (at room : ℕ) → at + room ≤ length lent → length part ≡ length (take room (drop at lent))
    → Writes text (take room (drop at lent)) part long → Put lent at text (put_mid at room lent part) (at + long)
part_put {text} {part} lent at room h l w =
    let rest = drop at lent in
    let whole : length (take room rest) ≡ room = length-take-le room rest (omega (arith, length-drop at lent)) in
    let fits : length text ≤ room = omega (arith, writes_fits w, w.long) in
    let after : drop (length text) (take room rest) ++ drop room rest ≡ drop (at + length text) lent =
    sym (drop-append-le (length text) (take room rest) (drop room rest) (omega arith))
    ∙ ap (drop (length text)) (take-append-drop room rest)
    ∙ drop-drop (length text) at lent in
    record {
      is =
          ap (λ (x : List ℕ). take at lent ++ (x ++ drop room rest)) w.is
          ∙ ap (λ (x : List ℕ). take at lent ++ x) (append_assoc text (drop (length text) (take room rest)) (drop room rest))
          ∙ ap (λ (x : List ℕ). take at lent ++ (text ++ x)) after
          ∙ sym (append_assoc (take at lent) text (drop (at + length text) lent))
          ∙ sym (sets-eq text lent at (omega arith));
      next_is = ap (λ (x : ℕ). at + x) w.long;
    }

-- the fields of a line one after another

pub read_line_lem : {l m₁ m₂ m₃ m₄ r : List ℕ} {f wrong a b d e n : ℕ} (reading : Reading) → PutField l 0 f read_text m₁ a
    → PutField m₁ a reading.house space m₂ b
    → PutField m₂ b reading.poll space m₃ d → PutField m₃ d reading.counter space m₄ e → PutField m₄ e wrong newline r n → 128 ≤ length l
    → Writes (read_line f reading wrong) l r n
unfolding read_line
read_line_lem {l} {r = r} {f} {wrong} {n = n} reading p₁ p₂ p₃ p₄ p₅ h =
    let p = put_then (put_then (put_then (put_then p₁.put p₂.put) p₃.put) p₄.put) p₅.put in
    put_line (simp append_assoc (simp append_assoc at p)) (omega (arith, p₁.most, p₂.most, p₃.most, p₄.most, p₅.most))

pub refused_line_lem : {l m r : List ℕ} {f given a n : ℕ} (refusal : Refusal) → given ≡ number_of refusal → PutField l 0 f refused_text m a
    → PutField m a given newline r n → 128 ≤ length l
    → Writes (refused_line f refusal) l r n
unfolding refused_line
refused_line_lem refusal e p₁ p₂ h =
    let p = put_then p₁.put p₂.put in
    put_line (simp append_assoc (simp (e, append_assoc) at p)) (omega (arith, p₁.most, p₂.most))

pub refusal_line_lem : {l m r : List ℕ} {given n : ℕ} (refusal : Refusal) → given ≡ number_of refusal → m ≡ paste l 0 refused_word (length refused_word)
    → PutField m 8 given newline r n → 128 ≤ length l → Writes (refusal_line refusal) l r n
unfolding refusal_line
refusal_line_lem {l} refusal e copied f h =
    let p = put_then {l = l} (put_copied {s = refused_word} 0 (omega arith) copied) f.put in
    put_line (simp append_assoc (rw e at p)) (omega (arith, f.most))
