-- Digits one after another, and the number that they spell.
use mathlib.Core.Path.{◌≡◌, ◌∙◌, sym, refl}
use mathlib.Core.List.{List, [], ◌∷◌, ◌++◌}
use Prim.Native.Nat.{ℕ, suc, ◌+◌, ◌-◌, ◌*◌, ◌≤◌, ◌<◌}
use native.Mathlib.Numerals.{add-one}
use native.Mathlib.Omega.{arith}
use lib.ListN.{length, get_or, drop, drop_of_length-le}
use lib.Seq.{drop-cons}
use Rattle.typed.specs.Says.{Digits, value_from, Number}
use Rattle.typed.specs.Work.{SpelledTo, WithDigit}

pub value_nil : (v : ℕ) → value_from v [] ≡ v
unfolding value_from
value_nil v = refl

pub value_cons : (v d : ℕ) (ds : List ℕ) → value_from v (d ∷ ds) ≡ value_from (10 * v + (d - 48)) ds
unfolding value_from
value_cons v d ds = refl

-- further digits never make a number smaller
value_least : (v : ℕ) (ds : List ℕ) → v ≤ value_from v ds
value_least v [] = rw (value_nil v) (omega arith)
value_least v (d ∷ ds) = rw (value_cons v d ds) (omega (arith, value_least (10 * v + (d - 48)) ds))

pub value_last : (v : ℕ) (ds : List ℕ) (d : ℕ) → value_from v (ds ++ (d ∷ [])) ≡ 10 * value_from v ds + (d - 48)
value_last v [] d = rw (value_cons v d [], value_nil (10 * v + (d - 48)), value_nil v)
value_last v (x ∷ ds) d = rw (value_cons v x (ds ++ (d ∷ [])), value_cons v x ds) (value_last (10 * v + (x - 48)) ds d)

pub digits_last : (ds : List ℕ) (d : ℕ) → Digits ds → 48 ≤ d → d ≤ 57 → Digits (ds ++ (d ∷ []))
digits_last [] d p h l = (h, l, tt)
digits_last (x ∷ ds) d p h l = (p.0, p.1, digits_last ds d p.2 h l)

-- from byte to byte

pub spelled_none : (text : List ℕ) → SpelledTo text 0 0
spelled_none text = record { value = refl; all = λ p. p; rest = λ p. p }

module _ (text : List ℕ) (i v : ℕ) (h : i < length text) (s : SpelledTo text i v) where
  next : value_from v (drop i text) ≡ value_from (10 * v + (get_or text i 0 - 48)) (drop (i + 1) text)
  next = rw (drop-cons text i 0 h, add-one i) (value_cons v (get_or text i 0) (drop (suc i) text))

  next_digits : Digits (drop i text) ≡ Digits (get_or text i 0 ∷ drop (i + 1) text)
  next_digits = rw (drop-cons text i 0 h, add-one i)

  pub spelled_more : {most n : ℕ} → WithDigit v (get_or text i 0) most n → SpelledTo text (i + 1) n
  spelled_more w =
      record {
        value = rw w.is (sym next ∙ s.value);
        all = λ p. s.all (rw next_digits (w.from, w.to, p));
        rest = λ p. (rw next_digits at (s.rest p)).2;
      }

  pub spelled_stuck : {most : ℕ} → ((n : ℕ) → WithDigit v (get_or text i 0) most n → ⊥) → (n : ℕ) → Number text (most + 1) n → ⊥
  spelled_stuck f n p =
      let d = rw next_digits at (s.rest p.digits) in
      let least = value_least (10 * v + (get_or text i 0 - 48)) (drop (i + 1) text) in
      f (10 * v + (get_or text i 0 - 48)) (record { from = d.0; to = d.1; is = refl; small = omega (arith, least, next, s.value, p.value, p.small) })

pub spelled_all : (text : List ℕ) (i v : ℕ) {below : ℕ} → length text ≤ i → SpelledTo text i v → v < below → 1 ≤ length text → length text ≤ 20
    → Number text below v
spelled_all text i v h s l some few =
    record {
      some = some;
      few = few;
      digits = s.all (rw (drop_of_length-le text h) tt);
      value = sym (value_nil v) ∙ rw (drop_of_length-le text h) at s.value;
      small = l;
    }
