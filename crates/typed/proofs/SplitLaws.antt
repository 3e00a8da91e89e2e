-- A line is split at its first blank, in one way.
use Rattle.std.proofs.Common.{◌≡◌, ◌==◌, ◌∙◌, sym, refl, ap, ap₂, subst, ℕ, ◌+◌, ◌-◌, ◌<◌, ◌≤◌, List, [], ◌∷◌, ◌++◌, length, take, drop, arith, Option, Some}
use Rattle.std.proofs.Common.{None, Result, Ok, Err}
use Rattle.std.proofs.Common.{take-append-drop, position, add-one, length-drop, drop-cons}
use Rattle.std.proofs.Math.Seq.{take-length}
use Rattle.std.proofs.lemmas.Option.{same_Some, none-some}
use Rattle.std.proofs.lemmas.Bool.Decides.{nat_tests}
use Rattle.std.proofs.lemmas.List.{length-append}
use Rattle.std.proofs.Math.Seq.{drop-append-add}
use Rattle.std.proofs.lemmas.List.Quantifiers.{position-Some}
use Rattle.std.specs.List.{position_or_len}
use Rattle.std.specs.Result.{OkIff, result_ok}
use Rattle.typed.specs.Says.{Digits, value_from, Number, NumberThen}

abbrev blank_at : List ℕ → Option ℕ
blank_at line = position (λ b. b == 32) line

-- digits are no blanks

digits_first : (ds x : List ℕ) → Digits ds → position_or_len (λ b. b == 32) (ds ++ (32 ∷ x)) ≡ length ds
digits_first [] x p = refl
digits_first (d ∷ ds) x p = grind (arith, nat_tests, digits_first ds x p.2, p.0)

after_digits : (ds x : List ℕ) → Digits ds → blank_at (ds ++ (32 ∷ x)) ≡ Some (length ds)
after_digits ds x p = grind (arith, nat_tests, digits_first ds x p, length-append ds (32 ∷ x))

front : (a x : List ℕ) → take (length a) (a ++ (32 ∷ x)) ≡ a
front [] x = refl
front (d ∷ a) x = ap (λ r. d ∷ r) (front a x)

rest : (a x : List ℕ) → drop (length a + 1) (a ++ (32 ∷ x)) ≡ x
rest a x = drop-append-add a (32 ∷ x) 1

-- the slice from place i + 1 on
abbrev past : List ℕ → ℕ → List ℕ
past line i = take (length line - (i + 1)) (drop (i + 1) line)

past_all : (line : List ℕ) (i : ℕ) → past line i ≡ drop (i + 1) line
past_all line i = ap (λ (k : ℕ). take k (drop (i + 1) line)) (sym (length-drop (i + 1) line)) ∙ take-length (drop (i + 1) line)

-- the first blank stands after the number
pub ends_at : {line : List ℕ} {below n : ℕ} {After : List ℕ → Type 0} (p : NumberThen line below n After) → Some (length p.text) ≡ blank_at line
ends_at p = sym (ap blank_at p.is ∙ after_digits p.text p.rest p.number.digits)

parts : {line : List ℕ} {i below n : ℕ} {After : List ℕ → Type 0} → Some i ≡ blank_at line → (p : NumberThen line below n After)
    → (take i line ≡ p.text) × (past line i ≡ p.rest)
parts {line} {i} at p =
    let e : i ≡ length p.text = same_Some _ _ (at ∙ sym (ends_at p)) in
    (ap₂ take e p.is ∙ front p.text p.rest, past_all line i ∙ ap₂ (λ k l. drop (k + 1) l) e p.is ∙ rest p.text p.rest)

-- two numbers with more after them at the front of one line
pub same_parts : {line : List ℕ} {below n m : ℕ} {A B : List ℕ → Type 0} (p : NumberThen line below n A) (q : NumberThen line below m B)
    → (n ≡ m) × (p.rest ≡ q.rest)
same_parts p q =
    let a = parts (ends_at q) p in
    let b = parts (ends_at q) q in
    (p.number.value ∙ ap (value_from 0) (sym a.0 ∙ b.0) ∙ sym q.number.value, sym a.1 ∙ b.1)

-- what a line says after its first number, it says of the rest alone

pub alone : {line : List ℕ} {below n : ℕ} {After : List ℕ → Type 0} (p : NumberThen line below n After) → NumberThen line below n (λ r. r ≡ p.rest)
alone p = record { text = p.text; rest = p.rest; is = p.is; number = p.number; after = refl }

pub says_after : {line rest : List ℕ} {below n m : ℕ} {After : List ℕ → Type 0} → NumberThen line below n (λ r. r ≡ rest) → NumberThen line below m After
    → After rest
says_after {After = After} p q = subst After (sym (same_parts p q).1 ∙ p.after) q.after

-- a line is split at its first blank

pub no_parts : {line rest : List ℕ} {below n : ℕ} → None ≡ blank_at line → NumberThen line below n (λ r. r ≡ rest) → ⊥
no_parts at p = none-some _ (at ∙ sym (ends_at p))

pub number_before : {line rest : List ℕ} {i below n : ℕ} → Some i ≡ blank_at line → NumberThen line below n (λ r. r ≡ rest) → Number (take i line) below n
number_before {below} {n} at p = subst (λ t. Number t below n) (sym (parts at p).0) p.number

pub then_rest : {line : List ℕ} {i below n : ℕ} → Some i ≡ blank_at line → Number (take i line) below n → NumberThen line below n (λ r. r ≡ past line i)
then_rest {line} {i} at p =
    let h = position-Some (λ b. b == 32) line i 0 (sym at) in
    let tail = ap (λ k. drop k line) (sym (add-one i)) ∙ sym (past_all line i) in
    let d : drop i line ≡ 32 ∷ past line i = drop-cons line i 0 h.0 ∙ ap₂ (λ u l. u ∷ l) (grind (arith, nat_tests)) tail in
    record { text = take i line; rest = past line i; is = sym (take-append-drop i line) ∙ ap (λ r. take i line ++ r) d; number = p; after = refl }

pub below_more : {text : List ℕ} {below more n : ℕ} → Number text below n → below ≤ more → Number text more n
below_more p h = record { some = p.some; few = p.few; digits = p.digits; value = p.value; small = omega (arith, p.small) }

-- a number that is cut down to a smaller bound, or too large for it

pub cut_down : {E : Type 0} {text : List ℕ} {below less n m : ℕ} (r : Result ℕ E) → OkIff r (n < less) n → Some m ≡ result_ok r
    → Number text below n → Number text less m
cut_down {text = text} {less = less} {n = n} {m = m} (Ok x) h e p =
    let same : m ≡ n = same_Some _ _ e ∙ h.1 in
    record { some = p.some; few = p.few; digits = p.digits; value = same ∙ p.value; small = rw same h.0 }
cut_down (Err x) h e p = absurd (none-some _ (sym e))

pub too_large : {E : Type 0} {text : List ℕ} {below less n m : ℕ} (r : Result ℕ E) → OkIff r (n < less) n → None ≡ result_ok r
    → Number text below n → Number text less m → ⊥
too_large (Ok x) h e p q = none-some _ e
too_large {less = less} {n = n} {m = m} (Err x) h e p q =
    let same : n ≡ m = p.value ∙ sym q.value in
    h (rw same q.small)
