-- The lines of a text that comes in two pieces, and what these lines give.
use mathlib.Core.Path.{◌≡◌, ◌∙◌, refl, sym, ap, ap₂, subst}
use mathlib.Core.List.{List, [], ◌∷◌, ◌++◌, append-nil, append_assoc}
use Prim.Native.Nat.{ℕ, suc, ◌+◌, ◌≤◌}
use native.Mathlib.Decide.{ℕ_discrete}
use native.Mathlib.Nat.{add-zero}
use native.Mathlib.Omega.{arith}
use borrow.Author.Tests.{eq-eqb, ne_eqb}
use lib.ListN.{length, length-append}
use Rattle.maker.specs.declared.Progress.{Progress}
use Rattle.maker.specs.Making.{lines_of, begun_of, Gives, GiveAll, none, more, Holds, Takes}

pub lines_nil : (begun : List ℕ) → lines_of begun [] ≡ []
unfolding lines_of
lines_nil begun = refl

pub begun_nil : (begun : List ℕ) → begun_of begun [] ≡ begun
unfolding begun_of
begun_nil begun = refl

-- the byte is a newline

lines_end : (begun : List ℕ) (b : ℕ) (bs : List ℕ) → b ≡ 10 → lines_of begun (b ∷ bs) ≡ begun ∷ lines_of [] bs
unfolding lines_of
lines_end begun b bs e = rw (eq-eqb b 10 e)

begun_end : (begun : List ℕ) (b : ℕ) (bs : List ℕ) → b ≡ 10 → begun_of begun (b ∷ bs) ≡ begun_of [] bs
unfolding begun_of
begun_end begun b bs e = rw (eq-eqb b 10 e)

-- the byte is not a newline

lines_on : (begun : List ℕ) (b : ℕ) (bs : List ℕ) → (b ≡ 10 → ⊥) → lines_of begun (b ∷ bs) ≡ lines_of (begun ++ (b ∷ [])) bs
unfolding lines_of
lines_on begun b bs n = rw (ne_eqb b 10 n)

begun_on : (begun : List ℕ) (b : ℕ) (bs : List ℕ) → (b ≡ 10 → ⊥) → begun_of begun (b ∷ bs) ≡ begun_of (begun ++ (b ∷ [])) bs
unfolding begun_of
begun_on begun b bs n = rw (ne_eqb b 10 n)

-- one byte

pub line_ends : (begun : List ℕ) → lines_of begun (10 ∷ []) ≡ begun ∷ []
line_ends begun = lines_end begun 10 [] refl ∙ ap (λ (ls : List (List ℕ)). begun ∷ ls) (lines_nil [])

pub begun_ends : (begun : List ℕ) → begun_of begun (10 ∷ []) ≡ []
begun_ends begun = begun_end begun 10 [] refl ∙ begun_nil []

pub line_goes_on : (begun : List ℕ) (b : ℕ) → (b ≡ 10 → ⊥) → lines_of begun (b ∷ []) ≡ []
line_goes_on begun b n = lines_on begun b [] n ∙ lines_nil (begun ++ (b ∷ []))

pub begun_goes_on : (begun : List ℕ) (b : ℕ) → (b ≡ 10 → ⊥) → begun_of begun (b ∷ []) ≡ begun ++ (b ∷ [])
begun_goes_on begun b n = begun_on begun b [] n ∙ begun_nil (begun ++ (b ∷ []))

-- two pieces

pub begun_append : (begun xs ys : List ℕ) → begun_of begun (xs ++ ys) ≡ begun_of (begun_of begun xs) ys
begun_append begun [] ys = ap (λ (o : List ℕ). begun_of o ys) (sym (begun_nil begun))
begun_append begun (b ∷ xs) ys = pick (ℕ_discrete b 10) (begun_append [] xs ys) (begun_append (begun ++ (b ∷ [])) xs ys)
  where
    pick : Dec (b ≡ 10) → begun_of [] (xs ++ ys) ≡ begun_of (begun_of [] xs) ys
        → begun_of (begun ++ (b ∷ [])) (xs ++ ys) ≡ begun_of (begun_of (begun ++ (b ∷ [])) xs) ys
        → begun_of begun (b ∷ (xs ++ ys)) ≡ begun_of (begun_of begun (b ∷ xs)) ys
    pick (yes e) p q = begun_end begun b (xs ++ ys) e ∙ p ∙ ap (λ (o : List ℕ). begun_of o ys) (sym (begun_end begun b xs e))
    pick (no n) p q = begun_on begun b (xs ++ ys) n ∙ q ∙ ap (λ (o : List ℕ). begun_of o ys) (sym (begun_on begun b xs n))

pub lines_append : (begun xs ys : List ℕ) → lines_of begun (xs ++ ys) ≡ lines_of begun xs ++ lines_of (begun_of begun xs) ys
lines_append begun [] ys = sym (ap₂ (λ (ls : List (List ℕ)) (o : List ℕ). ls ++ lines_of o ys) (lines_nil begun) (begun_nil begun))
lines_append begun (b ∷ xs) ys = pick (ℕ_discrete b 10) (lines_append [] xs ys) (lines_append (begun ++ (b ∷ [])) xs ys)
  where
    pick : Dec (b ≡ 10) → lines_of [] (xs ++ ys) ≡ lines_of [] xs ++ lines_of (begun_of [] xs) ys
        → lines_of (begun ++ (b ∷ [])) (xs ++ ys) ≡ lines_of (begun ++ (b ∷ [])) xs ++ lines_of (begun_of (begun ++ (b ∷ [])) xs) ys
        → lines_of begun (b ∷ (xs ++ ys)) ≡ lines_of begun (b ∷ xs) ++ lines_of (begun_of begun (b ∷ xs)) ys
    pick (yes e) p q =
        lines_end begun b (xs ++ ys) e
        ∙ ap (λ (ls : List (List ℕ)). begun ∷ ls) p
        ∙ sym (ap₂ (λ (ls : List (List ℕ)) (o : List ℕ). ls ++ lines_of o ys) (lines_end begun b xs e) (begun_end begun b xs e))
    pick (no n) p q =
        lines_on begun b (xs ++ ys) n
        ∙ q
        ∙ sym (ap₂ (λ (ls : List (List ℕ)) (o : List ℕ). ls ++ lines_of o ys) (lines_on begun b xs n) (begun_on begun b xs n))

-- each byte ends one line at most
pub lines_few : (begun bytes : List ℕ) → length (lines_of begun bytes) ≤ length bytes
lines_few begun [] = omega (arith, ap length (lines_nil begun))
lines_few begun (b ∷ bs) = pick (ℕ_discrete b 10) (lines_few [] bs) (lines_few (begun ++ (b ∷ [])) bs)
  where
    pick : Dec (b ≡ 10) → length (lines_of [] bs) ≤ length bs → length (lines_of (begun ++ (b ∷ [])) bs) ≤ length bs
        → length (lines_of begun (b ∷ bs)) ≤ length (b ∷ bs)
    pick (yes e) p q = omega (arith, ap length (lines_end begun b bs e))
    pick (no n) p q = omega (arith, ap length (lines_on begun b bs n))

-- what lines give

pub give_one : {number : ℕ} {line frames names : List ℕ} → Gives number line frames names → GiveAll number (line ∷ []) frames names
give_one {number} {line} {frames} {names} g =
    let p : GiveAll number (line ∷ []) (frames ++ []) (names ++ []) = more g none in
    rw (append-nil frames, append-nil names) at p

pub give_append : {number : ℕ} {ls ms : List (List ℕ)} {f a g b : List ℕ} → GiveAll number ls f a → GiveAll (number + length ls) ms g b
    → GiveAll number (ls ++ ms) (f ++ g) (a ++ b)
give_append {number} none q = rw (add-zero number) at q
give_append {number} {ms = ms} {g = g} {b = b} (more {line = line} {frame} {name} {lines} {frames} {names} p r) q =
    let e : number + suc (length lines) ≡ number + 1 + length lines = omega arith in
    let s : GiveAll number (line ∷ (lines ++ ms)) (frame ++ (frames ++ g)) (name ++ (names ++ b)) =
    more p (give_append r (subst (λ (n : ℕ). GiveAll n ms g b) e q)) in
    rw (append_assoc frame frames g, append_assoc name names b) s

-- no bytes, and bytes after others

pub takes_none : (at : Progress) {line begun : List ℕ} → Holds line at.held begun → Takes at.lines begun [] [] [] at line
takes_none at {begun = begun} o =
    record { gives = rw (lines_nil begun) none; counts = omega (arith, ap length (lines_nil begun)); holds = rw (begun_nil begun) o }

pub takes_then : {lines : ℕ} {begun xs ys f a g b line line' : List ℕ} {mid next : Progress} → Takes lines begun xs f a mid line
    → Takes mid.lines (begun_of begun xs) ys g b next line' → Takes lines begun (xs ++ ys) (f ++ g) (a ++ b) next line'
takes_then {lines} {begun} {xs} {ys} {g = g} {b} {mid = mid} p q =
    let e : mid.lines + 1 ≡ lines + 1 + length (lines_of begun xs) = omega (arith, p.counts) in
    let all = lines_append begun xs ys in
    record {
      gives = rw all (give_append p.gives (subst (λ (n : ℕ). GiveAll n (lines_of (begun_of begun xs) ys) g b) e q.gives));
      counts = omega (arith, p.counts, q.counts, ap length all, length-append (lines_of begun xs) (lines_of (begun_of begun xs) ys));
      holds = rw (begun_append begun xs ys) q.holds;
    }
