-- Ascending lists of places: which places are members, and that the members determine the list.
use mathlib.Core.Path.{◌≡◌, refl, sym, ap, ap₂}
use mathlib.Core.Logic.{◌⊎◌, inl, inr}
use mathlib.Core.List.Memᴰ
use mathlib.Core.List.{List, [], ◌∷◌, map, Memᴰ}
use Prim.Native.Nat.{ℕ, zero, suc, ◌<◌}
use native.Mathlib.Decide.{ℕ_discrete}
use native.Mathlib.Omega.{arith}
use lib.ListN.{length, get_or}
use Rattle.bits.specs.Differences.{Ascending}

pub member? : (p : ℕ) (ps : List ℕ) → Dec (Memᴰ p ps)
member? p [] = no Memᴰ.not-nil
member? p (q ∷ ps) = pick (ℕ_discrete p q) (member? p ps)
  where
    pick : Dec (p ≡ q) → Dec (Memᴰ p ps) → Dec (Memᴰ p (q ∷ ps))
    pick (yes e) d = yes (Memᴰ.head e)
    pick (no e) (yes k) = yes (Memᴰ.tail k)
    pick (no e) (no k) = no (λ l. other (Memᴰ.cases_cons l))
      where
        other : (p ≡ q) ⊎ Memᴰ p ps → ⊥
        other (inl d) = e d
        other (inr l) = k l

-- what stands at an index is a member

pub member_at : (ps : List ℕ) (i : ℕ) → i < length ps → Memᴰ (get_or ps i 0) ps
member_at [] i h = absurd (omega arith)
member_at (p ∷ ps) zero h = Memᴰ.head refl
member_at (p ∷ ps) (suc i) h = Memᴰ.tail (member_at ps i (omega arith))

-- the places one further on

pub later_member : {p : ℕ} (ps : List ℕ) → Memᴰ p ps → Memᴰ (suc p) (map suc ps)
later_member [] k = absurd (Memᴰ.not-nil k)
later_member (q ∷ ps) (Memᴰ.head e) = Memᴰ.head (ap suc e)
later_member (q ∷ ps) (Memᴰ.tail k) = Memᴰ.tail (later_member ps k)

pub member_later : {p : ℕ} (ps : List ℕ) → Memᴰ p (map suc ps) → (q : ℕ) × (p ≡ suc q) × Memᴰ q ps
member_later [] k = absurd (Memᴰ.not-nil k)
member_later (q ∷ ps) (Memᴰ.head e) = (q, e, Memᴰ.head refl)
member_later (q ∷ ps) (Memᴰ.tail k) =
    let (r, e, l) = member_later ps k in
    (r, e, Memᴰ.tail l)

pub ascending_later : (ps : List ℕ) → Ascending ps → Ascending (map suc ps)
ascending_later [] A = tt
ascending_later (p ∷ ps) A = (above, ascending_later ps A.1)
  where
    above : (q : ℕ) → Memᴰ q (map suc ps) → suc p < q
    above q k =
        let (r, e, l) = member_later ps k in
        omega (arith, e, A.0 r l)

-- two ascending lists with the same members are the same list

ascending_first : {p q : ℕ} (ps qs : List ℕ) → Ascending (p ∷ ps) → Ascending (q ∷ qs) → Memᴰ p (q ∷ qs) → Memᴰ q (p ∷ ps) → p ≡ q
ascending_first {p} {q} ps qs A B (Memᴰ.head e) l = e
ascending_first {p} {q} ps qs A B (Memᴰ.tail k) (Memᴰ.head e) = sym e
ascending_first {p} {q} ps qs A B (Memᴰ.tail k) (Memᴰ.tail l) = absurd (omega (arith, A.0 q l, B.0 p k))

rest_members : {p q : ℕ} (ps qs : List ℕ) → Ascending (p ∷ ps) → p ≡ q → ((r : ℕ) → Memᴰ r (p ∷ ps) → Memᴰ r (q ∷ qs))
    → (r : ℕ) → Memᴰ r ps → Memᴰ r qs
rest_members {p} {q} ps qs A e h r k = pick (Memᴰ.cases_cons (h r (Memᴰ.tail k)))
  where
    pick : (r ≡ q) ⊎ Memᴰ r qs → Memᴰ r qs
    pick (inl d) = absurd (omega (arith, A.0 r k))
    pick (inr l) = l

pub ascending_same : (ps qs : List ℕ) → Ascending ps → Ascending qs → ((p : ℕ) → Memᴰ p ps → Memᴰ p qs)
    → ((p : ℕ) → Memᴰ p qs → Memᴰ p ps) → ps ≡ qs
ascending_same [] [] A B h l = refl
ascending_same [] (q ∷ qs) A B h l = absurd (Memᴰ.not-nil (l q (Memᴰ.head refl)))
ascending_same (p ∷ ps) [] A B h l = absurd (Memᴰ.not-nil (h p (Memᴰ.head refl)))
ascending_same (p ∷ ps) (q ∷ qs) A B h l =
    let e : p ≡ q = ascending_first ps qs A B (h p (Memᴰ.head refl)) (l q (Memᴰ.head refl)) in
    ap₂ (λ r rs. r ∷ rs) e (ascending_same ps qs A.1 B.1 (rest_members ps qs A e h) (rest_members qs ps B (sym e) l))
