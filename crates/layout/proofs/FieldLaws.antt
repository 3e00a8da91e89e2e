-- The lead of a word, and the fields of one whose lead is right.
use mathlib.Core.Path.{◌≡◌, ◌∙◌, sym, ap, ap₂}
use mathlib.Core.Bool.{Bool, true, false, not, ◌||◌, true≢false, or-true}
use mathlib.Core.List.{List}
use mathlib.Core.Logic.{◌≢◌}
use Prim.Native.Nat.{ℕ, zero, suc, ◌+◌, ◌-◌, ◌/◌, ◌%◌, ◌^◌, ◌≤◌, ◌<◌}
use native.Mathlib.Decide.{ℕ_discrete, dec_lt}
use native.Mathlib.Omega.{arith}
use borrow.Author.Tests.{eq-eqb, ne_eqb}
use lib.ListN.{get_or, replicate, get_or-replicate}
use Rattle.layout.specs.declared.message.Reading.{Reading}
use Rattle.layout.specs.Frame.{lead, message_bit, other_lead, lead_is_wrong, Carries}
use Rattle.layout.specs.Work.{Gathered}
use Rattle.layout.proofs.SentLaws.{air_place}
use Rattle.layout.proofs.MessageLaws.{message_counter, message_poll, message_house, message_lead}

-- digit e of a number that a word sends stands e places above its lowest
pub field_at : {word : List ℕ} {from n v : ℕ} → Gathered word from n v → from + n ≤ 255 → (e : ℕ) → e < n → get_or word (255 - (from + n) + e) 0 ≡ v / 2 ^ e % 2
field_at {word} {from} {n} {v} g fits e h =
    let p : 254 - (from + (n - 1 - e)) ≡ 255 - (from + n) + e = omega arith in
    let q : n - 1 - (n - 1 - e) ≡ e = omega arith in
    sym (ap (λ (x : ℕ). v / 2 ^ x % 2) (sym q) ∙ g.digits.at (n - 1 - e) (omega arith) ∙ air_place word (omega arith) ∙ ap (λ (x : ℕ). get_or word x 0) p)

-- the first n bits of the lead are sent, each under its number
pub record SendsLead (word : List ℕ) (n : ℕ) : Type 0 where
  pub at : (q : ℕ) → q < n → get_or word (254 - q) 0 ≡ get_or lead q 0

pub sends_next : {word : List ℕ} {n : ℕ} → SendsLead word n → get_or word (254 - n) 0 ≡ get_or lead n 0 → SendsLead word (n + 1)
sends_next {word} {n} sent next = record { at = λ q h. pick q h (dec_lt q n) }
  where
    pick : (q : ℕ) → q < n + 1 → Dec (q < n) → get_or word (254 - q) 0 ≡ get_or lead q 0
    pick q h (yes l) = sent.at q l
    pick q h (no l) =
        let e : q ≡ n = omega arith in
        rw e next

-- the lead is right exactly if all three bits are sent so

pub lead_wrong : (word : List ℕ) (q : ℕ) → q < 3 → get_or word (254 - q) 0 ≢ get_or lead q 0 → lead_is_wrong word ≡ true
unfolding lead_is_wrong
lead_wrong word q h n = at q h (ap not (ne_eqb (get_or word (254 - q) 0) (get_or lead q 0) n))
  where
    a : Bool
    a = other_lead word 0

    b : Bool
    b = other_lead word 1

    d : Bool
    d = other_lead word 2

    at : (i : ℕ) → i < 3 → other_lead word i ≡ true → (a || b || d) ≡ true
    at zero l e = ap (λ (x : Bool). x || b || d) e
    at (suc zero) l e = ap (λ (x : Bool). a || x || d) e ∙ ap (λ (x : Bool). x || d) (or-true a)
    at (suc (suc zero)) l e = ap (λ (x : Bool). a || b || x) e ∙ or-true (a || b)
    at (suc (suc (suc i))) l e = absurd (omega arith)

pub lead_right : (word : List ℕ) → SendsLead word 3 → lead_is_wrong word ≡ false
unfolding lead_is_wrong
lead_right word sent = ap₂ ◌||◌ (ap₂ ◌||◌ (same 0 (omega arith)) (same 1 (omega arith))) (same 2 (omega arith))
  where
    same : (q : ℕ) → q < 3 → other_lead word q ≡ false
    same q h = ap not (eq-eqb (get_or word (254 - q) 0) (get_or lead q 0) (sent.at q h))

lead_sent : (word : List ℕ) → lead_is_wrong word ≡ false → SendsLead word 3
lead_sent word z = record { at = λ q h. pick q h (ℕ_discrete (get_or word (254 - q) 0) (get_or lead q 0)) }
  where
    pick : (q : ℕ) → q < 3 → Dec (get_or word (254 - q) 0 ≡ get_or lead q 0) → get_or word (254 - q) 0 ≡ get_or lead q 0
    pick q h (yes e) = e
    pick q h (no n) = absurd (true≢false (sym (lead_wrong word q h n) ∙ z))

-- the lead has a 1 and a 0, so a word that is the same bit all over does not send it
pub same_bit_wrong : (bit : ℕ) → lead_is_wrong (replicate 255 bit) ≡ true
unfolding lead
same_bit_wrong bit = pick (ℕ_discrete bit 1)
  where
    at : (q : ℕ) → q < 3 → get_or (replicate 255 bit) (254 - q) 0 ≡ bit
    at q h = get_or-replicate 255 (254 - q) bit 0 (omega arith)

    pick : Dec (bit ≡ 1) → lead_is_wrong (replicate 255 bit) ≡ true
    pick (yes e) = lead_wrong (replicate 255 bit) 1 (omega arith) (λ z. absurd (omega (arith, at 1 (omega arith))))
    pick (no n) = lead_wrong (replicate 255 bit) 0 (omega arith) (λ z. n (sym (at 0 (omega arith)) ∙ z))

-- the three fields of a word whose lead is right
module _ {word : List ℕ} {house poll counter : ℕ} (z : lead_is_wrong word ≡ false) (h : Gathered word 3 16 house)
    (p : Gathered word 19 16 poll) (q : Gathered word 35 64 counter) where
  abbrev pub told : Reading
  told = record { house = house; poll = poll; counter = counter }

  lead_at : (i : ℕ) → 96 ≤ i → i < 99 → get_or word (156 + i) 0 ≡ get_or lead (98 - i) 0
  lead_at i l k =
      let e : 254 - (98 - i) ≡ 156 + i = omega arith in
      ap (λ (x : ℕ). get_or word x 0) (sym e) ∙ (lead_sent word z).at (98 - i) (omega arith)

  pub carried : Carries told word
  carried =
      record {
        lawful = record { house = h.digits.below; poll = p.digits.below; counter = q.digits.below };
        message = λ i k. pick i k (dec_lt i 64) (dec_lt i 80) (dec_lt i 96);
      }
    where
      pick : (i : ℕ) → i < 99 → Dec (i < 64) → Dec (i < 80) → Dec (i < 96) → get_or word (156 + i) 0 ≡ message_bit told i
      pick i k (yes l) b d = field_at q (omega arith) i l ∙ sym (message_counter told l)
      pick i k (no a) (yes l) d =
          let e : 220 + (i - 64) ≡ 156 + i = omega arith in
          ap (λ (x : ℕ). get_or word x 0) (sym e) ∙ field_at p (omega arith) (i - 64) (omega arith) ∙ sym (message_poll told (omega arith) l)
      pick i k (no a) (no b) (yes l) =
          let e : 236 + (i - 80) ≡ 156 + i = omega arith in
          ap (λ (x : ℕ). get_or word x 0) (sym e) ∙ field_at h (omega arith) (i - 80) (omega arith) ∙ sym (message_house told (omega arith) l)
      pick i k (no a) (no b) (no d) = lead_at i (omega arith) k ∙ sym (message_lead told (omega arith))
