-- Edit leaves one outcome, the change it makes is the code word of the message's change, and nothing but the stretch and the parity changes.
use mathlib.Core.Path.{◌≡◌, ◌∙◌, refl, sym, ap, ap₂, subst}
use mathlib.Core.Bool.{false}
use mathlib.Core.List.{List, []}
use mathlib.Core.Logic.{◌↔◌, ◌⊎◌, inl, inr}
use Prim.Native.Nat.{ℕ, ◌+◌, ◌-◌, ◌≤◌, ◌<◌}
use native.Mathlib.Decide.{dec_lt}
use native.Mathlib.Omega.{arith}
use borrow.Author.Tests.{le-ltb, ltb-false}
use lib.Bits.{bit_xor}
use lib.ListN.{length, get_or, drop, replicate, length-drop, get_or-eq_default}
use lib.Seq.{paste, get_or-drop}
use Rattle.sheet.specs.Number.{Outcome}
use Rattle.std.specs.Prelude.{Ok}
use Rattle.sheet.proofs.VerdictLaws.{Verdict, passed, refused, verdict-cases, always_one, done_passed}
use Rattle.bits.specs.Bits.{runs_past, added}
use Rattle.bits.proofs.BitLaws.{added_at_lem, added_back, added_self, bits_added, length-added}
use Rattle.bits.proofs.Turns.{paste_at, paste_before, paste_after}
use Rattle.field.specs.Sum.{◌⊕◌}
use Rattle.field.specs.Power.{n_of}
use Rattle.field.proofs.SumLaws.{sum-zero}
use Rattle.codes.specs.declared.Code.{Code}
use Rattle.codes.specs.Look.{k_of, code_of, code_verdict}
use Rattle.codes.specs.Work.{Known}
use Rattle.codes.specs.Sums.{CodeWord}
use Rattle.codes.specs.Encoding.{Encoding}
use Rattle.codes.proofs.LookLaws.{known_listed}
use Rattle.codes.proofs.CheckLaws.{past, code_one}
use Rattle.codes.proofs.SumLaws.{sum_added}
use Rattle.codec.specs.Encode.{Encodes}
use Rattle.codec.specs.Edit.{Edits, Editing, edit_checks}
use Rattle.codec.specs.Work.{EditReady}
use Rattle.codec.proofs.EditLaws.{edit_ready}
use Rattle.demands.specs.Words.{edited_message, OnlyStretch}
use Rattle.demands.proofs.TheCode.{all-zeros}
use Rattle.demands.proofs.OneOutcome.{encoding_one}

-- an empty stretch passes check 12 exactly if its start is at most the end
pub empty_ends : (start end : ℕ) → (runs_past start 0 end ≡ false) ↔ (start ≤ end)
empty_ends start end = (λ e. omega (arith, ltb-false end (start + 0) e), λ h. le-ltb end (start + 0) (omega arith))

-- the message of a word with the stretch in it
abbrev edited : Code → List ℕ → ℕ → List ℕ → List ℕ
edited c word start stretch = paste (drop (c.n - c.k) word) start stretch (length stretch)

-- an encoding, with its message place counted from the code's own n
encoding : {c : Code} {message word : List ℕ} → Known c → CodeWord c.m c.t word
    → ((i : ℕ) → i < c.k → get_or word (c.n - c.k + i) 0 ≡ get_or message i 0) → Encoding c.m c.t c.k message word
encoding {c} {message} {word} K C f = record { code_word = C; carries = λ i h. ap (λ (n : ℕ). get_or word (n - c.k + i) 0) (sym K.is_n) ∙ f i h }

module _ {c : Code} {start : ℕ} {lent stretch : List ℕ} (R : EditReady c lent start stretch) where
  message_long : length (drop (c.n - c.k) lent) ≡ c.k
  message_long = omega (arith, length-drop (c.n - c.k) lent, R.long, R.known.within)

  message_places : {left : List ℕ} → Editing c lent start stretch left → (i : ℕ) → i < c.k
      → get_or left (c.n - c.k + i) 0 ≡ get_or (edited c lent start stretch) i 0
  message_places {left} E i h = pick (dec_lt i start) (dec_lt i (start + length stretch))
    where
      within : start ≤ length (drop (c.n - c.k) lent)
      within = omega (arith, message_long, R.ends)

      old : get_or (drop (c.n - c.k) lent) i 0 ≡ get_or lent (c.n - c.k + i) 0
      old = get_or-drop (c.n - c.k) lent i 0

      pick : Dec (i < start) → Dec (i < start + length stretch) → get_or left (c.n - c.k + i) 0 ≡ get_or (edited c lent start stretch) i 0
      pick (yes l) b = E.below i l ∙ sym (paste_before (drop (c.n - c.k) lent) start stretch i within l ∙ old)
      pick (no l) (yes b) =
          let e : start + (i - start) ≡ i = omega arith in
          subst (λ (p : ℕ). get_or left (c.n - c.k + p) 0 ≡ get_or (edited c lent start stretch) p 0) e
          (E.replaced (i - start) (omega arith) ∙ sym (paste_at (drop (c.n - c.k) lent) start stretch (i - start) within (omega arith)))
      pick (no l) (no b) = E.above i (omega arith) h ∙ sym (paste_after (drop (c.n - c.k) lent) start stretch i within (omega arith) ∙ old)

  -- the change of the whole word is the code word that carries the change of the message
  change_encodes : {left : List ℕ} → Editing c lent start stretch left
      → Encoding c.m c.t c.k (added (drop (c.n - c.k) lent) (edited c lent start stretch)) (added lent left)
  change_encodes {left} E =
      encoding R.known E.change
      (λ i h.
      added_at_lem lent left (c.n - c.k + i) (omega (arith, R.long, R.known.within))
      ∙ ap₂ bit_xor (sym (get_or-drop (c.n - c.k) lent i 0)) (message_places E i h)
      ∙ sym (added_at_lem (drop (c.n - c.k) lent) (edited c lent start stretch) i (omega (arith, message_long))))

  -- the change leads back to the edited word
  from_change : {left : List ℕ} → Editing c lent start stretch left → added lent (added lent left) ≡ left
  from_change {left} E = added_back lent left (R.long ∙ sym E.long) R.bits E.bits

  editing_one : {left left' : List ℕ} → Editing c lent start stretch left → Editing c lent start stretch left' → left ≡ left'
  editing_one a b = sym (from_change a) ∙ ap (added lent) (encoding_one (known_listed R.known) (change_encodes a) (change_encodes b)) ∙ from_change b

  editing_encodes : CodeWord c.m c.t lent → {left : List ℕ} → Editing c lent start stretch left
      → Encoding c.m c.t c.k (edited c lent start stretch) left
  editing_encodes C {left} E = encoding R.known (subst (CodeWord c.m c.t) (from_change E) sum) (message_places E)
    where
      sum : CodeWord c.m c.t (added lent (added lent left))
      sum =
          record {
            long = length-added lent (added lent left) ∙ R.long ∙ R.known.is_n;
            bits = bits_added R.bits E.change.bits;
            sums = λ j a b.
                sum_added R.known.of_m.listed j lent (added lent left) R.bits E.change.bits (omega (arith, length-added lent left))
                ∙ ap₂ (λ (x y : ℕ). x ⊕ y) (C.sums j a b) (E.change.sums j a b)
                ∙ sum-zero 0;
          }

  -- every place of the message is one of the stretch or as it was
  editing_only : {left : List ℕ} → Editing c lent start stretch left → (p : ℕ) → c.n - c.k ≤ p
      → (p < c.n - c.k + start) ⊎ (c.n - c.k + (start + length stretch) ≤ p)
      → get_or left p 0 ≡ get_or lent p 0
  editing_only {left} E p h o = subst (λ (q : ℕ). get_or left q 0 ≡ get_or lent q 0) back (pick o (dec_lt p c.n))
    where
      back : c.n - c.k + (p - (c.n - c.k)) ≡ p
      back = omega arith

      pick : (p < c.n - c.k + start) ⊎ (c.n - c.k + (start + length stretch) ≤ p) → Dec (p < c.n)
          → get_or left (c.n - c.k + (p - (c.n - c.k))) 0 ≡ get_or lent (c.n - c.k + (p - (c.n - c.k))) 0
      pick (inl l) b = E.below (p - (c.n - c.k)) (omega arith)
      pick (inr l) (yes b) = E.above (p - (c.n - c.k)) (omega arith) (omega (arith, R.known.within))
      pick (inr l) (no b) =
          get_or-eq_default left 0 {n = c.n - c.k + (p - (c.n - c.k))} (omega (arith, E.long))
          ∙ sym (get_or-eq_default lent 0 {n = c.n - c.k + (p - (c.n - c.k))} (omega (arith, R.long)))

-- to leave the word as it is is to put an empty stretch
editing_none : {c : Code} {start : ℕ} {lent : List ℕ} → EditReady c lent start [] → Editing c lent start [] lent
editing_none {c} {lent = lent} R =
    record {
      long = R.long;
      bits = R.bits;
      change = subst (CodeWord c.m c.t) (sym (added_self lent)) zeros;
      replaced = λ i h. absurd (omega arith);
      below = λ i h. refl;
      above = λ i h l. refl;
    }
  where
    zeros : CodeWord c.m c.t (replicate (length lent) 0)
    zeros = rw (R.long ∙ R.known.is_n) (all-zeros c.m c.t)

-- what the checks of an accepted edit leave
accepted : (m t : ℕ) (lent : List ℕ) (start : ℕ) (stretch : List ℕ) → code_verdict m t (edit_checks lent start stretch) ≡ Ok tt
    → EditReady (code_of m t) lent start stretch
accepted m t lent start stretch z =
    let p = past m t (edit_checks lent start stretch (code_of m t)) z in
    edit_ready lent start stretch p.known p.rest

pub edit_one : {m t start : ℕ} {lent stretch left left' : List ℕ} {x y : Outcome} → Edits m t lent start stretch x left → Edits m t lent start stretch y left'
    → (x ≡ y) × (left ≡ left')
edit_one {start = start} {lent} {stretch} p q = code_one (λ c K z a b. always_one (editing_one (edit_ready lent start stretch K z)) a b) p q

-- "The change of the whole word is exactly the code word whose message is the change of the message, also when the word was no code word."
pub edit_changes : {m t start : ℕ} {lent stretch left : List ℕ} {x : Outcome} → code_verdict m t (edit_checks lent start stretch) ≡ Ok tt
    → Edits m t lent start stretch x left
    → Encoding m t (k_of m t) (added (drop (n_of m - k_of m t) lent) (edited_message m t lent start stretch)) (added lent left)
edit_changes {m} {t} {start} {lent} {stretch} z p = change_encodes (accepted m t lent start stretch z) (p.promise.done z).did

-- a code word edited is the encoding of the edited message
pub edit_encodes : {m t start : ℕ} {lent stretch left : List ℕ} {x : Outcome} → CodeWord m t lent → Edits m t lent start stretch x left → x ≡ Ok tt
    → Encoding m t (k_of m t) (edited_message m t lent start stretch) left
edit_encodes {m} {t} {start} {lent} {stretch} C p e =
    let z = done_passed p.promise e in
    editing_encodes (accepted m t lent start stretch z) C (p.promise.done z).did

-- and what an accepted Encode of that message leaves in its buffer
pub edit_as_encoded : {m t start : ℕ} {lent stretch left lent' left' : List ℕ} {x y : Outcome} → CodeWord m t lent → Edits m t lent start stretch x left
    → x ≡ Ok tt → Encodes m t (edited_message m t lent start stretch) lent' y left' → y ≡ Ok tt → left ≡ left'
edit_as_encoded {m} {t} {start} {lent} {stretch} C p e q f =
    let K = (past m t (edit_checks lent start stretch (code_of m t)) (done_passed p.promise e)).known in
    encoding_one (known_listed K) (edit_encodes C p e) (q.promise.done (done_passed q.promise f)).did

-- only places of the stretch and of the parity change
pub edit_only : {m t start : ℕ} {lent stretch left : List ℕ} {x : Outcome} → Edits m t lent start stretch x left
    → OnlyStretch m t lent start (start + length stretch) left
edit_only {m} {t} {start} {lent} {stretch} {left} d = pick (verdict-cases (code_verdict m t (edit_checks lent start stretch)))
  where
    pick : Verdict (code_verdict m t (edit_checks lent start stretch)) → OnlyStretch m t lent start (start + length stretch) left
    pick (passed z) =
        let R = accepted m t lent start stretch z in
        let E = (d.promise.done z).did in
        record { long = E.long ∙ sym R.long; places = editing_only R E }
    pick (refused r z) =
        let e = (d.promise.refused r z).1 in
        record { long = ap length e; places = λ p h o. ap (λ (xs : List ℕ). get_or xs p 0) e }

-- an accepted empty stretch changes nothing
pub edit_nothing : {m t start : ℕ} {lent left : List ℕ} {x : Outcome} → code_verdict m t (edit_checks lent start []) ≡ Ok tt
    → Edits m t lent start [] x left → left ≡ lent
edit_nothing {m} {t} {start} {lent} z p =
    let R = accepted m t lent start [] z in
    editing_one R (p.promise.done z).did (editing_none R)
