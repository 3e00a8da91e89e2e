-- A line stuck at zero or at one, with up to 23 changed bits, is refused.
use mathlib.Core.Path.{◌≡◌, ◌∙◌, refl, ap}
use mathlib.Core.List.{List, []}
use mathlib.Core.Logic.{◌⊎◌, inl, inr}
use Prim.Native.Nat.{ℕ}
use native.Mathlib.Decide.{ℕ_discrete}
use native.Mathlib.Omega.{arith}
use borrow.Author.Tests.{eq-eqb, ne_eqb}
use lib.ListN.{replicate}
use Rattle.std.specs.Prelude.{Result, Err}
use Rattle.sheet.specs.declared.Refusal.{Refusal}
use Rattle.sheet.specs.declared.Refusal.TheVariants.{PadBit, LeadBits}
use Rattle.sheet.specs.Number.{outcome_of}
use Rattle.sheet.specs.Verdict.{verdict}
use Rattle.sheet.proofs.VerdictLaws.{equal, unequal}
use Rattle.codes.specs.Sums.{CodeWord}
use Rattle.codes.proofs.CheckLaws.{code_passes}
use Rattle.layout.specs.Frame.{sent_bit}
use Rattle.layout.proofs.SentLaws.{sent_small}
use Rattle.layout.proofs.FieldLaws.{same_bit_wrong}
use Rattle.frame.specs.declared.reading.ReadFrame.{ReadFrame}
use Rattle.frame.specs.Read.{Reads, frame_checks, lead_checks}
use Rattle.frame.proofs.CodeLaws.{known}
use Rattle.frame.proofs.ReadLaws.{frame_passes}
use Rattle.line.specs.Line.{line_of, refused_line}
use Rattle.lister.specs.Listing.{LineOf}
use Rattle.demands.specs.Words.{StuckAt, pad_or_lead}
use Rattle.demands.proofs.OneOutcome.{refused_is}
use Rattle.demands.proofs.TheCode.{all-zeros, all_ones}
use Rattle.demands.proofs.Exactly.{read_refused}

-- the word is one bit all over, and a code word
stuck_at : (frame : List ℕ) {bit : ℕ} (x : Result ReadFrame Refusal) → CodeWord 8 23 (replicate 255 bit) → StuckAt bit frame → Reads frame x
    → outcome_of x ≡ Err (pad_or_lead frame)
stuck_at frame {bit} x C s p = pick (ℕ_discrete (sent_bit frame 255) 1)
  where
    pick : Dec (sent_bit frame 255 ≡ 1) → outcome_of x ≡ Err (pad_or_lead frame)
    pick (yes e) =
        let set = unequal {a = sent_bit frame 255} {b = 0} (λ z. absurd (omega arith)) in
        let refuses : verdict (frame_checks frame) ≡ Err PadBit = rw (equal s.long, set) refl in
        rw (eq-eqb (sent_bit frame 255) 1 e) ((read_refused frame x p PadBit).1 (inl refuses))
    pick (no n) =
        let pad : sent_bit frame 255 ≡ 0 = omega (arith, sent_small frame 255) in
        let refuses : verdict (lead_checks (replicate 255 bit)) ≡ Err LeadBits = rw (same_bit_wrong bit) refl in
        rw (ne_eqb (sent_bit frame 255) 1 n)
        ((read_refused frame x p LeadBits).1 (inr (frame_passes frame s.long pad, inr (replicate 255 bit, C, s.changed, refuses))))

pub stuck_refused : (frame : List ℕ) (x : Result ReadFrame Refusal) → StuckAt 0 frame ⊎ StuckAt 1 frame → Reads frame x → outcome_of x ≡ Err (pad_or_lead frame)
stuck_refused frame x (inl s) p = stuck_at frame x (all-zeros 8 23) s p
stuck_refused frame x (inr s) p = stuck_at frame x (all_ones (code_passes known [] tt)) s p

-- its line in the listing
pub stuck_listed : (frame : List ℕ) {number : ℕ} {line : List ℕ} → StuckAt 0 frame ⊎ StuckAt 1 frame → LineOf number frame line
    → line ≡ refused_line number (pad_or_lead frame)
stuck_listed frame {number} s p =
    p.is ∙ ap (line_of number) (refused_is p.answer (stuck_refused frame p.answer s p.reads))
