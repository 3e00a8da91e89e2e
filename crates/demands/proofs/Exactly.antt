-- What each refusal of an operation that searches comes from, exactly: 6 if there is nothing to find. Decode, Decode kept, reading a frame.
use mathlib.Core.Path.{◌≡◌, ◌∙◌, refl, sym, ap}
use mathlib.Core.List.{List}
use mathlib.Core.Logic.{◌↔◌, ◌⊎◌, inl, inr}
use Prim.Native.Nat.{ℕ, ◌≤◌}
use native.Mathlib.Omega.{arith}
use Rattle.std.specs.Prelude.{Result, Ok, Err}
use Rattle.sheet.specs.Number.{outcome_of}
use Rattle.sheet.specs.declared.Refusal.{Refusal}
use Rattle.sheet.specs.declared.Refusal.TheVariants.{NothingNear}
use Rattle.sheet.specs.Verdict.{verdict}
use Rattle.sheet.proofs.VerdictLaws.{Verdict, passed, refused, verdict-cases, answer_is, same_refusal}
use Rattle.sheet.proofs.VerdictLaws.{never_refused, search_exactly, nothing_exactly}
use Rattle.bits.specs.Differences.{distance}
use Rattle.codes.specs.Look.{code_of, code_verdict}
use Rattle.codes.specs.Sums.{CodeWord}
use Rattle.decode.specs.Decode.{Decodes, Mended, Mends, Far, decode_checks}
use Rattle.kept.specs.declared.Kept.{Kept}
use Rattle.decode_kept.specs.DecodeKept.{DecodesKept, NoSet, decode_kept_checks}
use Rattle.layout.specs.Frame.{word_of}
use Rattle.frame.specs.declared.reading.ReadFrame.{ReadFrame}
use Rattle.frame.specs.Read.{Reads, ReadsReceived, near, far, frame_checks, lead_checks, given_by}
use Rattle.demands.specs.Words.{RefusedBy, NearLead}
use Rattle.demands.proofs.FrameOutcome.{says_any}

-- a code word within the radius is not further than the radius
not_far : {m t radius : ℕ} {received : List ℕ} (left : Mended) → Mends m t radius received left → Far m t radius received → ⊥
not_far left M f = f left.word M.code_word (omega (arith, M.counts, M.within))

module _ {m t : ℕ} {received lentWord lentList word list : List ℕ} (x : Result ℕ Refusal) (p : Decodes m t received lentWord lentList x word list) where
  pub decode_refused : (r : Refusal) → (outcome_of x ≡ Err r)
      ↔ RefusedBy (code_verdict m t (decode_checks received lentWord lentList)) r ((r ≡ NothingNear) × Far m t t received)
  decode_refused r = search_exactly p.promise (λ l M f. not_far l M f) r

  pub decode_nothing : (outcome_of x ≡ Err NothingNear) ↔ ((code_verdict m t (decode_checks received lentWord lentList) ≡ Ok tt) × Far m t t received)
  decode_nothing = nothing_exactly p.promise (tt, (tt, (tt, (tt, (tt, (tt, tt)))))) (λ l M f. not_far l M f)

module _ {stored : Kept} {lentWord lentList word list : List ℕ} (x : Result ℕ Refusal) (p : DecodesKept stored lentWord lentList x word list) where
  pub decode_kept_refused : (r : Refusal) → (outcome_of x ≡ Err r)
      ↔ RefusedBy (code_verdict stored.m stored.t (decode_kept_checks stored lentWord lentList)) r
      ((r ≡ NothingNear) × NoSet (code_of stored.m stored.t) stored)
  decode_kept_refused r = search_exactly p.promise (λ l M none. none M.places M.located) r

  pub decode_kept_nothing : (outcome_of x ≡ Err NothingNear)
      ↔ ((code_verdict stored.m stored.t (decode_kept_checks stored lentWord lentList) ≡ Ok tt) × NoSet (code_of stored.m stored.t) stored)
  decode_kept_nothing = nothing_exactly p.promise (tt, (tt, (tt, (tt, (tt, tt))))) (λ l M none. none M.places M.located)

-- reading a frame refuses by a check before mending, with 6, or by the lead of the mended word
module _ (frame : List ℕ) (x : Result ReadFrame Refusal) (p : Reads frame x) where
  pub read_refused : (r : Refusal) → (outcome_of x ≡ Err r)
      ↔ RefusedBy (verdict (frame_checks frame)) r (((r ≡ NothingNear) × Far 8 23 23 (word_of frame)) ⊎ NearLead (word_of frame) r)
  read_refused r = (λ e. there e (verdict-cases (verdict (frame_checks frame))), back)
    where
      received : outcome_of x ≡ Err r → ReadsReceived (word_of frame) (outcome_of x) (given_by x)
          → ((r ≡ NothingNear) × Far 8 23 23 (word_of frame)) ⊎ NearLead (word_of frame) r
      received e (near word C d w) = inr (word, C, d, sym (answer_is w) ∙ e)
      received e (far a f s) = inl (same_refusal (sym e ∙ a), f)

      there : outcome_of x ≡ Err r → Verdict (verdict (frame_checks frame))
          → RefusedBy (verdict (frame_checks frame)) r (((r ≡ NothingNear) × Far 8 23 23 (word_of frame)) ⊎ NearLead (word_of frame) r)
      there e (passed z) = inr (z, received e (p.done z))
      there e (refused s z) = inl (z ∙ sym (p.refused s z).0 ∙ e)

      no_word : r ≡ NothingNear → Far 8 23 23 (word_of frame) → ReadsReceived (word_of frame) (outcome_of x) (given_by x) → outcome_of x ≡ Err r
      no_word e f (near word C d w) = absurd (f word C d)
      no_word e f (far a g s) = a ∙ ap Err (sym e)

      lead : (word : List ℕ) → CodeWord 8 23 word → distance (word_of frame) word ≤ 23 → verdict (lead_checks word) ≡ Err r
          → ReadsReceived (word_of frame) (outcome_of x) (given_by x) → outcome_of x ≡ Err r
      lead word C d z (near other D k w) = answer_is (says_any frame D k w C d) ∙ z
      lead word C d z (far a f s) = absurd (f word C d)

      back : RefusedBy (verdict (frame_checks frame)) r (((r ≡ NothingNear) × Far 8 23 23 (word_of frame)) ⊎ NearLead (word_of frame) r)
          → outcome_of x ≡ Err r
      back (inl z) = (p.refused r z).0
      back (inr (z, inl (e, f))) = no_word e f (p.done z)
      back (inr (z, inr (word, C, d, l))) = lead word C d l (p.done z)

  pub read_nothing : (outcome_of x ≡ Err NothingNear) ↔ ((verdict (frame_checks frame) ≡ Ok tt) × Far 8 23 23 (word_of frame))
  read_nothing = (λ e. there ((read_refused NothingNear).0 e), λ (z, f). (read_refused NothingNear).1 (inr (z, inl (refl, f))))
    where
      there : RefusedBy (verdict (frame_checks frame)) NothingNear
          (((NothingNear ≡ NothingNear) × Far 8 23 23 (word_of frame)) ⊎ NearLead (word_of frame) NothingNear)
          → (verdict (frame_checks frame) ≡ Ok tt) × Far 8 23 23 (word_of frame)
      there (inl z) = absurd (never_refused (frame_checks frame) NothingNear (tt, (tt, tt)) z)
      there (inr (z, inl (e, f))) = (z, f)
      there (inr (z, inr (word, C, d, l))) = absurd (never_refused (lead_checks word) NothingNear (tt, tt) l)
