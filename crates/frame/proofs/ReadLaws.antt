-- What Decode finds of a frame's word decides what is read.
use mathlib.Core.Path.{◌≡◌, refl, sym, subst}
use mathlib.Core.List.{List}
use Prim.Native.Nat.{ℕ}
use native.Mathlib.Omega.{arith}
use lib.ListN.{length}
use Rattle.sheet.specs.declared.Refusal.{Refusal}
use Rattle.sheet.specs.Number.{Outcome, outcome_of}
use Rattle.std.specs.Prelude.{Result, Ok, Err}
use Rattle.sheet.specs.Verdict.{verdict, finds, finds_nothing}
use Rattle.sheet.proofs.VerdictLaws.{none_refuses, not_done, equal}
use Rattle.codes.specs.Look.{code_of}
use Rattle.decode.specs.Decode.{Decodes, Mends, MendsWithin, left_by}
use Rattle.layout.specs.Frame.{sent_bit, word_of}
use Rattle.layout.proofs.PackLaws.{word_long, word_bits}
use Rattle.frame.specs.Read.{Given, ReadsWord, ReadsReceived, near, far, frame_checks, zeros}
use Rattle.frame.proofs.CodeLaws.{decode_passes}

-- the checks pass
pub frame_passes : (frame : List ℕ) → length frame ≡ 32 → sent_bit frame 255 ≡ 0 → verdict (frame_checks frame) ≡ Ok tt
frame_passes frame l p = none_refuses (frame_checks frame) (equal l, (equal p, tt))

module _ (frame : List ℕ) (answer : Result ℕ Refusal) {received lentWord lentList word list : List ℕ} (u : received ≡ word_of frame)
    (l : length lentWord ≡ 255) (k : length lentList ≡ 23) (d : Decodes 8 23 received lentWord lentList answer word list) where
  searched : MendsWithin (code_of 8 23) 23 (word_of frame) lentWord lentList (outcome_of answer) (left_by answer word list)
  searched =
      let e = subst (λ (x : List ℕ). Decodes 8 23 x lentWord lentList answer word list) u d in
      e.promise.done (decode_passes (word_of frame) lentWord lentList (word_bits frame) (word_long frame) l k)

  pub mended : {wrong : ℕ} → answer ≡ Ok wrong → Mends 8 23 23 (word_of frame) (left_by (Ok wrong) word list)
  mended {wrong} e = pick (rw e at searched)
    where
      pick : MendsWithin (code_of 8 23) 23 (word_of frame) lentWord lentList (Ok tt) (left_by (Ok wrong) word list)
          → Mends 8 23 23 (word_of frame) (left_by (Ok wrong) word list)
      pick (finds a m) = m
      pick (finds_nothing a f s) = absurd (not_done (sym a))

  pub read_near : {wrong : ℕ} {o : Outcome} {given : Given} → answer ≡ Ok wrong → ReadsWord word wrong o given → ReadsReceived (word_of frame) o given
  read_near {wrong} {o} {given} e w =
      let m = mended e in
      near word m.code_word (omega (arith, m.counts, m.within)) (subst (λ (x : ℕ). ReadsWord word x o given) (sym m.counts) w)

  pub read_far : {r : Refusal} → answer ≡ Err r → ReadsReceived (word_of frame) (Err r) zeros
  read_far {r} e = pick (rw e at searched)
    where
      pick : MendsWithin (code_of 8 23) 23 (word_of frame) lentWord lentList (Err r) (left_by (Err r) word list) → ReadsReceived (word_of frame) (Err r) zeros
      pick (finds a m) = absurd (not_done a)
      pick (finds_nothing a f s) = far a f refl
