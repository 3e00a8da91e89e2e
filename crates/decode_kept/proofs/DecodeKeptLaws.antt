-- Decode kept: what the checks leave, and what is written down.
use mathlib.Core.Path.{◌≡◌, ◌∙◌, sym, ap}
use mathlib.Core.List.{List, ◌++◌}
use Prim.Native.Nat.{ℕ, ◌-◌}
use lib.ListN.{length, take, replicate}
use Rattle.std.specs.Prelude.{Ok}
use Rattle.sheet.specs.Verdict.{verdict}
use Rattle.sheet.proofs.VerdictLaws.{all_pass, same_of}
use Rattle.codes.specs.declared.Code.{Code}
use Rattle.codes.specs.Work.{Known}
use Rattle.decode.specs.Decode.{left_by}
use Rattle.decode.specs.Work.{CanPut, PutDown}
use Rattle.decode.proofs.DecodeSteps.{can_put}
use Rattle.kept.specs.declared.Kept.{Kept}
use Rattle.kept.proofs.RecordLaws.{sound}
use Rattle.decode_kept.specs.DecodeKept.{MendsKept, decode_kept_checks}
use Rattle.decode_kept.specs.Work.{KeptReady, CanPutStored}

pub decode_kept_ready : {c : Code} (stored : Kept) (word list : List ℕ) → Known c → verdict (decode_kept_checks stored word list c) ≡ Ok tt
    → KeptReady c stored word list
decode_kept_ready {c} stored word list K e =
    let (contents, (output, (places, _))) = all_pass (decode_kept_checks stored word list c) e in
    record {
      known = K;
      sound = sound c stored contents;
      word_long = same_of (length word) c.n output;
      list_long = same_of (length list) c.t places;
    }

-- the places can be turned over in the stored bits
pub stored_can_put : {c : Code} {stored : Kept} {places word list : List ℕ} → CanPutStored c stored places word list
    → length (take c.n stored.bits) ≡ c.n → CanPut (take c.n stored.bits) places word list
stored_can_put P long =
    let R = P.ready in
    can_put R.sound.bits (long ∙ R.known.is_n) (R.word_long ∙ sym long) R.list_long P.located

-- what was put down is what Decode kept promises
pub stored_mended : {c : Code} {stored : Kept} {count : ℕ} {places lentWord lentList word list : List ℕ}
    → CanPutStored c stored places lentWord lentList → PutDown (take c.n stored.bits) places lentList count word list
    → MendsKept c stored (left_by (Ok count) word list)
stored_mended {places = places} P W =
    record {
      places = places;
      located = P.located;
      is_word = W.is_word;
      is_list = W.is_list ∙ ap (λ (x : ℕ). places ++ replicate (x - length places) 0) P.ready.list_long;
      counts = W.counts;
    }
