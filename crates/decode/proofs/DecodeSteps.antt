-- What the checks of Decode leave, and what its steps tell each other.
use mathlib.Core.Path.{◌≡◌, ◌∙◌, refl, ap, subst}
use mathlib.Core.List.{List, ◌++◌}
use Prim.Native.Nat.{ℕ, ◌-◌}
use native.Mathlib.Omega.{arith}
use lib.ListN.{length, replicate}
use Rattle.std.specs.Prelude.{Ok, Err, Option, Some, None}
use Rattle.sheet.specs.declared.Refusal.TheVariants.{NothingNear}
use Rattle.sheet.specs.Verdict.{verdict, finds, finds_nothing}
use Rattle.sheet.proofs.VerdictLaws.{all_pass, same_of}
use Rattle.bits.specs.Bits.{AreBits}
use Rattle.bits.proofs.BitLaws.{bits_of_not_bad}
use Rattle.field.specs.Power.{n_of}
use Rattle.codes.specs.declared.Code.{Code}
use Rattle.codes.specs.Work.{Known}
use Rattle.sums.specs.OddSums.{OddSums}
use Rattle.locate.specs.declared.places.Places.{Places}
use Rattle.locate.specs.Located.{Located}
use Rattle.locate.specs.Search.{listed, Tells, Searched, WordSearched}
use Rattle.decode.specs.Decode.{MendsWithin, decode_checks, left_by}
use Rattle.decode.specs.Work.{DecodeReady, CanPut, PutDown}
use Rattle.decode.proofs.DecodeLaws.{mends, nothing_near_lem}

pub decode_ready : {c : Code} (received word list : List ℕ) → Known c → verdict (decode_checks received word list c) ≡ Ok tt
    → DecodeReady c received word list
decode_ready {c} received word list K e =
    let (input, (output, (places, (bits, _)))) = all_pass (decode_checks received word list c) e in
    record {
      known = K;
      received_long = same_of (length received) c.n input;
      received_bits = bits_of_not_bad received bits;
      word_long = same_of (length word) c.n output;
      list_long = same_of (length list) c.t places;
    }

-- places that have some sums can be turned over in n bits
pub can_put : {m t : ℕ} {sums bits places word list : List ℕ} → AreBits bits → length bits ≡ n_of m → length word ≡ length bits → length list ≡ t
    → Located m t sums places → CanPut bits places word list
can_put B long same room E =
    record { are_bits = B; below = λ p k. omega (arith, E.below p k, long); same_long = same; few = omega (arith, E.few, room) }

-- what was put down is what Decode promises
pub put_mends : {c : Code} {sums received places lentWord lentList word list : List ℕ} {count : ℕ} → DecodeReady c received lentWord lentList
    → OddSums c.m c.t received sums → Located c.m c.t sums places → PutDown received places lentList count word list
    → MendsWithin c c.t received lentWord lentList (Ok tt) (left_by (Ok count) word list)
put_mends {places = places} R S E P =
    finds refl
    (mends R.known.of_m.listed R.received_bits (R.received_long ∙ R.known.is_n) S.holds E P.counts P.is_word
    (P.is_list ∙ ap (λ (x : ℕ). places ++ replicate (x - length places) 0) R.list_long))

-- what the search tells, by its answer
pub told_places : {m t : ℕ} {sums : List ℕ} {answer : Option Places} {found : Places} → Searched m t sums answer → answer ≡ Some found
    → Located m t sums (listed found)
told_places {m} {t} {sums} f e = subst (Tells m t sums) e f.tells

pub told-nothing : {m t : ℕ} {sums : List ℕ} {answer : Option Places} → Searched m t sums answer → answer ≡ None
    → (ps : List ℕ) → Located m t sums ps → ⊥
told-nothing {m} {t} {sums} f e = subst (Tells m t sums) e f.tells

-- no code word is within t
pub none_near : {c : Code} {received lentWord lentList : List ℕ} {answer : Option Places} → DecodeReady c received lentWord lentList
    → WordSearched c.m c.t received answer → answer ≡ None
    → MendsWithin c c.t received lentWord lentList (Err NothingNear) (left_by (Err NothingNear) lentWord lentList)
none_near R w e =
    finds_nothing refl
    (nothing_near_lem R.known.of_m.listed R.received_bits (R.received_long ∙ R.known.is_n) w.of_word.holds (told-nothing w.searched e)) refl
