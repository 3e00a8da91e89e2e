-- Wrong places and near code words: the places that have the sums of what came in are those where a code word within t differs from it.
use mathlib.Core.Path.{◌≡◌, ◌∙◌, sym, ap, ap₂, subst}
use mathlib.Core.List.{List, ◌++◌, Memᴰ}
use Prim.Native.Nat.{ℕ, ◌+◌, ◌-◌, ◌*◌, ◌≤◌, ◌<◌}
use native.Mathlib.Omega.{arith}
use lib.ListN.{length, get_or, replicate}
use Rattle.bits.specs.Bits.{AreBits, flipped}
use Rattle.bits.specs.Differences.{differences, distance}
use Rattle.bits.proofs.BitLaws.{length-flipped, bits_flipped}
use Rattle.bits.proofs.DistanceLaws.{differences_ascending, differences_place, distance-length, differences-flipped, distance-flipped}
use Rattle.field.specs.Sum.{◌⊕◌}
use Rattle.field.specs.Product.{IsField}
use Rattle.field.specs.Power.{n_of}
use Rattle.field.proofs.SumLaws.{equal_of_sum, sum_self, sum_comm}
use Rattle.codes.specs.Sums.{CodeWord, sum_of, sum_over}
use Rattle.codes.proofs.SumLaws.{sum-flipped, sum-differences, odd_sums}
use Rattle.locate.specs.Located.{Located}
use Rattle.decode.specs.Decode.{Mends, Far}

-- what came in, and its odd sums
module _ {m t : ℕ} (L : IsField m) {received sums : List ℕ} (B : AreBits received) (long : length received ≡ n_of m)
    (S : (i : ℕ) → i < t → get_or sums i 0 ≡ sum_of m (2 * i + 1) received) where
  pub near_located : (c : List ℕ) → CodeWord m t c → distance received c ≤ t → Located m t sums (differences received c)
  near_located c C h =
      record {
        ascending = differences_ascending received c;
        below = λ p k. omega (arith, (differences_place received c p k).0);
        few = omega (arith, distance-length received c);
        same = λ i k. equal_of_sum (sum_comm (sum_over m (2 * i + 1) (differences received c)) (get_or sums i 0) ∙ vanishes i k);
      }
    where
      vanishes : (i : ℕ) → i < t → get_or sums i 0 ⊕ sum_over m (2 * i + 1) (differences received c) ≡ 0
      vanishes i k =
          ap (λ (s : ℕ). s ⊕ sum_over m (2 * i + 1) (differences received c)) (S i k)
          ∙ sym (sum-differences L (2 * i + 1) received c B C.bits (long ∙ sym C.long))
          ∙ C.sums (2 * i + 1) (omega arith) (omega arith)

  -- A mended word always passes a second check of its sums: the places turned over have the sums of what came in, so each sum is added to itself.
  pub mended_passes : (ps : List ℕ) → Located m t sums ps → (i : ℕ) → i < t → sum_of m (2 * i + 1) (flipped received ps) ≡ 0
  mended_passes ps E i k =
      sum-flipped L (2 * i + 1) received ps B (λ p h. omega (arith, E.below p h, long))
      ∙ ap₂ (λ (x y : ℕ). x ⊕ y) (sym (S i k)) (E.same i k) ∙ sum_self (get_or sums i 0)

  pub located_word : (ps : List ℕ) → Located m t sums ps → CodeWord m t (flipped received ps)
  located_word ps E =
      record {
        long = length-flipped received ps ∙ long;
        bits = bits_flipped ps B;
        sums = odd_sums L (flipped received ps) (bits_flipped ps B) t (mended_passes ps E);
      }

  pub nothing_near_lem : ((ps : List ℕ) → Located m t sums ps → ⊥) → Far m t t received
  nothing_near_lem n c C h = n (differences received c) (near_located c C h)

  pub mends : {ps word list : List ℕ} {wrong : ℕ} → Located m t sums ps → wrong ≡ length ps → word ≡ flipped received ps
      → list ≡ ps ++ replicate (t - length ps) 0 → Mends m t t received (record { wrong = wrong; word = word; list = list })
  mends {ps} {word} {list} {wrong} E c e l =
      let below : (p : ℕ) → Memᴰ p ps → p < length received = λ p h. omega (arith, E.below p h, long) in
      let d : differences received word ≡ ps = ap (differences received) e ∙ differences-flipped received ps B E.ascending below in
      record {
        code_word = subst (CodeWord m t) (sym e) (located_word ps E);
        counts = ap (distance received) e ∙ distance-flipped received ps B E.ascending below ∙ sym c;
        within = omega (arith, E.few);
        lists = l ∙ ap₂ (λ (q : List ℕ) (x : ℕ). q ++ replicate (t - x) 0) (sym d) (sym c);
      }
