-- The first place above 1 is std's first place at which the test passes.
use mathlib.Core.Path.{◌≡◌, refl, sym}
use mathlib.Core.Bool.{Bool, true, false, cond}
use mathlib.Core.List.{List, ◌∷◌}
use Prim.Native.Nat.{ℕ, ◌+◌, ◌≤◌}
use native.Mathlib.Nat.{lt_of_not-le}
use native.Mathlib.Decide.{dec_le}
use native.Mathlib.Omega.{arith}
use borrow.Author.Tests.{lt-ltb, le-ltb}
use Rattle.std.proofs.Common.{rules, tests, Option, Some, None}
use Rattle.std.specs.Prelude.{ltb, MatchOption}
use Rattle.std.specs.List.{position, position_or_len}
use Rattle.std.proofs.lemmas.Iterator.{YieldsList-from_slice}
use Rattle.std.proofs.lemmas.Iterator.Search.{position_from_yields_List}
use Rattle.std.proofs.lemmas.List.Recursion.{is_position_or_len}
use Rattle.bits.specs.Bits.{first_above, has_bad_bit}
use Rattle.bits.proofs.BitLaws.{first_above-nil, first_above_bit, first_above_above}
use Rattle.bits.proofs.first_above_one.Goals as goal

turn : (x : ℕ) (xs : List ℕ) → first_above (x ∷ xs) ≡ cond (ltb 1 x) 0 (1 + first_above xs)
turn x xs = pick (dec_le x 1)
  where
    pick : Dec (x ≤ 1) → first_above (x ∷ xs) ≡ cond (ltb 1 x) 0 (1 + first_above xs)
    pick (yes h) = rw (first_above_bit xs h, le-ltb 1 x h) (omega arith)
    pick (no h) = rw (first_above_above xs (lt_of_not-le h), lt-ltb 1 x (lt_of_not-le h)) refl

-- what std's search tells
told : (xs : List ℕ) {r : Option ℕ} → r ≡ position (λ (x : ℕ). ltb 1 x) xs
    → MatchOption r (has_bad_bit xs ≡ false) (λ place. (has_bad_bit xs ≡ true) × (place ≡ first_above xs))
told xs e =
    let at : position_or_len (λ (x : ℕ). ltb 1 x) xs ≡ first_above xs = sym (is_position_or_len first_above (λ x. ltb 1 x) first_above-nil turn xs) in
    rw (e, at) (pick (has_bad_bit xs) refl)
  where
    pick : (b : Bool) → has_bad_bit xs ≡ b
        → MatchOption (cond b (Some (first_above xs)) None) (has_bad_bit xs ≡ false) (λ place. (has_bad_bit xs ≡ true) × (place ≡ first_above xs))
    pick true e = (e, refl)
    pick false e = e

pub returns : goal.returns
returns c =
    told c.args.s.now
    (position_from_yields_List (λ (x : ℕ). ltb 1 x) _ _ c.position.result c.position.ensures.ran (YieldsList-from_slice c.args.s.now cc)
    (λ x b q k. search (rules, tests)))
