-- How an operation runs down the sheet, and the shape of every promise: the checks refuse and everything stays, or they pass and the operation does its work.
-- docs/SCOPE.md 5.1: "It is given exactly when its condition holds and no earlier check of the operation has refused." 5.3: "No lent buffer changes."
use Rattle.std.specs.Prelude.{◌≡◌, Bool, true, false, List, [], ◌∷◌, Ok, Err}
use Rattle.sheet.specs.declared.Refusal.{Refusal}
use Rattle.sheet.specs.declared.Refusal.TheVariants.{NothingNear}
use Rattle.sheet.specs.Number.{Outcome}

infixl 90 ◌⇒◌
-- one check of an operation: the condition under which it refuses, and its refusal
pub data Check : Type 0 where
  ◌⇒◌ : Bool → Refusal → Check

-- its refusal where the condition holds, and what the later checks give where it does not
abbrev pub refuse_if : Bool → Refusal → Outcome → Outcome
refuse_if true r later = Err r
refuse_if false r later = later

-- what the checks come to, in their order: the refusal of the first one that refuses
abbrev pub verdict : List Check → Outcome
verdict [] = Ok tt
verdict ((b ⇒ r) ∷ later) = refuse_if b r (verdict later)

-- The promise of an operation. What is left is the contents of its buffers and the values beside the outcome. Where a check refuses, that refusal is
-- the answer and everything stays; where all pass, the answer and what is left are as Does says.
pub record Promise {L : Type 0} (checks : List Check) (Does : Outcome → L → Type 0) (stays : L) (answer : Outcome) (left : L) : Type 0 where
  pub refused : (r : Refusal) → verdict checks ≡ Err r → (answer ≡ Err r) × (left ≡ stays)
  pub done : verdict checks ≡ Ok tt → Does answer left

-- what is done by an operation that refuses nothing once its checks have passed
pub record Always {L : Type 0} (Did : L → Type 0) (answer : Outcome) (left : L) : Type 0 where
  pub is_done : answer ≡ Ok tt
  pub did : Did left

-- what is done by an operation that searches: it finds something; or it answers 6, there is nothing to find, and everything stays
pub data Searches {L : Type 0} (Found : L → Type 0) (Nothing : Type 0) (stays : L) (answer : Outcome) (left : L) : Type 0 where
  finds : answer ≡ Ok tt → Found left → Searches Found Nothing stays answer left
  finds_nothing : answer ≡ Err NothingNear → Nothing → left ≡ stays → Searches Found Nothing stays answer left
