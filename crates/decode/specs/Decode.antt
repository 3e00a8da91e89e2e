-- Decode. docs/SCOPE.md 4.5: "Takes m, t, n received bits, a buffer of n places for the mended word and a buffer of t 16-bit places for the list.
-- Gives the number of wrong places; the list holds them ascending, then zeros. The mended word is the code word within t of what was received."
-- 5.2: its checks are 1, 2, 3, 4, 5, 6.
use Rattle.std.specs.Prelude.{◌≡◌, not, List, [], ◌∷◌, ◌++◌, ℕ, ◌-◌, ◌≤◌, eqb, length, replicate, Result}
use Rattle.std.specs.Result.{result_unwrap_or}
use Rattle.sheet.specs.declared.Refusal.{Refusal}
use Rattle.sheet.specs.declared.Refusal.TheVariants.{InputLength, OutputLength, BitAboveOne}
use Rattle.sheet.specs.Number.{Outcome, outcome_of}
use Rattle.sheet.specs.Verdict.{Check, ◌⇒◌, Searches}
use Rattle.bits.specs.Bits.{first_above, has_bad_bit}
use Rattle.bits.specs.Differences.{differences, distance}
use Rattle.codes.specs.declared.Code.{Code}
use Rattle.codes.specs.Look.{CodePromise}
use Rattle.codes.specs.Sums.{CodeWord}

-- the checks before 6: the word's buffer, then the list's
abbrev pub decode_checks : List ℕ → List ℕ → List ℕ → Code → List Check
decode_checks received word list c =
    not (eqb (length received) c.n) ⇒ InputLength
    ∷ not (eqb (length word) c.n) ⇒ OutputLength
    ∷ not (eqb (length list) c.t) ⇒ OutputLength
    ∷ has_bad_bit received ⇒ BitAboveOne 0 (first_above received)
    ∷ []

-- what is left: the number of wrong places that is given, and both buffers
pub record Mended : Type 0 where
  pub wrong : ℕ
  pub word : List ℕ
  pub list : List ℕ

abbrev pub left_by : Result ℕ Refusal → List ℕ → List ℕ → Mended
left_by answer word list = record { wrong = result_unwrap_or answer 0; word = word; list = list }

-- a refusal leaves both buffers as lent; there is no number, and 0 stands for it
abbrev pub as_lent : List ℕ → List ℕ → Mended
as_lent lentWord lentList = record { wrong = 0; word = lentWord; list = lentList }

-- the word is a code word within the radius of what came in; the list has the places where the two differ, then zeros; the number is how many these are
pub record Mends (m t radius : ℕ) (received : List ℕ) (left : Mended) : Type 0 where
  pub code_word : CodeWord m t left.word
  pub counts : distance received left.word ≡ left.wrong
  pub within : left.wrong ≤ radius
  pub lists : left.list ≡ differences received left.word ++ replicate (t - left.wrong) 0

-- every code word is further than the radius from what came in
abbrev pub Far : ℕ → ℕ → ℕ → List ℕ → Type 0
Far m t radius received = (word : List ℕ) → CodeWord m t word → distance received word ≤ radius → ⊥

-- past the checks: a code word within the radius is found; or 6, there is none, and both buffers are as lent
abbrev pub MendsWithin : Code → ℕ → List ℕ → List ℕ → List ℕ → Outcome → Mended → Type 0
MendsWithin c radius received lentWord lentList = Searches (Mends c.m c.t radius received) (Far c.m c.t radius received) (as_lent lentWord lentList)

-- the radius is t
abbrev pub Decodes : ℕ → ℕ → List ℕ → List ℕ → List ℕ → Result ℕ Refusal → List ℕ → List ℕ → Type 0
Decodes m t received lentWord lentList answer word list =
    CodePromise m t (decode_checks received lentWord lentList) (λ c. MendsWithin c c.t received lentWord lentList) (as_lent lentWord lentList)
    (outcome_of answer) (left_by answer word list)
