-- A typed line. docs/SCOPE.md 8: "A line says a reading if it is three decimal numbers with one blank between them and nothing else".
use Rattle.std.specs.Prelude.{◌≡◌, List, [], ◌∷◌, ◌++◌, ℕ, ◌+◌, ◌-◌, ◌*◌, ◌^◌, ◌≤◌, ◌<◌, length, Option, Some, None}
use Rattle.layout.specs.declared.message.Reading.{Reading}

-- `0` to `9` in ASCII
abbrev pub Digits : List ℕ → Type 0
Digits [] = Unit {0}
Digits (d ∷ ds) = (48 ≤ d) × (d ≤ 57) × Digits ds

-- the value of v with these digits after it
unfoldable pub value_from : ℕ → List ℕ → ℕ
value_from v [] = v
value_from v (d ∷ ds) = value_from (10 * v + (d - 48)) ds

-- docs/SCOPE.md 8: "A number has 1 to 20 digits."; its value is n, and zeros may stand in front
pub record Number (text : List ℕ) (below n : ℕ) : Type 0 where
  pub some : 1 ≤ length text
  pub few : length text ≤ 20
  pub digits : Digits text
  pub value : n ≡ value_from 0 text
  pub small : n < below

-- a number, one blank, and then what After says
pub record NumberThen (line : List ℕ) (below n : ℕ) (After : List ℕ → Type 0) : Type 0 where
  pub text : List ℕ
  pub rest : List ℕ
  pub is : line ≡ text ++ (32 ∷ rest)
  pub number : Number text below n
  pub after : After rest

-- docs/SCOPE.md 8: "House and poll are below 65,536, the counter is below 2^64."

abbrev pub SaysCounter : Reading → List ℕ → Type 0
SaysCounter reading rest = Number rest (2 ^ 64) reading.counter

abbrev pub SaysPoll : Reading → List ℕ → Type 0
SaysPoll reading rest = NumberThen rest (2 ^ 16) reading.poll (SaysCounter reading)

abbrev pub Says : Reading → List ℕ → Type 0
Says reading line = NumberThen line (2 ^ 16) reading.house (SaysPoll reading)

-- the reading that the line says, or nothing exactly if it says none
abbrev pub Answers : List ℕ → Option Reading → Type 0
Answers line (Some reading) = Says reading line
Answers line None = (reading : Reading) → Says reading line → ⊥
