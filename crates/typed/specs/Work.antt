-- What the steps of reading a typed line hand to each other; no promise rests on it.
use Rattle.std.specs.Prelude.{◌≡◌, List, ℕ, ◌+◌, ◌-◌, ◌*◌, ◌^◌, ◌≤◌, drop, Option, Some, None}
use Rattle.std.specs.Borrow.{Bor}
use Rattle.typed.specs.Says.{Digits, value_from, Number, NumberThen}

-- the number before a blank, and what stands after it
abbrev pub AnswersThen : List ℕ → Option (ℕ × Bor (List ℕ)) → Type 0
AnswersThen line (Some found) = NumberThen line (2 ^ 16) found.0 (λ rest. rest ≡ found.1.now)
AnswersThen line None = (n : ℕ) (rest : List ℕ) → NumberThen line (2 ^ 16) n (λ r. r ≡ rest) → ⊥

abbrev pub AnswersNumber : List ℕ → ℕ → Option ℕ → Type 0
AnswersNumber text below (Some n) = Number text below n
AnswersNumber text below None = (n : ℕ) → Number text below n → ⊥

-- n is the value with the digit after it
pub record WithDigit (value byte most n : ℕ) : Type 0 where
  pub from : 48 ≤ byte
  pub to : byte ≤ 57
  pub is : n ≡ 10 * value + (byte - 48)
  pub small : n ≤ most

abbrev pub AnswersDigit : ℕ → ℕ → ℕ → Option ℕ → Type 0
AnswersDigit value byte most (Some n) = WithDigit value byte most n
AnswersDigit value byte most None = (n : ℕ) → WithDigit value byte most n → ⊥

-- the first i bytes are digits, and v is their value
pub record SpelledTo (text : List ℕ) (i v : ℕ) : Type 0 where
  pub value : value_from v (drop i text) ≡ value_from 0 text
  pub all : Digits (drop i text) → Digits text
  pub rest : Digits text → Digits (drop i text)
