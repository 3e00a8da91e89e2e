-- Encode. docs/SCOPE.md 4.4: "Takes m, t, k message bits and a buffer of n places. The buffer then holds the code word that carries the message."
-- 5.2: its checks are 1, 2, 3, 4, 5.
use Rattle.std.specs.Prelude.{not, List, [], ◌∷◌, ℕ, eqb, length}
use Rattle.sheet.specs.declared.Refusal.TheVariants.{InputLength, OutputLength, BitAboveOne}
use Rattle.sheet.specs.Number.{Outcome}
use Rattle.sheet.specs.Verdict.{Check, ◌⇒◌, Always}
use Rattle.bits.specs.Bits.{first_above, has_bad_bit}
use Rattle.codes.specs.declared.Code.{Code}
use Rattle.codes.specs.Look.{CodePromise}
use Rattle.codes.specs.Encoding.{Encoding}

abbrev pub encode_checks : List ℕ → List ℕ → Code → List Check
encode_checks message lent c =
    not (eqb (length message) c.k) ⇒ InputLength
    ∷ not (eqb (length lent) c.n) ⇒ OutputLength
    ∷ has_bad_bit message ⇒ BitAboveOne 0 (first_above message)
    ∷ []

-- the buffer holds the code word that carries the message; refused, it is as lent
abbrev pub Encodes : ℕ → ℕ → List ℕ → List ℕ → Outcome → List ℕ → Type 0
Encodes m t message lent = CodePromise m t (encode_checks message lent) (λ c. Always (Encoding c.m c.t c.k message)) lent
