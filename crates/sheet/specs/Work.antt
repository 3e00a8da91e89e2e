-- What is known where all checks have passed; no promise rests on it.
use Rattle.std.specs.Prelude.{◌≡◌, false, List, [], ◌∷◌}
use Rattle.sheet.specs.Verdict.{Check, ◌⇒◌}

-- no check refuses
abbrev pub AllPass : List Check → Type 0
AllPass [] = Unit {0}
AllPass ((b ⇒ r) ∷ later) = (b ≡ false) × AllPass later
