-- What the checks of Edit leave; no promise rests on it.
use Rattle.std.specs.Prelude.{◌≡◌, List, ℕ, ◌+◌, ◌≤◌, length}
use Rattle.bits.specs.Bits.{AreBits}
use Rattle.codes.specs.declared.Code.{Code}
use Rattle.codes.specs.Work.{Known}

pub record EditReady (c : Code) (word : List ℕ) (start : ℕ) (stretch : List ℕ) : Type 0 where
  pub known : Known c
  pub long : length word ≡ c.n
  pub ends : start + length stretch ≤ c.k
  pub bits : AreBits word
  pub stretch_bits : AreBits stretch
