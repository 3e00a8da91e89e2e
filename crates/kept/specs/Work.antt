-- What the checks leave; no promise rests on it.
use Rattle.std.specs.Prelude.{◌≡◌, List, ℕ, ◌^◌, ◌<◌, length, get_or, take}
use Rattle.bits.specs.Bits.{AreBits}
use Rattle.codes.specs.declared.Code.{Code}
use Rattle.codes.specs.Work.{Known}
use Rattle.kept.specs.declared.Kept.{Kept}

-- the checks of Open: a word of the code
pub record OpenReady (c : Code) (word : List ℕ) : Type 0 where
  pub known : Known c
  pub long : length word ≡ c.n
  pub bits : AreBits word

-- check 7: bits and field elements
pub record Sound (c : Code) (stored : Kept) : Type 0 where
  pub bits : AreBits (take c.n stored.bits)
  pub sums : (i : ℕ) → i < c.t → get_or stored.sums i 0 < 2 ^ c.m
