-- What the checks of Splice leave and what its steps hand to each other; no promise rests on it.
use Rattle.std.specs.Prelude.{◌≡◌, List, ◌≢◌, ℕ, ◌+◌, ◌*◌, ◌≤◌, ◌<◌, length, get_or, set}
use Rattle.std.proofs.Math.Seq.{paste}
use Rattle.bits.specs.Bits.{AreBits}
use Rattle.bits.specs.Differences.{differences}
use Rattle.entries.specs.Entries.{Filled}
use Rattle.field.specs.Sum.{◌⊕◌}
use Rattle.field.specs.Power.{a, n_of, power}
use Rattle.codes.specs.declared.Code.{Code}
use Rattle.codes.specs.Work.{Known}
use Rattle.codes.specs.Sums.{sum_over}
use Rattle.sums.specs.Rows.{plus_power}
use Rattle.kept.specs.declared.Kept.{Kept}
use Rattle.kept.specs.Work.{Sound}

-- the checks have passed
pub record SpliceReady (c : Code) (stored : Kept) (start : ℕ) (stretch : List ℕ) : Type 0 where
  pub known : Known c
  pub sound : Sound c stored
  pub ends : start + length stretch ≤ c.n
  pub bits : AreBits stretch

-- room for the places of the stretch and for t sums
pub record StretchReady (m t start : ℕ) (stretch bits sums : List ℕ) : Type 0 where
  pub ends : start + length stretch ≤ n_of m
  pub bits_room : n_of m ≤ length bits
  pub sums_room : t ≤ length sums

-- the same for one place
pub record PlaceReady (m t p : ℕ) (bits sums : List ℕ) : Type 0 where
  pub below : p < n_of m
  pub bits_room : p < length bits
  pub sums_room : t ≤ length sums

-- b stands at place p; if it stood there before, the sums are as they were, and if not, they have the place added
pub record PlaceSpliced (m t b p : ℕ) (bits sums bits' sums' : List ℕ) : Type 0 where
  pub is_bits : bits' ≡ set bits p b
  pub same : get_or bits p 0 ≡ b → sums' ≡ sums
  pub changed : get_or bits p 0 ≢ b → Filled (plus_power m (power m a p) sums) t sums sums'

-- S_(2i+1) plus the sum over these places
abbrev pub plus_places : ℕ → List ℕ → List ℕ → ℕ → ℕ
plus_places m places before i = get_or before i 0 ⊕ sum_over m (2 * i + 1) places

-- the first i places of the stretch are put in, and the places that changed are added to the sums
pub record StretchSpliced (m t start : ℕ) (stretch bits sums bits' sums' : List ℕ) (i : ℕ) : Type 0 where
  pub within : i ≤ length stretch
  pub is_bits : bits' ≡ paste bits start stretch i
  pub filled : Filled (plus_places m (differences bits bits') sums) t sums sums'
