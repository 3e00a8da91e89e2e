-- What the steps of Decode kept hand to each other; no promise rests on it.
use Rattle.std.specs.Prelude.{◌≡◌, List, ℕ, length}
use Rattle.codes.specs.declared.Code.{Code}
use Rattle.codes.specs.Work.{Known}
use Rattle.locate.specs.Located.{Located}
use Rattle.kept.specs.declared.Kept.{Kept}
use Rattle.kept.specs.Work.{Sound}

-- the checks have passed
pub record KeptReady (c : Code) (stored : Kept) (word list : List ℕ) : Type 0 where
  pub known : Known c
  pub sound : Sound c stored
  pub word_long : length word ≡ c.n
  pub list_long : length list ≡ c.t

-- and the places have the stored sums
pub record CanPutStored (c : Code) (stored : Kept) (places word list : List ℕ) : Type 0 where
  pub ready : KeptReady c stored word list
  pub located : Located c.m c.t stored.sums places
