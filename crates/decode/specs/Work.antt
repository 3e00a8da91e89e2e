-- What the steps of Decode hand to each other; no promise rests on it.
use Rattle.std.specs.Prelude.{◌≡◌, ℕ, ◌-◌, ◌≤◌, ◌<◌, length, replicate}
use mathlib.Core.List.{List, ◌++◌, Memᴰ}
use Rattle.bits.specs.Bits.{AreBits, flipped}
use Rattle.codes.specs.declared.Code.{Code}
use Rattle.codes.specs.Work.{Known}

-- the checks have passed
pub record DecodeReady (c : Code) (received word list : List ℕ) : Type 0 where
  pub known : Known c
  pub received_long : length received ≡ c.n
  pub received_bits : AreBits received
  pub word_long : length word ≡ c.n
  pub list_long : length list ≡ c.t

-- the places can be turned over in these bits, and there is room for the result and for the list
pub record CanPut (bits places word list : List ℕ) : Type 0 where
  pub are_bits : AreBits bits
  pub below : (p : ℕ) → Memᴰ p places → p < length bits
  pub same_long : length word ≡ length bits
  pub few : length places ≤ length list

-- the bits are written with these places turned over, and the places as the list
pub record PutDown (bits places lentList : List ℕ) (count : ℕ) (word list : List ℕ) : Type 0 where
  pub counts : count ≡ length places
  pub is_word : word ≡ flipped bits places
  pub is_list : list ≡ places ++ replicate (length lentList - length places) 0
