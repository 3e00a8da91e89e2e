-- What reads leave in a buffer; no promise rests on it.
use Rattle.std.specs.Prelude.{◌≡◌, List, ℕ, ◌+◌, ◌≤◌, length, take}

-- what is held stays, and the bytes that came after it are within the buffer and within what is left to read
pub record ReadsAfter (held left : ℕ) (buffer buffer' : List ℕ) (count : ℕ) : Type 0 where
  pub kept : take held buffer' ≡ take held buffer
  pub within : held + count ≤ length buffer
  pub few : count ≤ left

-- reads one after another, each behind what came before it, and all that came
pub data ReadsOn (buffer : List ℕ) : ℕ → List ℕ → Type 0 where
  nothing_yet : ReadsOn buffer 0 buffer
  one_more : {held most count : ℕ} {left left' : List ℕ} → ReadsOn buffer held left → ReadsAfter held most left left' count
      → ReadsOn buffer (held + count) left'
