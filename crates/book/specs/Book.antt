-- The poll book: the trailer, what a book of so many frames is, and where a frame of it starts.
-- docs/SCOPE.md 6.3: "the four bytes `POLL`, then as 32-bit numbers, highest byte first, the count of frames, the distance in bytes from the trailer's first
-- byte back to the first frame, and zero."
use Rattle.std.specs.Prelude.{◌≡◌, List, [], ◌∷◌, ◌++◌, ℕ, ◌+◌, ◌-◌, ◌*◌, ◌/◌, ◌%◌, ◌^◌, ◌≤◌, ◌<◌, length, get_or, drop}

-- `POLL` in ASCII
abbrev pub mark : List ℕ
mark = 80 ∷ 79 ∷ 76 ∷ 76 ∷ []

-- a 32-bit number in four bytes, highest byte first
unfoldable pub four_bytes : ℕ → List ℕ
four_bytes n = n / 2 ^ 24 % 256 ∷ n / 2 ^ 16 % 256 ∷ n / 2 ^ 8 % 256 ∷ n % 256 ∷ []

-- the 16 bytes after so many frames
abbrev pub trailer : ℕ → List ℕ
trailer count = mark ++ four_bytes count ++ four_bytes (32 * count) ++ four_bytes 0

-- The bytes are a book of so many frames: at most 1,000; 32 times as many bytes back from the trailer is not before the start; the last 16 bytes are the
-- trailer of that count. docs/SCOPE.md 6.3: "The trailer is always the last 16 bytes, and other bytes may stand before the first frame."
pub record IsBook (book : List ℕ) (count : ℕ) : Type 0 where
  pub few : count ≤ 1000
  pub reaches : 32 * count + 16 ≤ length book
  pub ends : drop (length book - 16) book ≡ trailer count

-- where frame i starts in a book of so many frames; it ends where the next one starts
abbrev pub frame_start : List ℕ → ℕ → ℕ → ℕ
frame_start book count i = length book - 16 - 32 * count + 32 * i

-- every place holds a byte, as every place of a lent buffer does
pub record AreBytes (xs : List ℕ) : Type 0 where
  pub below : (i : ℕ) → get_or xs i 0 < 256
