-- What the steps of making frames ask and hand to each other; no promise rests on it.
use Rattle.std.specs.Prelude.{◌≡◌, List, [], ◌∷◌, ◌++◌, ℕ, ◌+◌, ◌*◌, ◌≤◌, ◌<◌, length, take}
use Rattle.layout.specs.declared.message.Reading.{Reading}
use Rattle.frame.specs.Make.{Made}
use Rattle.line.specs.Work.{Put}
use Rattle.maker.specs.declared.Progress.{Progress}
use Rattle.maker.specs.Making.{name_of, Holds, Takes}

-- the buffers for a line, for frames and for names
pub record Room (line frames names : List ℕ) : Type 0 where
  pub for_line : length line ≡ 63
  pub for_frames : length frames ≡ 65536
  pub for_names : length names ≡ 65536

-- between two reads: what was read so far gave what was written so far, and the front of the line that has begun is held
pub record Going (at : Progress) (left : ℕ) (line : List ℕ) : Type 0 where
  pub bytes : List ℕ
  pub frames : List ℕ
  pub names : List ℕ
  pub takes : Takes 0 [] bytes frames names at line
  pub count : length bytes + left ≡ 64000000

-- so many bytes at most, and numbers for the lines that they end
pub record Ready (count : ℕ) (before : Progress) : Type 0 where
  pub bytes : count ≤ 1000
  pub lines : before.lines + count ≤ 64000000

-- a number for the next line, and room for its frame or its name: a frame has 32 bytes, a name at most 56, and while it is written the number may take 20
pub record StepReady (at : Progress) : Type 0 where
  pub lines : at.lines < 64000000
  pub for_frames : at.frames + 32 ≤ 65536
  pub for_names : at.names + 68 ≤ 65536

-- nothing stands in the buffers for frames and names
abbrev pub emptied : Progress → Progress
emptied at = record { lines = at.lines; held = at.held; frames = 0; names = 0 }

-- so many bytes end so many lines at most
pub record Few (bytes : ℕ) (at next : Progress) : Type 0 where
  pub held : next.held ≤ 63
  pub lines : next.lines ≤ at.lines + bytes
  pub frames : next.frames ≤ at.frames + 32 * bytes
  pub names : next.names ≤ at.names + 56 * bytes

-- what bytes give is put after what stands in the buffers
pub record Steps (at : Progress) (line bytes frames names : List ℕ) (next : Progress) (line' frames' names' : List ℕ) : Type 0 where
  pub made : List ℕ
  pub named : List ℕ
  pub puts_frames : Put frames at.frames made frames' next.frames
  pub puts_names : Put names at.names named names' next.names
  pub few : Few (length bytes) at next
  pub takes : (begun : List ℕ) → Holds line at.held begun → Takes at.lines begun bytes made named next line'

-- the byte is put after what is held of a line, and the first 63 bytes of this are held; all else is as it was
pub record Keeps (line : List ℕ) (at : Progress) (byte : ℕ) (left : List ℕ) (next : Progress) : Type 0 where
  pub lines : next.lines ≡ at.lines
  pub frames : next.frames ≡ at.frames
  pub names : next.names ≡ at.names
  pub within : next.held ≤ 63
  pub kept : take next.held left ≡ take 63 (take at.held line ++ (byte ∷ []))

-- the frame of a reading is put from an index on
pub record PutFrame (reading : Reading) (before : List ℕ) (at : ℕ) (after : List ℕ) (next : ℕ) : Type 0 where
  pub frame : List ℕ
  pub made : Made reading frame
  pub put : Put before at frame after next

-- the name of a line is put from an index on
pub record PutName (number : ℕ) (before : List ℕ) (at : ℕ) (after : List ℕ) (next : ℕ) : Type 0 where
  pub put : Put before at (name_of number) after next
  pub most : next ≤ at + 56
