-- Reading a typed line leaves one outcome, and its frame reads back as what the line says.
use mathlib.Core.Path.{◌≡◌, refl, ap}
use mathlib.Core.List.{List}
use Prim.Native.Nat.{ℕ}
use Rattle.layout.specs.declared.message.Reading.{Reading}
use Rattle.layout.specs.Frame.{Lawful}
use Rattle.std.specs.Prelude.{Result, Ok}
use Rattle.sheet.specs.declared.Refusal.{Refusal}
use Rattle.frame.specs.declared.reading.ReadFrame.{ReadFrame}
use Rattle.frame.specs.Make.{Makes}
use Rattle.frame.specs.Read.{Reads}
use Rattle.std.proofs.Common.{Option, Some, None}
use Rattle.typed.specs.Says.{Says, Answers}
use Rattle.typed.proofs.LineLaws.{says_one}
use Rattle.demands.specs.Words.{read_as}
use Rattle.demands.proofs.FrameOutcome.{made_reads_back}
use Rattle.std.specs.Prelude.{Result, Ok}
use Rattle.sheet.specs.declared.Refusal.{Refusal}

pub typed_one : (line : List ℕ) (x y : Option Reading) → Answers line x → Answers line y → x ≡ y
typed_one line (Some a) (Some b) p q = ap Some (says_one a b p q)
typed_one line (Some a) None p q = absurd (q a p)
typed_one line None (Some b) p q = absurd (p b q)
typed_one line None None p q = refl

said_lawful : {line : List ℕ} (reading : Reading) → Says reading line → Lawful reading
said_lawful reading p = record { house = p.number.small; poll = p.after.number.small; counter = p.after.after.small }

pub typed_reads_back : {line lent made : List ℕ} {reading : Reading} (y : Result ReadFrame Refusal) → Says reading line → Makes reading lent (Ok tt) made
    → Reads made y
    → y ≡ read_as reading 0
typed_reads_back {reading = reading} y p m r = made_reads_back y (said_lawful reading p) m r
