-- Steps one after another, what a newline gives, and the promise from the steps.
use mathlib.Core.Path.{◌≡◌, ◌∙◌, refl, sym, ap, subst}
use mathlib.Core.List.{List, [], ◌∷◌, ◌++◌}
use Prim.Native.Nat.{ℕ, ◌+◌, ◌≤◌, ◌<◌}
use native.Mathlib.Omega.{arith}
use lib.ListN.{length, take, length-append}
use lib.Seq.{length-take-le}
use Rattle.line.proofs.LineLaws.{put_nothing, put_then, put_line}
use Rattle.std.proofs.Common.{Option}
use Rattle.layout.specs.declared.message.Reading.{Reading}
use Rattle.typed.specs.Says.{Answers}
use Rattle.typed.proofs.LineLaws.{front_answers}
use Rattle.maker.specs.declared.Progress.{Progress}
use Rattle.maker.specs.Making.{lines_of, begun_of, last_of, Gives, GiveAll, none, Holds, Takes, Fills, FillsLast}
use Rattle.maker.specs.Work.{Ready, Going, StepReady, emptied, Steps, Keeps}
use Rattle.maker.proofs.LinesLaws.{line_ends, begun_ends, line_goes_on, begun_goes_on, lines_few, give_one, takes_none, takes_then}
use Rattle.maker.proofs.KeptLaws.{keeps_front}

pub steps_none : (at : Progress) (line frames names : List ℕ) → at.held ≤ 63 → Steps at line [] frames names at line frames names
steps_none at line frames names h =
    record {
      made = [];
      named = [];
      puts_frames = put_nothing frames refl;
      puts_names = put_nothing names refl;
      few = record { held = h; lines = omega arith; frames = omega arith; names = omega arith };
      takes = λ begun o. takes_none at o;
    }

pub steps_then : {at mid next : Progress} {line xs ys frames names line₁ frames₁ names₁ line₂ frames₂ names₂ : List ℕ}
    → Steps at line xs frames names mid line₁ frames₁ names₁ → Steps mid line₁ ys frames₁ names₁ next line₂ frames₂ names₂
    → Steps at line (xs ++ ys) frames names next line₂ frames₂ names₂
steps_then {xs = xs} {ys} s t =
    let long = length-append xs ys in
    record {
      made = s.made ++ t.made;
      named = s.named ++ t.named;
      puts_frames = put_then s.puts_frames t.puts_frames;
      puts_names = put_then s.puts_names t.puts_names;
      few = record {
        held = t.few.held;
        lines = omega (arith, s.few.lines, t.few.lines);
        frames = omega (arith, s.few.frames, t.few.frames);
        names = omega (arith, s.few.names, t.few.names);
      };
      takes = λ begun o. let p = s.takes begun o in takes_then p (t.takes _ p.holds);
    }

-- a byte that does not end the line
pub steps_kept : {at next : Progress} {line left : List ℕ} {byte : ℕ} (frames names : List ℕ) → (byte ≡ 10 → ⊥) → Keeps line at byte left next
    → Steps at line (byte ∷ []) frames names next left frames names
steps_kept {byte = byte} frames names n k =
    record {
      made = [];
      named = [];
      puts_frames = put_nothing frames k.frames;
      puts_names = put_nothing names k.names;
      few = record { held = k.within; lines = omega (arith, k.lines); frames = omega (arith, k.frames); names = omega (arith, k.names) };
      takes = λ begun o.
          record {
            gives = rw (line_goes_on begun byte n) none;
            counts = omega (arith, k.lines, ap length (line_goes_on begun byte n));
            holds = rw (begun_goes_on begun byte n) (keeps_front begun k o);
          };
    }

-- a newline

pub one_line : (begun : List ℕ) → length (lines_of begun (10 ∷ [])) ≡ 1
one_line begun = ap length (line_ends begun)

pub line_gives : {number : ℕ} {begun frames names : List ℕ} → Gives number begun frames names → GiveAll number (lines_of begun (10 ∷ [])) frames names
line_gives {begun = begun} g = rw (line_ends begun) (give_one g)

pub nothing_held : (line begun : List ℕ) → Holds line 0 (begun_of begun (10 ∷ []))
nothing_held line begun = rw (begun_ends begun) (record { within = omega arith; front = refl })

-- what is held answers for the line
pub holds_answers : {line begun : List ℕ} {held : ℕ} (answer : Option Reading) → Holds line held begun → Answers (take held line) answer → Answers begun answer
holds_answers {begun = begun} answer h a = front_answers begun answer (subst (λ (l : List ℕ). Answers l answer) h.front a)

-- the promise

-- room for one byte more
pub step_ready : {count : ℕ} {before start at : Progress} {line bytes frames names line' frames' names' : List ℕ} → Ready count before
    → start ≡ emptied before → Steps start line bytes frames names at line' frames' names' → length bytes < count → StepReady at
step_ready r e s h =
    let lines = ap (λ (p : Progress). p.lines) e in
    let none_yet = ap (λ (p : Progress). p.frames) e in
    let no_names = ap (λ (p : Progress). p.names) e in
    record {
      lines = omega (arith, s.few.lines, r.lines);
      for_frames = omega (arith, s.few.frames, r.bytes);
      for_names = omega (arith, s.few.names, r.bytes);
    }

module _ {count : ℕ} {before start after : Progress} {line bytes frames names line' frames' names' : List ℕ} (r : Ready count before)
    (e : start ≡ emptied before) (s : Steps start line bytes frames names after line' frames' names') (l : length bytes ≤ count)
    (f : length frames ≡ 65536) (n : length names ≡ 65536) where
  from_front : Steps (emptied before) line bytes frames names after line' frames' names'
  from_front = subst (λ (p : Progress). Steps p line bytes frames names after line' frames' names') e s

  pub fills : Fills before line bytes frames names after line' frames' names'
  fills =
      let w = from_front in
      record {
        frames = w.made;
        names = w.named;
        writes_frames = put_line w.puts_frames (omega (arith, w.few.frames, f, r.bytes));
        writes_names = put_line w.puts_names (omega (arith, w.few.names, n, r.bytes));
        takes = w.takes;
      }

-- a line that has begun and is not empty is the last line
pub last_line : {before start after : Progress} {line frames names line' frames' names' : List ℕ} → Ready 1 before → start ≡ emptied before
    → Steps start line (10 ∷ []) frames names after line' frames' names' → length line ≡ 63 → before.held ≤ 63 → length frames ≡ 65536
    → length names ≡ 65536 → (start.held ≡ 0 → ⊥) → FillsLast before line frames names after frames' names'
last_line {before} {start} {line = line} r e s long h f m n =
    let w = fills r e s (omega arith) f m in
    record {
      frames = w.frames;
      names = w.names;
      writes_frames = w.writes_frames;
      writes_names = w.writes_names;
      gives = λ begun o. rw (last_of_lem begun o) (rw (line_ends begun) at (w.takes begun o).gives);
    }
  where
    last_of_lem : (begun : List ℕ) → Holds line before.held begun → last_of begun ≡ begun ∷ []
    last_of_lem [] o =
        let some : start.held ≡ before.held = ap (λ (p : Progress). p.held) e in
        absurd (n (omega (arith, ap length o.front, length-take-le before.held line (omega (arith, long, h)))))
    last_of_lem (b ∷ bs) o = refl

pub no_line : {before start : Progress} (line frames names : List ℕ) → start ≡ emptied before → start.held ≡ 0
    → FillsLast before line frames names start frames names
no_line {before} {start} line frames names e h =
    record {
      frames = [];
      names = [];
      writes_frames = record { is = refl; long = ap (λ (p : Progress). p.frames) e };
      writes_names = record { is = refl; long = ap (λ (p : Progress). p.names) e };
      gives = λ begun o. rw (none_of begun o) none;
    }
  where
    none_of : (begun : List ℕ) → Holds line before.held begun → last_of begun ≡ []
    none_of [] o = refl
    none_of (b ∷ bs) o =
        let z : before.held ≡ 0 = sym (ap (λ (p : Progress). p.held) e) ∙ h in
        let same : take 0 line ≡ take 63 (b ∷ bs) = rw z at o.front in
        absurd (omega (arith, ap length same))

-- nothing is read yet
pub going_first : (at : Progress) (line : List ℕ) → at.lines ≡ 0 → at.held ≡ 0 → Going at 64000000 line
going_first at line l h =
    let none_held : Holds line at.held [] = rw h (record { within = omega arith; front = refl }) in
    let takes = takes_none at none_held in
    record { bytes = []; frames = []; names = []; takes = subst (λ (n : ℕ). Takes n [] [] [] [] at line) l takes; count = refl }

-- what the next bytes give comes after what was given so far
pub going_on : {at next : Progress} {left left' : ℕ} {line piece frames names line' frames' names' : List ℕ} → Going at left line
    → Fills at line piece frames names next line' frames' names' → length piece + left' ≡ left → Going next left' line'
going_on {piece = piece} g f e =
    record {
      bytes = g.bytes ++ piece;
      frames = g.frames ++ f.frames;
      names = g.names ++ f.names;
      takes = takes_then g.takes (f.takes (begun_of [] g.bytes) g.takes.holds);
      count = omega (arith, length-append g.bytes piece, g.count);
    }

-- every byte read ended one line at most
pub going_few : {at : Progress} {left : ℕ} {line : List ℕ} → Going at left line → (at.lines + left ≤ 64000000) × (at.held ≤ 63)
going_few g = (omega (arith, g.takes.counts, lines_few [] g.bytes, g.count), g.takes.holds.within)
