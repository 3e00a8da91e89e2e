-- A frame and a name, stored from an index on.
use mathlib.Core.Path.{◌≡◌, ◌∙◌, sym, ap, subst}
use mathlib.Core.List.{List, [], ◌++◌, append-nil}
use Prim.Native.Nat.{ℕ, ◌+◌, ◌-◌, ◌≤◌}
use native.Mathlib.Omega.{arith}
use borrow.Rule.Slice.PartMut.{put_mid}
use lib.ListN.{length, take, drop, length-append, length-drop, drop_of_length-le}
use lib.Seq.{length-take-le, paste}
use Rattle.sheet.specs.Number.{Outcome}
use Rattle.sheet.proofs.VerdictLaws.{equal}
use Rattle.layout.specs.declared.message.Reading.{Reading}
use Rattle.frame.specs.Make.{Makes}
use Rattle.line.specs.Line.{decimal, Writes}
use Rattle.line.specs.Work.{Put, PutField}
use Rattle.line.proofs.LineLaws.{decimal-length, put_then, put_copied, part_put}
use Rattle.maker.specs.Making.{line_text, no_reading_text, name_of}
use Rattle.maker.specs.Work.{PutFrame, PutName}

-- 32 bytes have been lent from index `at` on and hold the frame
module _ (lent : List ℕ) (at next : ℕ) (e : next ≡ at + 32) (h : next ≤ length lent) where
  part_long : length (take (next - at) (drop at lent)) ≡ 32
  part_long =
      let d = length-drop at lent in
      let z : next - at ≡ 32 = omega arith in
      length-take-le (next - at) (drop at lent) (omega arith) ∙ z

  pub frame_put : {reading : Reading} {part : List ℕ} {answer : Outcome} → Makes reading (take (next - at) (drop at lent)) answer part
      → PutFrame reading lent at (put_mid at (next - at) lent part) next
  frame_put {part = part} m =
      let made = (m.done (rw (equal part_long))).did in
      let none : drop (length part) (take (next - at) (drop at lent)) ≡ [] =
      drop_of_length-le (take (next - at) (drop at lent)) {i = length part} (omega (arith, part_long, made.long)) in
      let whole : Writes part (take (next - at) (drop at lent)) part 32 =
      record { is = sym (ap (λ (l : List ℕ). part ++ l) none ∙ append-nil part); long = sym made.long } in
      record {
        frame = part;
        made = made;
        put =
            subst (Put lent at part (put_mid at (next - at) lent part)) (sym e)
            (part_put lent at (next - at) (omega arith) (made.long ∙ sym part_long) whole);
      }

-- the number of a line has at most 8 digits
pub name_put : {lent mid left : List ℕ} {number at next : ℕ} → mid ≡ paste lent at line_text (length line_text)
    → PutField mid (at + 5) number no_reading_text left next → number ≤ 64000000 → at + 68 ≤ length lent
    → PutName number lent at left next
unfolding name_of
name_put {lent} {number = number} {at} copied f n h =
    let fits : at + length line_text ≤ length lent = omega arith in
    record {
      put = put_then (put_copied {s = line_text} at fits copied) f.put;
      most = omega (arith, f.put.next_is, length-append (decimal number) no_reading_text, decimal-length 7 number (omega arith));
    }
