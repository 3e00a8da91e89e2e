-- A line says one reading at most, and its first 63 bytes answer for all of it.
use mathlib.Core.Path.{◌≡◌, ◌∙◌, sym, ap, subst}
use mathlib.Core.List.{List, ◌∷◌}
use Prim.Native.Nat.{ℕ, ◌≤◌}
use native.Mathlib.Decide.{dec_le}
use native.Mathlib.Omega.{arith}
use lib.ListN.{length, take, length-append}
use lib.Seq.{length-take-le, take_all}
use Rattle.layout.specs.declared.message.Reading.{Reading}
use Rattle.layout.proofs.ReadingLaws.{reading_tells}
use Rattle.std.proofs.Common.{Option, Some, None}
use Rattle.typed.specs.Says.{SaysPoll, SaysCounter, Says, Answers}
use Rattle.typed.proofs.SplitLaws.{same_parts}

pub says_one : {line : List ℕ} (x y : Reading) → Says x line → Says y line → x ≡ y
says_one x y p q =
    let house = same_parts p q in
    let q₁ = subst (SaysPoll y) (sym house.1) q.after in
    let poll = same_parts p.after q₁ in
    let q₂ = subst (SaysCounter y) (sym poll.1) q₁.after in
    reading_tells x y house.0 poll.0 (p.after.after.value ∙ sym q₂.value)

-- 62 bytes at most, so the first 63 of a line answer for the whole line

says_short : (line : List ℕ) (reading : Reading) → Says reading line → length line ≤ 62
says_short line reading p =
    let q = p.after in
    omega (
      arith,
      ap length p.is ∙ length-append p.text (32 ∷ p.rest),
      p.number.few,
      ap length q.is ∙ length-append q.text (32 ∷ q.rest),
      q.number.few,
      q.after.few,
    )

pub front_answers : (line : List ℕ) (answer : Option Reading) → Answers (take 63 line) answer → Answers line answer
front_answers line answer a = pick (dec_le (length line) 63) answer a
  where
    pick : Dec (length line ≤ 63) → (x : Option Reading) → Answers (take 63 line) x → Answers line x
    pick (yes h) x b = subst (λ (l : List ℕ). Answers l x) (take_all 63 line h) b
    pick (no h) (Some reading) b = absurd (omega (arith, says_short (take 63 line) reading b, length-take-le 63 line (omega arith)))
    pick (no h) None b = λ reading p. omega (arith, says_short line reading p)
