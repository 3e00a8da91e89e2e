use mathlib.Core.Path.{◌≡◌, ◌∙◌, subst}
use mathlib.Core.List.{List}
use Prim.Native.Nat.{ℕ, ◌+◌, ◌*◌}
use native.Mathlib.Omega.{arith}
use Rattle.bits.specs.Bits.{AreBits}
use Rattle.layout.specs.Work.{Digits, air_bit, sent_from}
use Rattle.layout.proofs.DigitLaws.{digits_more, digits_fit}
use Rattle.layout.proofs.SentLaws.{air_small}
use Rattle.layout.proofs.places.gather.Goals as goal

next : (word : List ℕ) (first : ℕ) {i v b : ℕ} → AreBits word → Digits (sent_from word first) i v → b ≡ air_bit word (first + i)
    → Digits (sent_from word first) (i + 1) (2 * v + b)
next word first {i} {v} B d e = rw e (digits_more d (air_small B (first + i)))

pub overflow_mul-v : goal.overflow_mul-v
overflow_mul-v c = record { fits = omega (arith, digits_fit {b = 0} c.loop-i.invariant (omega arith) (omega arith)) }

pub overflow_add-v : goal.overflow_add-v
overflow_add-v c =
    record { fits = digits_fit c.loop-i.invariant (omega arith) (rw (c.from.ensures, c.air_bit.ensures) (air_small c.requires.0 _)) }

pub loop-i-preserved : goal.loop-i-preserved
loop-i-preserved c =
    next _ _ c.requires.0 c.loop-i.invariant (c.from.ensures ∙ c.air_bit.ensures)

pub returns : goal.returns
returns c =
    let z : c.loop-i.i ≡ c.args.count = omega arith in
    record { digits = subst (λ (n : ℕ). Digits (sent_from c.args.word.now c.args.from.number) n c.loop-i.v) z c.loop-i.invariant }
