-- A reading is told by its three fields.
use mathlib.Core.Path.{◌≡◌, ◌∙◌, ap, ap₂}
use Prim.Native.Nat.{ℕ}
use Rattle.layout.specs.declared.message.Reading.{Reading}

reading_of : ℕ → ℕ → ℕ → Reading
reading_of house poll counter = record { house = house; poll = poll; counter = counter }

pub reading_tells : (x y : Reading) → x.house ≡ y.house → x.poll ≡ y.poll → x.counter ≡ y.counter → x ≡ y
unfolding reading_of
reading_tells x y h p c = ap₂ (λ (a b : ℕ). reading_of a b x.counter) h p ∙ ap (reading_of y.house y.poll) c
