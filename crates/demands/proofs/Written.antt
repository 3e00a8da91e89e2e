-- What is written with decimal numbers, as the listing writes them, is read as it was.
use mathlib.Core.Path.{◌≡◌, ap, subst}
use mathlib.Core.List.{List, [], ◌∷◌, ◌++◌, append_assoc}
use Prim.Native.Nat.{ℕ, zero, suc, ◌+◌, ◌-◌, ◌*◌, ◌/◌, ◌%◌, ◌^◌, ◌≤◌, ◌<◌}
use native.Mathlib.Decide.{dec_lt}
use native.Mathlib.Omega.{arith}
use lib.ListN.{length, length-append}
use Rattle.layout.specs.declared.message.Reading.{Reading}
use Rattle.layout.specs.Frame.{Lawful}
use Rattle.line.specs.Line.{decimal, space}
use Rattle.line.proofs.LineLaws.{decimal_small, decimal_more, decimal_fits}
use Rattle.std.proofs.Common.{Option, Some, None}
use Rattle.typed.specs.Says.{Digits, value_from, Number, SaysPoll, Says, Answers}
use Rattle.typed.proofs.SpelledLaws.{value_nil, value_cons, value_last, digits_last}
use Rattle.typed.proofs.LineLaws.{says_one}

-- decimal numbers

record Spells (text : List ℕ) (n : ℕ) : Type 0 where
  some : 1 ≤ length text
  digits : Digits text
  value : n ≡ value_from 0 text

one_digit : (n : ℕ) → n < 10 → Spells ((48 + n) ∷ []) n
one_digit n h =
    record {
      some = omega arith;
      digits = (omega arith, omega arith, tt);
      value = omega (arith, value_cons 0 (48 + n) [], value_nil (10 * 0 + (48 + n - 48)));
    }

one_more : (ds : List ℕ) (n d : ℕ) → d < 10 → Spells ds n → Spells (ds ++ ((48 + d) ∷ [])) (10 * n + d)
one_more ds n d h p =
    record {
      some = omega (arith, length-append ds ((48 + d) ∷ []));
      digits = digits_last ds (48 + d) p.digits (omega arith) (omega arith);
      value = omega (arith, value_last 0 ds (48 + d), p.value);
    }

-- by the size of the number, which a digit less makes smaller
decimal_spells : (k n : ℕ) → n ≤ k → Spells (decimal n) n
decimal_spells zero n h = rw (decimal_small {n = n} (omega arith)) (one_digit n (omega arith))
decimal_spells (suc k) n h = pick (dec_lt n 10) (decimal_spells k (n / 10) (omega arith))
  where
    pick : Dec (n < 10) → Spells (decimal (n / 10)) (n / 10) → Spells (decimal n) n
    pick (yes l) p = rw (decimal_small l) (one_digit n l)
    pick (no l) p =
        let e : 10 * (n / 10) + n % 10 ≡ n = omega arith in
        let t = decimal_more {n = n} (omega arith) in
        subst (Spells (decimal n)) e (rw t (one_more (decimal (n / 10)) (n / 10) (n % 10) (omega arith) p))

decimal_number : {below n : ℕ} → n < 2 ^ 64 → n < below → Number (decimal n) below n
decimal_number {n = n} h l =
    let s = decimal_spells n n (omega arith) in
    record { some = s.some; few = decimal_fits h; digits = s.digits; value = s.value; small = l }

-- house, blank, poll, blank, counter in decimal numbers
abbrev pub written : Reading → List ℕ
written reading = decimal reading.house ++ space ++ decimal reading.poll ++ space ++ decimal reading.counter

pub written_says : (reading : Reading) → Lawful reading → Says reading (written reading)
written_says reading L =
    let poll : SaysPoll reading (decimal reading.poll ++ space ++ decimal reading.counter) =
    record {
      text = decimal reading.poll;
      rest = decimal reading.counter;
      is = simp append_assoc;
      number = decimal_number (omega (arith, L.poll)) L.poll;
      after = decimal_number L.counter L.counter;
    } in
    record {
      text = decimal reading.house;
      rest = decimal reading.poll ++ space ++ decimal reading.counter;
      is = simp append_assoc;
      number = decimal_number (omega (arith, L.house)) L.house;
      after = poll;
    }

-- what is written for a reading is read as that reading
pub written_read : (reading : Reading) (answer : Option Reading) → Lawful reading → Answers (written reading) answer → answer ≡ Some reading
written_read reading (Some other) L a = ap Some (says_one other reading a (written_says reading L))
written_read reading None L a = absurd (a reading (written_says reading L))
