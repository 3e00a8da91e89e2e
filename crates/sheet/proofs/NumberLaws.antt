-- What is told tells the refusals apart, and 5 alone has something beside its number. No refusal has the number 0 or the struck one; the others kept theirs.
use mathlib.Core.Path.{◌≡◌, ◌∙◌, refl, sym, ap}
use mathlib.Core.List.{List, [], ◌∷◌}
use mathlib.Core.Logic.{◌≢◌}
use Prim.Native.Nat.{ℕ}
use native.Mathlib.Omega.{arith}
use lib.ListN.{get_or}
use Rattle.sheet.specs.declared.Refusal.{Refusal}
use Rattle.sheet.specs.declared.Refusal.TheVariants.{FieldSize, NotListed, InputLength, OutputLength, BitAboveOne, NothingNear}
use Rattle.sheet.specs.declared.Refusal.TheVariants.{RecordContents, FrameLength, PadBit, LeadBits, StretchEnd, NoTrailer, BookSize, NoSuchFrame}
use Rattle.sheet.specs.declared.Told.{Told}
use Rattle.sheet.specs.Number.{Outcome}
use Rattle.std.specs.Prelude.{Ok, Err}
use Rattle.sheet.specs.Number.{plainly, told_of, outcome_told, number_of, outcome_number, struck}

-- a row of the sheet: a refusal stands there, or none
pub data Row : Type 0 where
  none : Row
  stands : Refusal → Row

-- The sheet row by row, from 0 on, for a buffer and a place that stand with 5. At 0 stands none, since 0 says that nothing is refused; at 8 stands none,
-- since 8 is struck. The others stand where they stood before that.
abbrev pub sheet : ℕ → ℕ → List Row
sheet buffer place =
    none ∷ stands FieldSize ∷ stands NotListed ∷ stands InputLength ∷ stands OutputLength ∷ stands (BitAboveOne buffer place) ∷ stands NothingNear
    ∷ stands RecordContents ∷ none ∷ stands FrameLength ∷ stands PadBit ∷ stands LeadBits ∷ stands StretchEnd
    ∷ stands NoTrailer ∷ stands BookSize ∷ stands NoSuchFrame ∷ []

-- the row of what is told
abbrev pub row_at : Told → Row
row_at told = get_or (sheet told.buffer told.place) told.number none

-- The others kept their numbers: each refusal has the number of the row in which it stands.
pub others_kept : (r : Refusal) → row_at (told_of r) ≡ stands r
others_kept FieldSize = refl
others_kept NotListed = refl
others_kept InputLength = refl
others_kept OutputLength = refl
others_kept (BitAboveOne buffer place) = refl
others_kept NothingNear = refl
others_kept RecordContents = refl
others_kept FrameLength = refl
others_kept PadBit = refl
others_kept LeadBits = refl
others_kept StretchEnd = refl
others_kept NoTrailer = refl
others_kept BookSize = refl
others_kept NoSuchFrame = refl

-- so no refusal has the number of a row in which none stands
not_there : (r : Refusal) (n : ℕ) → ((buffer place : ℕ) → get_or (sheet buffer place) n none ≡ none) → number_of r ≢ n
not_there r n z e =
    let there : stands r ≡ none = sym (others_kept r) ∙ ap (λ (k : ℕ). get_or (sheet (told_of r).buffer (told_of r).place) k none) e ∙ z _ _ in
    let f : ◌≡◌ {A = ℕ} 0 1 = cc in
    omega arith

pub never_struck : (r : Refusal) → number_of r ≢ struck
never_struck r = not_there r struck (λ buffer place. refl)

pub refusal_not : (r : Refusal) → number_of r ≢ 0
refusal_not r = not_there r 0 (λ buffer place. refl)

same_row : {r s : Refusal} → stands r ≡ stands s → r ≡ s
same_row {r} {s} e = cc

-- what is told of a refusal tells it
pub told_tells : {r s : Refusal} → told_of r ≡ told_of s → r ≡ s
told_tells {r} {s} e = same_row (sym (others_kept r) ∙ ap row_at e ∙ others_kept s)

-- a refusal that is not 5 has nothing beside its number
pub others_plain : (r : Refusal) → ((buffer place : ℕ) → r ≢ BitAboveOne buffer place) → told_of r ≡ plainly (number_of r)
others_plain FieldSize n = refl
others_plain NotListed n = refl
others_plain InputLength n = refl
others_plain OutputLength n = refl
others_plain (BitAboveOne buffer place) n = absurd (n buffer place refl)
others_plain NothingNear n = refl
others_plain RecordContents n = refl
others_plain FrameLength n = refl
others_plain PadBit n = refl
others_plain LeadBits n = refl
others_plain StretchEnd n = refl
others_plain NoTrailer n = refl
others_plain BookSize n = refl
others_plain NoSuchFrame n = refl

pub plain_but_5 : (r : Refusal) → number_of r ≢ 5 → told_of r ≡ plainly (number_of r)
plain_but_5 r n = others_plain r (λ buffer place e. n (ap number_of e))

-- so its number alone tells it
pub number_tells : {r s : Refusal} → number_of r ≡ number_of s → number_of r ≢ 5 → r ≡ s
number_tells {r} {s} e n = told_tells (plain_but_5 r n ∙ ap plainly e ∙ sym (plain_but_5 s (λ f. n (e ∙ f))))

-- what is told of an outcome tells it
pub outcome_tells : (x y : Outcome) → outcome_told x ≡ outcome_told y → x ≡ y
outcome_tells (Ok u) (Ok v) e = refl
outcome_tells (Ok u) (Err r) e = absurd (refusal_not r (sym (ap (λ (t : Told). t.number) e)))
outcome_tells (Err r) (Ok u) e = absurd (refusal_not r (ap (λ (t : Told). t.number) e))
outcome_tells (Err r) (Err s) e = ap Err (told_tells e)

-- an outcome that is not 5 has nothing beside its number either
pub outcome_plain : (x : Outcome) → outcome_number x ≢ 5 → outcome_told x ≡ plainly (outcome_number x)
outcome_plain (Ok u) n = refl
outcome_plain (Err r) n = plain_but_5 r n
