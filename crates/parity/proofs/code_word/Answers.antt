-- Room for any word has room for this one.
use mathlib.Core.Path.{◌≡◌, ◌∙◌, refl, sym, ap, subst}
use mathlib.Core.List.{List, ◌++◌}
use Prim.Native.Nat.{ℕ}
use native.Mathlib.Omega.{arith}
use lib.ListN.{length, take, drop, replicate, length-append, length-drop, length-replicate}
use lib.Seq.{length-take-le, take_at}
use Rattle.codes.specs.declared.Code.{Code}
use Rattle.codes.specs.Encoding.{Encoding}
use Rattle.parity.specs.Work.{MessageOf}
use Rattle.parity.proofs.code_word.Goals as goal

roomy : {space : List ℕ} → space ≡ replicate 1024 0 → length space ≡ 1024
roomy e = ap length e ∙ length-replicate {A = ℕ} 1024 0

filled : {c : Code} {message space : List ℕ} → MessageOf c message → space ≡ replicate 1024 0 → length (take c.n space) ≡ c.n
filled {c} {space = space} M z = length-take-le c.n space (omega (arith, M.known.small, roomy z))

at_front : {c : Code} {message space word : List ℕ} → MessageOf c message → space ≡ replicate 1024 0 → Encoding c.m c.t c.k message word
    → Encoding c.m c.t c.k message (take c.n (word ++ drop c.n space)) × (1024 ≡ length (word ++ drop c.n space))
at_front {c} {message} {space} {word} M z E =
    let long : length word ≡ c.n = E.code_word.long ∙ sym M.known.is_n in (
      subst (Encoding c.m c.t c.k message) (sym (take_at word (drop c.n space) c.n long)) E,
      omega (arith, M.known.small, roomy z, length-append word (drop c.n space), length-drop c.n space),
    )

pub slice_bounds-fill_word-end : goal.slice_bounds-fill_word-end
slice_bounds-fill_word-end c = sym (filled c.requires refl)

pub fill_word-requires : goal.fill_word-requires
fill_word-requires c = (c.requires, filled c.requires refl)

pub returns : goal.returns
returns c =
    at_front c.requires refl c.fill_word.ensures
