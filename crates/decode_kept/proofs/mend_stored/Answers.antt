-- What the search tells decides.
use mathlib.Core.Path.{refl, sym, subst}
use Rattle.locate.specs.Located.{Located}
use Rattle.sheet.specs.Verdict.{finds, finds_nothing}
use Rattle.decode.proofs.DecodeSteps.{told_places, told-nothing}
use Rattle.decode_kept.proofs.mend_stored.Goals as goal

pub put_stored-requires : goal.put_stored-requires
put_stored-requires c =
    record {
      ready = c.requires;
      located = subst (Located c.args.code.m c.args.code.t c.args.stored.sums) (sym c.as_slice.ensures) (told_places c.of_sums.ensures c.in-Some.is);
    }

pub returns : goal.returns
returns c = finds refl c.put_stored.ensures

pub returns-in_default : goal.returns-in_default
returns-in_default c = finds_nothing refl (told-nothing c.of_sums.ensures c.in_default.is) refl
