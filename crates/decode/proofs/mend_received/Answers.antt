-- What the search tells decides.
use mathlib.Core.Path.{◌∙◌, sym, subst}
use Rattle.locate.specs.Located.{Located}
use Rattle.decode.proofs.DecodeSteps.{told_places, can_put, put_mends, none_near}
use Rattle.decode.proofs.mend_received.Goals as goal
use Rattle.decode.proofs.mend_received.Goals.{After-as_slice}

-- the places that are lent are located
found : (c : After-as_slice) → Located c.args.code.m c.args.code.t c.of_word.ensures.sums c.as_slice.result.now
found c = subst (Located c.args.code.m c.args.code.t c.of_word.ensures.sums) (sym c.as_slice.ensures) (told_places c.of_word.ensures.searched c.in-Some.is)

pub put_down-requires : goal.put_down-requires
put_down-requires c =
    let ready = c.requires in
    can_put ready.received_bits (ready.received_long ∙ ready.known.is_n) (ready.word_long ∙ sym ready.received_long) ready.list_long
    (found (goal.at.put_down-requires c).After-as_slice)

pub returns : goal.returns
returns c = put_mends c.requires c.of_word.ensures.of_word (found (goal.at.returns c).After-as_slice) c.put_down.ensures

pub returns-in_default : goal.returns-in_default
returns-in_default c = none_near c.requires c.of_word.ensures c.in_default.is
