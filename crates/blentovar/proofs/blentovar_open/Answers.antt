-- What the checks answer is told, beside the record or beside zeros.
use mathlib.Core.Path.{◌∙◌, ap}
use Rattle.std.specs.Prelude.{Ok, Err}
use Rattle.sheet.specs.declared.Told.{Told}
use Rattle.sheet.specs.Number.{outcome_told, outcome_of}
use Rattle.kept.proofs.OpenLaws.{checked_ready, open_done, open_refused}
use Rattle.blentovar.specs.Layout.{told_beside}
use Rattle.blentovar.proofs.blentovar_open.Goals as goal

pub opened-requires : goal.opened-requires
opened-requires c = checked_ready c.in-Ok.is c.checks-checked.ensures

pub returns-in-Ok : goal.returns-in-Ok
returns-in-Ok c =
    record {
      answer = Ok c.opened.result;
      promised = open_done c.in-Ok.is c.checks-checked.ensures c.opened.ensures;
      is =
          c.told_beside.ensures
          ∙ ap (λ (t : Told). told_beside t c.opened.result) (c.tell_outcome-told.ensures ∙ ap (λ x. outcome_told (outcome_of x)) c.in-Ok.is);
    }

pub returns-in-Err : goal.returns-in-Err
returns-in-Err c =
    record {
      answer = Err _;
      promised = open_refused c.in-Err.is c.checks-checked.ensures;
      is =
          c.told_beside-in-Err.ensures
          ∙ ap (λ (t : Told). told_beside t _) (c.tell_outcome-told.ensures ∙ ap (λ x. outcome_told (outcome_of x)) c.in-Err.is);
    }
