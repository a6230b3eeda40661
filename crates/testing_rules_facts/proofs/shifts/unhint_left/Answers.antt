use Rattle.std.proofs.Common.{◌∙◌, sym, ap, ◌∷◌, [], map}
use Rattle.testing_rules_model.specs.steps.FactRows.{unhint_row}
use Rattle.testing_rules_model.proofs.Orders.{unhint_total}
use Rattle.testing_rules_facts.proofs.PutSlots.{put-tied, put-untied}
use Rattle.testing_rules_facts.proofs.shifts.unhint_left.Goals as goal

pub returns-in-Ok : goal.returns-in-Ok
returns-in-Ok c =
    let x = c.args.unhint.now in
    let place = c.in-Ok.ensures in
    let way = (put-tied unhint_total x c.args.unhints.now c.in-Ok.i c.requires _ place.bound (place.found _)).1 in
    ap (λ r. r ∷ []) c.unhint_row.ensures ∙ sym (ap (map unhint_row) way)

pub returns-in-Err : goal.returns-in-Err
returns-in-Err c =
    let place = c.in-Err.ensures in
    let way = (put-untied unhint_total c.args.unhint.now c.args.unhints.now c.in-Err.field-0 c.requires place.bound place.found).1 in
    sym (ap (map unhint_row) way)
