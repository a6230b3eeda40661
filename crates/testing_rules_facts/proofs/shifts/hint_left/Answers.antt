use Rattle.std.proofs.Common.{◌∙◌, sym, ap, ◌∷◌, [], map}
use Rattle.testing_rules_model.specs.steps.FactRows.{hint_row}
use Rattle.testing_rules_model.proofs.Orders.{hint_total}
use Rattle.testing_rules_facts.proofs.PutSlots.{put-tied, put-untied}
use Rattle.testing_rules_facts.proofs.shifts.hint_left.Goals as goal

pub returns-in-Ok : goal.returns-in-Ok
returns-in-Ok c =
    let place = c.in-Ok.ensures in
    let other = c.index-hints-i.result in
    let way = (put-tied hint_total c.args.hint.now c.args.hints.now c.in-Ok.i c.requires other place.bound (place.found other)).1 in
    ap (λ r. r ∷ []) (c.hint_row.ensures ∙ ap hint_row c.index-hints-i.is) ∙ sym (ap (map hint_row) way)

pub returns-in-Err : goal.returns-in-Err
returns-in-Err c =
    let place = c.in-Err.ensures in
    let way = (put-untied hint_total c.args.hint.now c.args.hints.now c.in-Err.field-0 c.requires place.bound place.found).1 in
    sym (ap (map hint_row) way)
