use Rattle.testing_rules_model.proofs.Orders.{hint_total}
use Rattle.testing_rules_facts.proofs.PutSlots.{put-tied, put-untied}
use Rattle.testing_rules_facts.proofs.taken.slot_of_hint.Goals as goal

pub returns-in-Ok : goal.returns-in-Ok
returns-in-Ok c =
    let x = c.args.hint.now in
    let place = c.in-Ok.ensures in
    (place.bound, (put-tied hint_total x c.args.hints.now c.in-Ok.i c.requires x place.bound (place.found x)).0)

pub returns-in-Err : goal.returns-in-Err
returns-in-Err c =
    let place = c.in-Err.ensures in
    (place.bound, (put-untied hint_total c.args.hint.now c.args.hints.now c.in-Err.i c.requires place.bound place.found).0)
