use Rattle.std.proofs.lemmas.Result.{IfOk-weaker}
use Rattle.office_core_orders.specs.Ready.{HasNumbers}
use Rattle.office_core_orders.specs.steps.Ready.{GoesOn}
use Rattle.office_core_orders.proofs.orders.count_on.Goals as goal

pub returns-clause-each : goal.returns-clause-each
returns-clause-each g c = λ trusted.
    let kept = (g.K.Keeper.content c.args.keeper.now).kept in
    let sender = c.args.sender in
    IfOk-weaker c.count_up.result (λ count. GoesOn kept sender c.args.known count c.args.cover) (λ count. HasNumbers kept sender count)
    (λ count goes. goes.each (c.requires.known (c.count_up.ensures.looks.before trusted)))
    (c.count_up.ensures.goes_on trusted)
