use Rattle.std.proofs.Common.{◌≡◌, ◌+◌, ◌↔◌, IsTrue, IfOk, Some, sym, subst, ◌∙◌}
use Rattle.office_core_orders.specs.Ready.{HasEach, HasPlaces}
use Rattle.office_mail.specs.Runs.{order_at}
use Rattle.office_core_orders.proofs.ReadyCount.{none_behind, ready_after}
use Rattle.office_core_orders.proofs.ready.follows.Goals as goal

pub returns-then-is_last-clause-ready : goal.returns-then-is_last-clause-ready
returns-then-is_last-clause-ready g c = λ trusted places ready.
    none_behind c.args.setup.now (g.K.Keeper.content c.args.keeper.now).kept c.args.run places (c.is_last.ensures.last c.if-is_last.true)

pub returns-in-Some-clause-ready : goal.returns-in-Some-clause-ready
returns-in-Some-clause-ready g c = λ trusted places ready.
    let setup = c.args.setup.now in
    let kept = (g.K.Keeper.content c.args.keeper.now).kept in
    let there = c.is_there.ensures in
    let earlier = there.looks.before trusted in
    let order = c.in-Some.order in
    let at : order_at setup kept (c.args.run + 1) ≡ Some order = sym (c.in_ok-order.ensures.order earlier) ∙ c.in-Some.is in
    ready_after setup kept c.args.run order c.is_there.result ready at
    (subst (λ content. HasPlaces setup content.kept → IfOk c.is_there.result (λ there. IsTrue there ↔ HasEach content.kept order.covers)) (c.in_ok-order.ensures.looks.same earlier) (there.there trusted) places)
