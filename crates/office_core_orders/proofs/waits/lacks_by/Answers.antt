use Rattle.std.proofs.Common.{ℕ, ◌<◌, List, length, sym, subst}
use Rattle.office_mail.specs.Kept.{Kept}
use Rattle.office_core_orders.specs.Ready.{HasEach}
use Rattle.office_core_orders.specs.steps.Ready.{IsReached}
use Rattle.office_core_orders.proofs.waits.lacks_by.Goals as goal

pub returns-clause-lacks : goal.returns-clause-lacks
returns-clause-lacks g c = λ trusted.
    let setup = c.args.setup.now in
    let order = c.args.order.now in
    let kept : Kept = (g.K.Keeper.content c.args.keeper.now).kept in
    let counts : List ℕ = c.reach_all.new.counts.items in
    let reach = c.in_ok-reach_all.ensures in
    let each : HasEach kept c.deref.result.now = subst (HasEach kept) (sym c.deref.ensures.value) (reach.each trusted) in
    c.in_ok-lacks_behind.ensures kept each
    (subst (λ (xs : List ℕ). (s : ℕ) → s < length setup.senders → IsReached kept order.covers xs s) (sym c.deref.ensures.value) (reach.reached trusted))
