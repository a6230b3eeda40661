use Rattle.std.proofs.Common.{List, subst}
use Rattle.office_mail.specs.declared.message.RunOrder.{RunOrder}
use Rattle.office_mail.specs.Runs.{IsGreatest, IsReadyRun}
use Rattle.office_core_orders.proofs.ReadyCount.{within_one}
use Rattle.office_core_orders.proofs.orders.is_within.Goals as goal

pub returns : goal.returns
returns c =
    within_one c.args.order.now c.args.counts.now c.ready.result
    (subst (λ (orders : List RunOrder). IsGreatest (IsReadyRun orders c.args.counts.now) c.ready.result) c.from_ref.ensures.value c.ready.ensures)
