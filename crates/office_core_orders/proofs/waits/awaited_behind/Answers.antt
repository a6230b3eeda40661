use Rattle.std.proofs.Common.{◌≡◌, ◌+◌, Option, Some, length, sym, ap, subst, ◌∙◌, arith}
use Rattle.office_mail.specs.declared.message.RunOrder.{RunOrder}
use Rattle.office_mail.specs.Runs.{order_at}
use Rattle.office_store_keeper.specs.Content.{Content}
use Rattle.office_core_orders.specs.declared.wait_lines.Awaited.TheVariants.{Mail}
use Rattle.office_core_orders.specs.Waiting.{AreLacks, AwaitsBy}
use Rattle.office_core_orders.proofs.ReadyCount.{ready_bound}
use Rattle.office_core_orders.proofs.waits.awaited_behind.Goals as goal

pub returns-in_ok-lacks-in-Some-clause-awaited : goal.returns-in_ok-lacks-in-Some-clause-awaited
returns-in_ok-lacks-in-Some-clause-awaited g c = λ trusted places ready.
    let setup = c.args.setup.now in
    let content : Content = g.K.Keeper.content c.args.keeper.now in
    let n = c.args.ready in
    let order : RunOrder = c.in-Some.order in
    let next = c.in_ok-lacks-in-Some.ensures in
    let found = c.in_ok-order.ensures in
    let earlier = next.looks.before trusted in
    let run : c.saturating_add.result ≡ n + 1 = omega (arith, c.saturating_add.ensures, ready_bound setup content.kept n places ready) in
    let at : order_at setup content.kept (n + 1) ≡ Some order = ap (order_at setup content.kept) (sym run) ∙ sym (found.order earlier) ∙ c.in-Some.is in
    let lacks : AreLacks content.kept order (length setup.senders) c.in_ok-lacks-in-Some.lacks.items =
    subst (λ (m : Content). AreLacks m.kept order (length setup.senders) c.in_ok-lacks-in-Some.lacks.items) (found.looks.same earlier) (next.lacks trusted) in
    subst (λ (o : Option RunOrder). AwaitsBy setup content.kept o (Mail c.in_ok-lacks-in-Some.lacks)) (sym at) lacks
