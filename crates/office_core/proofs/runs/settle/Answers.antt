use Rattle.std.proofs.Common.{sym, subst}
use Rattle.office_mail.specs.Kept.{Kept}
use Rattle.office_mail.specs.Runs.{IsReady, IsReadyCount}
use Rattle.office_store_keeper.specs.Content.{Content}
use Rattle.office_core_orders.proofs.ReadyCount.{ready_count}
use Rattle.office_core.proofs.runs.settle.Goals as goal

pub returns-clause-ready : goal.returns-clause-ready
returns-clause-ready g c = λ trusted legible office.
    let setup = c.args.setup.now in
    let content : Content = g.K.Keeper.content c.args.keeper.now in
    let so = c.runs.invariant in
    let mid : Content = g.K.Keeper.content c.runs.keeper in
    let next = c.in_ok-finish_next.ensures in
    let earlier = next.before trusted in
    let n = c.runs.finished in
    let now = so.office earlier legible office in
    let ready : IsReady setup mid.kept n = subst (IsReady setup mid.kept) (sym (so.finished earlier)) now.ready in
    subst (λ (k : Kept). IsReadyCount setup k n) (so.kept earlier)
    (ready_count setup mid.kept n ready (λ more. absurd (cc (c.if-branch.false, (next.ready trusted now).1 more))))
