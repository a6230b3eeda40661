use Rattle.std.proofs.Common.{◌≡◌, List, length, subst}
use Rattle.office_mail.specs.declared.message.RunOrder.{RunOrder}
use Rattle.office_mail.specs.Runs.{orders_to}
use Rattle.office_store_keeper.specs.Content.{Content}
use Rattle.office_core_facts.specs.State.{IsOffice}
use Rattle.office_core_facts.proofs.FinishedFacts.{known_after}
use Rattle.office_core_facts.proofs.last_run.finished_runs.Goals as goal

pub returns-clause-finished : goal.returns-clause-finished
returns-clause-finished g c = λ trusted.
    let setup = c.args.setup.now in
    let later = c.in_ok-remember.ensures.looks.before trusted in
    let earlier = c.in_ok-orders.ensures.looks.before later in
    let at = c.in_ok-count.ensures.looks.same earlier in
    let is = c.in_ok-count.ensures.value earlier in
    let orders : List RunOrder = c.in_ok-orders.orders.items in
    let count = c.in_ok-count.count in
    record {
      count = is;
      orders = λ office. subst (λ (m : Content). IsOffice setup m → count ≡ length m.reports → orders ≡ orders_to setup m.kept (length m.reports)) at (c.in_ok-orders.ensures.orders later) office is;
      all = λ office. subst (λ (m : Content). IsOffice setup m → count ≡ length m.reports → length orders ≡ length m.reports) at (c.in_ok-orders.ensures.all later) office is;
    }

pub returns-clause-known : goal.returns-clause-known
returns-clause-known g c = λ trusted.
    let asked = c.in_ok-count.ensures in
    let read = c.in_ok-orders.ensures in
    let last = c.in_ok-remember.ensures in
    let later = last.looks.before trusted in
    let earlier = read.looks.before later in
    known_after c.args.setup.now (g.K.Keeper.content c.args.keeper.now) _ _ _ c.in_ok-count.count c.in_ok-orders.orders.items c.deref.result.now c.args.known.now c.remember.new.known
    (asked.looks.same earlier) (read.looks.same later) (last.looks.same trusted) c.deref.ensures.value (asked.value earlier) (read.first later) (c.requires.known (asked.looks.before earlier)) (last.known trusted)

pub returns-in_err-remember-clause-known : goal.returns-in_err-remember-clause-known
returns-in_err-remember-clause-known g c = λ trusted.
    let asked = c.in_ok-count.ensures in
    let read = c.in_ok-orders.ensures in
    let last = c.in_err-remember.ensures in
    let later = last.looks.before trusted in
    let earlier = read.looks.before later in
    known_after c.args.setup.now (g.K.Keeper.content c.args.keeper.now) _ _ _ c.in_ok-count.count c.in_ok-orders.orders.items c.deref.result.now c.args.known.now c.remember.new.known
    (asked.looks.same earlier) (read.looks.same later) (last.looks.same trusted) c.deref.ensures.value (asked.value earlier) (read.first later) (c.requires.known (asked.looks.before earlier)) (last.known trusted)
