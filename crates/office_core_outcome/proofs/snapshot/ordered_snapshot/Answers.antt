use Rattle.std.proofs.Common.{◌≡◌, ⊎_elim, ◌+◌, ◌<◌, ◌≤◌, List, Some, None, length, sym, ap, subst, ◌∙◌, arith}
use Rattle.std.proofs.lemmas.Bool.{cases_lt}
use Rattle.office_mail.specs.declared.message.RunOrder.{RunOrder}
use Rattle.office_mail.specs.Runs.{latest_day, order_at}
use Rattle.office_store_keeper.specs.Content.{Content}
use Rattle.office_core_orders.specs.steps.Ready.{FirstOrders}
use Rattle.office_core_orders.proofs.ReadyCount.{ready_bound}
use Rattle.office_core_facts.proofs.FinishedFacts.{first_none}
use Rattle.office_core_facts.specs.steps.Stands.{OfNext}
use Rattle.office_core_outcome.specs.steps.Snapshot.{IsOrderedSnapshot}
use Rattle.office_core_outcome.proofs.HintTextFacts.{has_come, no_day, not_yet_come}
use Rattle.office_core_outcome.proofs.snapshot.ordered_snapshot.Goals as goal

pub read_orders-requires : goal.read_orders-requires
read_orders-requires g c =
    let setup = c.args.setup.now in
    let content : Content = g.K.Keeper.content c.finished.new.keeper in
    record { first = λ trusted. subst (FirstOrders setup content.kept) (sym c.new-orders.ensures.items) (first_none setup content.kept) }

pub returns-clause-kept : goal.returns-clause-kept
returns-clause-kept g c = λ trusted legible.
    let taken = c.in_ok-snapshot.ensures in
    let later = taken.looks.before trusted in
    let earlier = c.in_ok-read_orders.ensures.looks.before later in
    taken.kept trusted legible ∙ ap (λ (m : Content). m.testing) (c.in_ok-read_orders.ensures.looks.same later ∙ c.in_ok-finished.ensures.looks.same earlier)

pub returns-clause-is : goal.returns-clause-is
returns-clause-is g c = λ trusted legible office.
    let setup = c.args.setup.now in
    let content : Content = g.K.Keeper.content c.args.keeper.now in
    let run = c.saturating_add-run.result in
    let orders : List RunOrder = c.read_orders.new.orders.items in
    let given : List RunOrder = c.deref-2.result.now in
    let lent : given ≡ orders = c.deref-2.ensures.value in
    let date = c.in-Some.date in
    let later = c.in_ok-snapshot.ensures.looks.before trusted in
    let earlier = c.in_ok-read_orders.ensures.looks.before later in
    let at = c.in_ok-finished.ensures.looks.same earlier in
    let is = c.in_ok-finished.ensures.value earlier in
    let first : FirstOrders setup content.kept given =
    subst (FirstOrders setup content.kept) (sym lent) (subst (λ (m : Content). FirstOrders setup m.kept orders) at (c.in_ok-read_orders.ensures.first later)) in
    let next : run ≡ length content.reports + 1 = omega (arith, c.saturating_add-run.ensures, is, ready_bound setup content.kept (length content.reports) office.places office.ready) in
    let all : length orders ≡ run = omega (arith, c.if-len-run.false, c.len.ensures) in
    let count : length given ≡ run = ap (λ (os : List RunOrder). length os) lent ∙ all in
    let day : latest_day given ≡ Some date = ap latest_day (lent ∙ sym c.deref.ensures.value) ∙ sym c.latest_day.ensures ∙ c.in-Some.is in
    subst (λ (m : Content). OfNext setup m given (run ≡ length given → latest_day given ≡ Some date → IsOrderedSnapshot setup m.kept (length m.reports) c.in_ok-snapshot.snapshot))
    (c.in_ok-read_orders.ensures.looks.same later ∙ at) (c.in_ok-snapshot.ensures.is trusted legible) office first (count ∙ next) (sym count) day

pub returns-then-len-run-clause-ordered : goal.returns-then-len-run-clause-ordered
returns-then-len-run-clause-ordered g c = λ trusted office.
    let setup = c.args.setup.now in
    let content : Content = g.K.Keeper.content c.args.keeper.now in
    let run = c.saturating_add-run.result in
    let orders : List RunOrder = c.read_orders.new.orders.items in
    let earlier = c.in_ok-read_orders.ensures.looks.before trusted in
    let is = c.in_ok-finished.ensures.value earlier in
    let next : run ≡ length content.reports + 1 = omega (arith, c.saturating_add-run.ensures, is, ready_bound setup content.kept (length content.reports) office.places office.ready) in
    let few : length orders ≤ run = c.in_ok-read_orders.ensures.next (omega (arith, ap length c.new-orders.ensures.items)) in
    let short : length orders < run = ⊎_elim
    (λ (lt : length orders < run). lt)
    (λ (le : run ≤ length orders). absurd (c.if-len-run.true (omega (arith, c.len.ensures, few, le))))
    (cases_lt (length orders) run) in
    let gap : order_at setup content.kept (length orders + 1) ≡ None =
    subst (λ (m : Content). order_at setup m.kept (length orders + 1) ≡ None) (c.in_ok-finished.ensures.looks.same earlier) (c.in_ok-read_orders.ensures.none trusted short) in
    sym (not_yet_come setup content orders office (omega (arith, short, next)) gap)

pub returns-in_default-clause-ordered : goal.returns-in_default-clause-ordered
returns-in_default-clause-ordered g c = λ trusted office.
    let orders : List RunOrder = c.read_orders.new.orders.items in
    let none : latest_day orders ≡ None = ap latest_day (sym c.deref.ensures.value) ∙ sym c.latest_day.ensures ∙ c.in_default.is in
    absurd (omega (arith, no_day orders none, c.if-len-run.false, c.len.ensures, c.saturating_add-run.ensures))

pub returns-clause-ordered : goal.returns-clause-ordered
returns-clause-ordered g c = λ trusted office.
    let setup = c.args.setup.now in
    let content : Content = g.K.Keeper.content c.args.keeper.now in
    let orders : List RunOrder = c.read_orders.new.orders.items in
    let later = c.in_ok-snapshot.ensures.looks.before trusted in
    let earlier = c.in_ok-read_orders.ensures.looks.before later in
    let is = c.in_ok-finished.ensures.value earlier in
    let first : FirstOrders setup content.kept orders = subst (λ (m : Content). FirstOrders setup m.kept orders) (c.in_ok-finished.ensures.looks.same earlier) (c.in_ok-read_orders.ensures.first later) in
    let count : length orders ≡ length content.reports + 1 =
    omega (arith, c.if-len-run.false, c.len.ensures, c.saturating_add-run.ensures, is, ready_bound setup content.kept (length content.reports) office.places office.ready) in
    sym (has_come setup content orders first count)
