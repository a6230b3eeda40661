use Rattle.std.proofs.Common.{◌≡◌, ◌+◌, ◌<◌, ◌≤◌, ◌↔◌, IsTrue, IfOk, List, length, get_or, sym, subst, arith}
use Rattle.office_mail.specs.declared.message.RunOrder.{RunOrder}
use Rattle.office_mail.specs.Runs.{IsReady}
use Rattle.office_store_keeper.specs.Content.{Content}
use Rattle.office_core_orders.specs.Ready.{HasEach, HasPlaces}
use Rattle.office_core_orders.proofs.ReadyCount.{none_behind, ready_after_last}
use Rattle.office_core_orders.proofs.ready.next_is_ready.Goals as goal

pub returns-then-is_last-clause-ready : goal.returns-then-is_last-clause-ready
returns-then-is_last-clause-ready g c = λ trusted places last.
    none_behind c.args.setup.now (g.K.Keeper.content c.args.keeper.now).kept c.args.finished places (c.is_last.ensures.last c.if-is_last.true)

pub returns-in-Some-clause-ready : goal.returns-in-Some-clause-ready
returns-in-Some-clause-ready g c = λ trusted places last.
    let setup = c.args.setup.now in
    let content : Content = g.K.Keeper.content c.args.keeper.now in
    let there = c.is_there.ensures in
    let earlier = there.looks.before trusted in
    let read = c.in_ok-read_orders.ensures in
    let first = read.looks.before earlier in
    let n = c.args.finished in
    let orders : List RunOrder = c.read_orders.new.orders.items in
    let order = c.in-Some.order.now in
    let ready : IsReady setup content.kept n = subst (λ k. IsReady setup content.kept k) (sym (c.requires.finished first)) last in
    let few : length orders ≤ n + 1 = read.next (omega (arith, (c.requires.known first).next, c.requires.finished first)) in
    let more : n < length orders = subst (λ (xs : List RunOrder). n < length xs) c.deref.ensures.value c.in-Some.ensures.lookup.3.0 in
    let at : order ≡ get_or orders n order = subst (λ (xs : List RunOrder). order ≡ get_or xs n order) c.deref.ensures.value c.in-Some.ensures.lookup.1 in
    ready_after_last setup content.kept orders n order c.is_there.result ready (read.first earlier) few more at
    (subst (λ (m : Content). HasPlaces setup m.kept → IfOk c.is_there.result (λ there. IsTrue there ↔ HasEach m.kept order.covers)) (read.looks.same earlier) (there.there trusted) places)
