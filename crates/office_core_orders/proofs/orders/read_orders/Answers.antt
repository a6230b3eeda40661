use Rattle.std.proofs.Common.{true, ◌≡◌, ◌+◌, Some, List, [], ◌∷◌, length, sym, ap, subst, ◌∙◌, arith}
use Rattle.std.proofs.lemmas.List.{length-append}
use Rattle.office_mail.specs.declared.message.RunOrder.{RunOrder}
use Rattle.office_mail.specs.Runs.{order_at}
use Rattle.office_core_orders.specs.steps.Ready.{FirstOrders}
use Rattle.office_core_orders.proofs.ReadyCount.{FirstOrders-more}
use Rattle.office_core_store.proofs.LookFacts.{looked_then}
use Rattle.office_core_orders.proofs.orders.read_orders.Goals as goal

pub orders-preserved : goal.orders-preserved
orders-preserved g c =
    let setup = c.args.setup.now in
    let so = c.orders.invariant in
    let next = c.in_ok-order.ensures in
    let kept = (g.K.Keeper.content c.args.keeper.now).kept in
    let mid = g.K.Keeper.content c.orders.keeper in
    let orders : List RunOrder = c.orders.orders.items in
    record {
      first = λ trusted.
          let earlier = next.looks.before trusted in
          let here : c.len-in-orders.result + 1 ≡ length orders + 1 = omega (arith, c.len-in-orders.ensures) in
          let at : order_at setup mid.kept (length orders + 1) ≡ Some c.in-Some.order = ap (order_at setup mid.kept) (sym here) ∙ sym (next.order trusted) ∙ c.in-Some.is in
          subst (FirstOrders setup kept) (sym c.in_ok-push.ensures.items)
          (FirstOrders-more setup kept orders c.in-Some.order (so.first earlier) (subst (λ content. order_at setup content.kept (length orders + 1) ≡ Some c.in-Some.order) (so.looks.same earlier) at));
      next = λ low. omega (arith, so.next low, ap length c.in_ok-push.ensures.items, length-append orders (c.in-Some.order ∷ []), c.orders-test.true, c.len.ensures);
      looks = looked_then g.K.Keeper c.args.keeper.now c.orders.keeper c.order.new.keeper so.looks next.looks;
    }
