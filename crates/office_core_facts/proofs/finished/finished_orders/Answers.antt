use Rattle.std.proofs.Common.{length, sym, ap, subst, arith}
use Rattle.office_store_keeper.specs.Content.{Content}
use Rattle.office_core_orders.specs.steps.Ready.{FirstOrders}
use Rattle.office_core_facts.proofs.FinishedFacts.{first_none, orders_all, orders_whole}
use Rattle.office_core_facts.proofs.finished.finished_orders.Goals as goal

pub read_orders-requires : goal.read_orders-requires
read_orders-requires g c =
    let content : Content = g.K.Keeper.content c.args.keeper.now in
    record { first = λ trusted. subst (FirstOrders c.args.setup.now content.kept) (sym c.new-orders.ensures.items) (first_none c.args.setup.now content.kept) }

pub returns-clause-orders : goal.returns-clause-orders
returns-clause-orders g c = λ trusted office is.
    let content : Content = g.K.Keeper.content c.args.keeper.now in
    let next = c.in_ok-read_orders.ensures in
    orders_whole c.args.setup.now content c.read_orders.new.orders.items c.args.finished office is (next.first trusted) (next.next (omega (arith, ap length c.new-orders.ensures.items))) (next.none trusted)

pub returns-clause-all : goal.returns-clause-all
returns-clause-all g c = λ trusted office is.
    let content : Content = g.K.Keeper.content c.args.keeper.now in
    let next = c.in_ok-read_orders.ensures in
    orders_all c.args.setup.now content c.read_orders.new.orders.items c.args.finished office is (next.next (omega (arith, ap length c.new-orders.ensures.items))) (next.none trusted)
