use Rattle.std.proofs.Common.{◌-◌, ◌≤◌, length}
use Rattle.office_core_orders.specs.steps.Ready.{FirstOrders}
use Rattle.office_core_store.proofs.LookFacts.{Looked}
use Rattle.office_core_orders.proofs.orders.read_orders.Given as goal

abbrev pub invariant-orders : goal.invariant-orders
invariant-orders g l =
    let trusted = g.K.Keeper.is_trusted in
    let content = g.K.Keeper.content in
    record {
      first : trusted l.keeper → FirstOrders l.setup (content l.fn.keeper).kept l.orders.items;
      next : length l.fn.orders.items ≤ l.run → length l.orders.items ≤ l.run;
      looks : Looked g.K.Keeper l.fn.keeper l.keeper;
    }

abbrev pub decreases-orders : goal.decreases-orders
decreases-orders g l = l.run - length l.orders.items
