use Rattle.std.proofs.Common.{ℕ, ◌<◌}
use Rattle.office_core_orders.specs.Ready.{HasEach}
use Rattle.office_core_orders.specs.steps.Ready.{IsReached}
use Rattle.office_core_store.proofs.LookFacts.{Looked}
use Rattle.office_core_orders.proofs.orders.reach_all.Given as goal

abbrev pub invariant-senders : goal.invariant-senders
invariant-senders g l =
    let trusted = g.K.Keeper.is_trusted in
    let content = g.K.Keeper.content in
    record {
      each : trusted l.keeper → HasEach (content l.fn.keeper).kept l.counts.items;
      reached : trusted l.keeper → (s : ℕ) → s < l.sender → IsReached (content l.fn.keeper).kept l.order.covers l.counts.items s;
      looks : Looked g.K.Keeper l.fn.keeper l.keeper;
    }
