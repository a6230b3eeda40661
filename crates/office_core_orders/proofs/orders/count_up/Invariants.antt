use Rattle.std.proofs.Common.{◌-◌, ◌<◌, ◌≤◌}
use Rattle.office_core_orders.specs.Ready.{HasNumbers}
use Rattle.office_core_store.proofs.LookFacts.{Looked}
use Rattle.office_core_orders.proofs.orders.count_up.Given as goal

abbrev pub invariant-loads : goal.invariant-loads
invariant-loads g l =
    let trusted = g.K.Keeper.is_trusted in
    let content = g.K.Keeper.content in
    record {
      some : 0 < l.size;
      room : l.size ≤ 256;
      each : trusted l.keeper → HasNumbers (content l.fn.keeper).kept l.sender l.known → HasNumbers (content l.fn.keeper).kept l.sender l.count;
      looks : Looked g.K.Keeper l.fn.keeper l.keeper;
    }

abbrev pub decreases-loads : goal.decreases-loads
decreases-loads g l = l.cover - l.count
