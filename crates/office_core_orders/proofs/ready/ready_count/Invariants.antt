use Rattle.std.proofs.Common.{◌-◌}
use Rattle.office_mail.specs.Runs.{IsReady}
use Rattle.office_core_orders.specs.Ready.{HasEach, HasPlaces}
use Rattle.office_core_store.proofs.LookFacts.{Looked}
use Rattle.office_core_orders.proofs.ready.ready_count.Given as goal

abbrev pub invariant-runs : goal.invariant-runs
invariant-runs g l =
    let trusted = g.K.Keeper.is_trusted in
    let content = g.K.Keeper.content in
    record {
      each : trusted l.keeper → HasEach (content l.fn.keeper).kept l.counts.items;
      ready : trusted l.keeper → HasPlaces l.setup (content l.fn.keeper).kept → IsReady l.setup (content l.fn.keeper).kept l.fn.finished → IsReady l.setup (content l.fn.keeper).kept l.count;
      looks : Looked g.K.Keeper l.fn.keeper l.keeper;
    }

abbrev pub decreases-runs : goal.decreases-runs
decreases-runs g l = 999_999_999 - l.count
