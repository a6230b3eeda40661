use Rattle.std.proofs.Common.{true, ◌≡◌, ◌-◌, ◌≤◌, IfSome, length}
use Rattle.office_core_facts.specs.Known.{AreKnown}
use Rattle.office_core_orders.specs.steps.Ready.{IsCounted}
use Rattle.office_core_facts.specs.State.{IsOffice}
use Rattle.office_core_store.specs.StaysTrusted.{StaysTrusted}
use Rattle.office_core.proofs.runs.settle.Given as goal

abbrev pub invariant-runs : goal.invariant-runs
invariant-runs g l =
    let trusted = g.K.Keeper.is_trusted in
    let content = g.K.Keeper.content in
    let legible = g.K.Keeper.is_legible in
    record {
      known : trusted l.keeper → IsCounted l.setup (content l.keeper) l.counts.items l.orders.items;
      facts : trusted l.keeper → IfSome l.known (λ known. AreKnown l.setup (content l.keeper) known);
      finished : trusted l.keeper → l.finished ≡ length (content l.keeper).reports;
      grows : trusted l.keeper → length (content l.fn.keeper).reports ≤ length (content l.keeper).reports;
      kept : trusted l.keeper → (content l.keeper).kept ≡ (content l.fn.keeper).kept;
      office : trusted l.keeper → legible l.fn.keeper → IsOffice l.setup (content l.fn.keeper) → IsOffice l.setup (content l.keeper);
      setup : g.K.Keeper.setup l.keeper ≡ g.K.Keeper.setup l.fn.keeper;
      before : trusted l.keeper → trusted l.fn.keeper;
      legible : trusted l.keeper → legible l.fn.keeper → IsOffice l.setup (content l.fn.keeper) → legible l.keeper;
      lasts : StaysTrusted g.K.Keeper l.fn.keeper l.keeper true;
      counted : g.K.Keeper.refusals l.keeper ≡ g.K.Keeper.refusals l.fn.keeper;
    }

abbrev pub decreases-runs : goal.decreases-runs
decreases-runs g l = 999_999_999 - l.finished
