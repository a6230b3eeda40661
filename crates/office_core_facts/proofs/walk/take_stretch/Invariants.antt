use Rattle.std.proofs.Common.{◌≤◌, ◌-◌}
use Rattle.office_core_facts.specs.steps.Chosen.{TookStretch}
use Rattle.office_core_store.proofs.LookFacts.{Looked}
use Rattle.office_core_facts.proofs.walk.take_stretch.Given as goal

abbrev pub invariant-loads : goal.invariant-loads
invariant-loads g l =
    let trusted = g.K.Keeper.is_trusted in
    let content = g.K.Keeper.content in
    record {
      within : l.done ≤ l.stretch.end;
      took : trusted l.keeper → TookStretch l.choice l.setup (content l.fn.keeper) l.stretch.sender l.stretch.done l.done l.fn.facts l.facts;
      looks : Looked g.K.Keeper l.fn.keeper l.keeper;
    }

abbrev pub decreases-loads : goal.decreases-loads
decreases-loads g l = l.stretch.end - l.done
