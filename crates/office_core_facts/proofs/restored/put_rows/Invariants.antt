use Rattle.std.proofs.Common.{◌-◌, ◌≤◌, length, take}
use Rattle.office_core_facts.specs.Known.{said_all}
use Rattle.office_core_facts.specs.steps.Taking.{HavePutBack}
use Rattle.office_core_store.proofs.LookFacts.{Looked}
use Rattle.office_core_facts.proofs.restored.put_rows.Given as goal

abbrev pub invariant-loads : goal.invariant-loads
invariant-loads g l =
    let trusted = g.K.Keeper.is_trusted in
    let content = g.K.Keeper.content in
    record {
      within : l.start ≤ length l.rows;
      back : trusted l.keeper → HavePutBack (said_all l.setup (content l.fn.keeper).kept) (take l.start l.rows) l.fn.facts l.facts;
      looks : Looked g.K.Keeper l.fn.keeper l.keeper;
    }

abbrev pub decreases-loads : goal.decreases-loads
decreases-loads g l = length l.rows - l.start
