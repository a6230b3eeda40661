use Rattle.std.proofs.Common.{slice_index}
use Rattle.office_core_facts.specs.Known.{AreUnderWay}
use Rattle.office_core_facts.specs.steps.Taking.{TookAgain}
use Rattle.office_core_facts.specs.steps.Walk.{said_within}
use Rattle.office_core_store.proofs.LookFacts.{Looked}
use Rattle.office_core_facts.proofs.retaken.retake_all.Given as goal

abbrev pub invariant-senders : goal.invariant-senders
invariant-senders g l =
    let trusted = g.K.Keeper.is_trusted in
    let content = g.K.Keeper.content in
    record {
      again : trusted l.keeper → TookAgain l.names (said_within l.setup (content l.fn.keeper).kept (slice_index l.taken) l.sender) l.fn.facts l.facts;
      way : trusted l.keeper → AreUnderWay l.setup (content l.fn.keeper) l.fn.facts → AreUnderWay l.setup (content l.fn.keeper) l.facts;
      looks : Looked g.K.Keeper l.fn.keeper l.keeper;
    }
