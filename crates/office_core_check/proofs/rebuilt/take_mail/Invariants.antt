use Rattle.std.proofs.Common.{◌≡◌}
use Rattle.office_store_keeper.specs.MemoryState.{content_of}
use Rattle.office_core_store.proofs.LookFacts.{Looked}
use Rattle.office_core_check.specs.steps.Comparing.{IsAnew}
use Rattle.office_core_check.specs.steps.Reading.{IsFront}
use Rattle.office_core_check.proofs.rebuilt.take_mail.Given as goal

abbrev pub invariant-senders : goal.invariant-senders
invariant-senders g l =
    let kept = (g.K.Keeper.content l.fn.keeper).kept in
    record {
      looks : Looked g.K.Keeper l.fn.keeper l.keeper;
      setup : l.office.plain.setup ≡ l.fn.office.plain.setup;
      anew : IsAnew l.fn.office → IsAnew l.office;
      front : g.K.Keeper.is_trusted l.keeper → IsAnew l.fn.office → IsFront kept 0 0 (content_of l.fn.office.plain).kept → IsFront kept l.sender 0 (content_of l.office.plain).kept;
    }
