use Rattle.std.proofs.Common.{◌-◌, ◌≡◌, ◌≤◌}
use Rattle.office_store_keeper.specs.MemoryState.{content_of}
use Rattle.office_core_store.proofs.LookFacts.{Looked}
use Rattle.office_core_check.specs.steps.Comparing.{IsAnew}
use Rattle.office_core_check.specs.steps.Reading.{IsFront}
use Rattle.office_core_check.proofs.rebuilt.take_sender.Given as goal

abbrev pub invariant-loop-letter : goal.invariant-loop-letter
invariant-loop-letter g l =
    let kept = (g.K.Keeper.content l.fn.keeper).kept in
    record {
      looks : Looked g.K.Keeper l.fn.keeper l.keeper;
      setup : l.office.plain.setup ≡ l.fn.office.plain.setup;
      anew : IsAnew l.fn.office → IsAnew l.office;
      few : l.from ≤ 1_000_000_000;
      front : g.K.Keeper.is_trusted l.keeper → IsAnew l.fn.office → IsFront kept l.sender 0 (content_of l.fn.office.plain).kept → IsFront kept l.sender l.from (content_of l.office.plain).kept;
    }

abbrev pub decreases-loop-letter : goal.decreases-loop-letter
decreases-loop-letter g l = 1_000_000_000 - l.from
