use Rattle.std.proofs.Common.{◌≡◌, take}
use Rattle.testing_rules_model.specs.Boxed.{unboxed}
use Rattle.testing_rules_suites.specs.steps.AfterMoves.{sources_after}
use Rattle.testing_rules_live.specs.steps.LiveSources.{sources_of, AreSlots}
use Rattle.testing_rules_live.proofs.live_sources.move_sources.Given as goal

-- those so far
abbrev pub invariant-loop-name : goal.invariant-loop-name
invariant-loop-name l =
    record {
      so_far : sources_of l.slots.items ≡ sources_after (unboxed l.unstable) (take l.name-index l.group) (sources_of l.fn.slots.items);
      ordered : AreSlots l.slots.items;
    }
