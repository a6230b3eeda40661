use Rattle.std.proofs.Common.{◌≡◌, take}
use Rattle.testing_rules_live.specs.steps.LiveSources.{sources_of, AreSlots}
use Rattle.testing_rules_live.proofs.live_sources.lend_sources.Given as goal

-- those so far
abbrev pub invariant-loop-source : goal.invariant-loop-source
invariant-loop-source l =
    record {
      so_far : sources_of l.slots.items ≡ take l.source-index l.testing;
      ordered : AreSlots l.slots.items;
    }
