use Rattle.std.proofs.Common.{◌≡◌, take}
use Rattle.testing_rules_live.specs.steps.LiveSources.{sources_of}
use Rattle.testing_rules_live.proofs.live_sources.copy_sources.Given as goal

-- those so far
abbrev pub invariant-loop-slot : goal.invariant-loop-slot
invariant-loop-slot l = l.sources.items ≡ sources_of (take l.slot-index l.slots)
