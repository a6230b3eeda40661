use Rattle.std.proofs.Common.{◌≡◌, take}
use Rattle.testing_rules_model.specs.steps.SourceFilter.{excused}
use Rattle.testing_rules_facts.proofs.source_filter.hashes_of_excused.Given as goal

-- those so far
abbrev pub invariant-loop-excuse : goal.invariant-loop-excuse
invariant-loop-excuse l = l.hashes.items ≡ excused (take l.excuse-index l.excuses)
