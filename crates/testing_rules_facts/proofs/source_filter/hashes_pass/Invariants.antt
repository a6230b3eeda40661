use Rattle.std.proofs.Common.{◌≡◌, drop}
use Rattle.std.specs.List.{list_all}
use Rattle.testing_rules_model.specs.steps.SourceFilter.{hash_passes}
use Rattle.testing_rules_facts.proofs.source_filter.hashes_pass.Given as goal

-- the rest decides
abbrev pub invariant-group : goal.invariant-group
invariant-group l = list_all (hash_passes l.hashes.keys) (drop l.name-index l.group) ≡ list_all (hash_passes l.hashes.keys) l.group
