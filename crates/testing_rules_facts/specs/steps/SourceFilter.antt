-- A few of all sources, by the hashes of their names.
use Rattle.std.specs.Prelude.{Bool, true, List, filter}
use Rattle.testing_rules_model.specs.declared.facts.BuildIn.{BuildIn}
use Rattle.testing_rules_facts.specs.declared.source_filter.SourceFilter.{SourceFilter}
use Rattle.testing_rules_facts.specs.declared.source_filter.SourceFilter.TheVariants.{Every, Those}
use Rattle.testing_rules_items.specs.Words.{Text}
use Rattle.testing_rules_model.specs.steps.SourceFilter.{hash_passes}

-- every source passes, or those with some hashes
abbrev pub filter_passes : SourceFilter → Text → Bool
filter_passes Every name = true
filter_passes (Those hashes) name = hash_passes hashes.keys name

-- the builds of the sources that pass
abbrev pub passing_builds : SourceFilter → List BuildIn → List BuildIn
passing_builds passing builds = filter (λ b. filter_passes passing b.binary.source) builds
