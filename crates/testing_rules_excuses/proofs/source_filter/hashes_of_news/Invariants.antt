use Rattle.std.proofs.Common.{◌≡◌, take}
use Rattle.testing_rules_excuses.specs.steps.SourceFilter.{newer_hashes}
use Rattle.testing_rules_excuses.proofs.source_filter.hashes_of_news.Given as goal

-- those so far
abbrev pub invariant-loop-source : goal.invariant-loop-source
invariant-loop-source l = l.hashes.items ≡ newer_hashes (take l.source-index l.news)
