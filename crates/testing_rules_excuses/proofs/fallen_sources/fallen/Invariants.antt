use Rattle.std.proofs.Common.{◌≡◌, filter, map, take}
use Rattle.testing_rules_model.specs.Excuses.{testing_version, is_news}
use Rattle.testing_rules_excuses.proofs.fallen_sources.fallen.Given as goal

abbrev pub invariant-sources : goal.invariant-sources
invariant-sources l = l.names.items ≡ map (λ s. s.name) (filter (λ s. is_news (testing_version l.after s.name) s.version) (take l.source-index l.source-items))
