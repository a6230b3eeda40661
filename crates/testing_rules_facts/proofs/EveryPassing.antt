use Rattle.std.specs.Prelude.{List, [], ◌∷◌}
use Rattle.std.proofs.Common.{◌≡◌, refl, ap}
use Rattle.testing_rules_model.specs.declared.facts.BuildIn.{BuildIn}
use Rattle.testing_rules_facts.specs.declared.source_filter.SourceFilter.TheVariants.{Every}
use Rattle.testing_rules_facts.specs.steps.SourceFilter.{passing_builds}

-- where every source is let through, all builds are
pub every_passing : (builds : List BuildIn) → passing_builds Every builds ≡ builds
every_passing [] = refl
every_passing (b ∷ bs) = ap (λ rest. b ∷ rest) (every_passing bs)
