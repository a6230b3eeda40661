use Rattle.std.proofs.Common.{◌≡◌, take}
use Rattle.std.specs.List.{enumerate_from, flat_map}
use Rattle.testing_rules_model.specs.JudgedRows.{lent}
use Rattle.testing_rules_model.specs.steps.Unstable.{built_on}
use Rattle.testing_rules_facts.specs.steps.SourceFilter.{passing_builds}
use Rattle.testing_rules_facts.proofs.built.rows_passing.Given as goal

-- those of the architectures so far
abbrev pub invariant-loop-place : goal.invariant-loop-place
invariant-loop-place l = lent l.rows.items ≡ flat_map (built_on (passing_builds l.passing l.builds)) (take l.place (enumerate_from 0 l.archs))
