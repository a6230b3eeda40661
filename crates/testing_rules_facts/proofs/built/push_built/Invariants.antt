use Rattle.std.proofs.Common.{◌≡◌, ◌++◌, take}
use Rattle.testing_rules_model.specs.JudgedRows.{lent}
use Rattle.testing_rules_model.specs.steps.Unstable.{built_on}
use Rattle.testing_rules_facts.specs.steps.SourceFilter.{passing_builds}
use Rattle.testing_rules_facts.proofs.built.push_built.Given as goal

-- those so far
abbrev pub invariant-loop-build : goal.invariant-loop-build
invariant-loop-build l = lent l.rows.items ≡ lent l.fn.rows.items ++ built_on (passing_builds l.passing (take l.build-index l.builds)) (l.place, l.arch)
