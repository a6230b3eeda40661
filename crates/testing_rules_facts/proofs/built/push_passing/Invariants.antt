use Rattle.std.proofs.Common.{◌≡◌, ◌++◌, take, map}
use Rattle.testing_rules_model.specs.JudgedRows.{lent}
use Rattle.testing_rules_model.specs.Unstable.{row_at}
use Rattle.testing_rules_facts.specs.steps.SourceFilter.{passing_builds}
use Rattle.testing_rules_facts.proofs.built.push_passing.Given as goal

-- those so far
abbrev pub invariant-loop-build : goal.invariant-loop-build
invariant-loop-build l = lent l.rows.items ≡ lent l.fn.rows.items ++ map (row_at l.place) (passing_builds l.passing (take l.build-index l.builds))
