use Rattle.std.proofs.Common.{◌≡◌, ◌++◌, take}
use Rattle.testing_rules_facts.specs.Blocks.{joined}
use Rattle.testing_rules_model.specs.JudgedRows.{lent}
use Rattle.testing_rules_model.specs.steps.Unstable.{built_on}
use Rattle.testing_rules_facts.specs.steps.SourceFilter.{passing_builds}
use Rattle.testing_rules_facts.proofs.built.push_built_on.Given as goal

-- those of the blocks so far
abbrev pub invariant-loop-block : goal.invariant-loop-block
invariant-loop-block l = lent l.rows.items ≡ lent l.fn.rows.items ++ built_on (passing_builds l.passing (joined (take l.block-index l.blocks))) (l.place, l.arch)
