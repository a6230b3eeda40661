use Rattle.testing_rules_model.specs.Boxed.{unboxed}
use Rattle.testing_rules_model.specs.JudgedRows.{lent}
use Rattle.testing_rules_refusals.specs.steps.Standing.{AreToldBlocks}
use Rattle.testing_rules_refusals.proofs.stuck.told_blocks.Given as goal

-- those so far
abbrev pub invariant-loop-suspect : goal.invariant-loop-suspect
invariant-loop-suspect l =
    let g = l.input in
    AreToldBlocks g.archs.now (unboxed g.unstable.sources.now) (lent g.unstable.rows.now) g.excuses.now g.testing.now l.told.names.items l.told.text
