use Rattle.testing_rules_model.specs.Boxed.{unboxed}
use Rattle.testing_rules_model.specs.JudgedRows.{lent}
use Rattle.testing_rules_refusals.proofs.Blocks.{no_blocks_told}
use Rattle.testing_rules_refusals.proofs.stuck.told_blocks.Goals as goal

pub loop-suspect-init : goal.loop-suspect-init
loop-suspect-init c =
    let g = c.args.input.now in
    no_blocks_told g.archs.now (unboxed g.unstable.sources.now) (lent g.unstable.rows.now) g.excuses.now g.testing.now c.no_blocks-told.result.names.items c.no_blocks-told.result.text
    c.no_blocks-told.ensures.names c.no_blocks-told.ensures.text
