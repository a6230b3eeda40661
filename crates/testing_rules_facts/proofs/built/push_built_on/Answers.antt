use Rattle.std.proofs.Common.{arith, ◌∙◌, sym, subst, ◌<◌, length, []}
use Rattle.std.proofs.lemmas.List.{get_or_default}
use Rattle.testing_rules_model.specs.FactOrder.{AreByPair}
use Rattle.testing_rules_facts.proofs.Blocking.{block-order}
use Rattle.testing_rules_facts.proofs.built.push_built_on.Goals as goal

pub push_ordered-requires : goal.push_ordered-requires
push_ordered-requires c =
    let blocks = c.args.blocks.now in
    let i = c.loop-block.block-index in
    let below : i < length blocks = omega arith in
    subst AreByPair (get_or_default blocks i [] c.block-item.result below ∙ sym c.block-item.is ∙ sym c.rows.ensures) (block-order blocks c.requires i below)
