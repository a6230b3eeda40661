use Rattle.std.proofs.Common.{sym, ◌∙◌}
use Rattle.testing_rules_items.proofs.DistinctFacts.{distinct_step, distinct_fails, distinct_ends}
use Rattle.testing_rules_items.proofs.distinct.are_distinct.Goals as goal

pub texts-preserved : goal.texts-preserved
texts-preserved c = sym (distinct_step c.args.texts.now c.texts.i c.contains_text.result c.texts-test.true c.contains_text.ensures c.if-contains_text.false) ∙ c.texts.invariant

pub returns-then-contains_text : goal.returns-then-contains_text
returns-then-contains_text c = sym (sym c.texts.invariant ∙ distinct_fails c.args.texts.now c.texts.i c.contains_text.result c.texts-test.true c.contains_text.ensures c.if-contains_text.true)

pub returns : goal.returns
returns c = sym (sym c.texts.invariant ∙ distinct_ends c.args.texts.now c.texts.i c.texts-test.false)
