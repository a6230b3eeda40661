use Rattle.std.specs.Prelude.{false}
use Rattle.std.proofs.Common.{sym, subst, ◌∙◌}
use Rattle.archive_plan.specs.declared.items.Relation.TheVariants.{AtMost}
use Rattle.archive_plan.specs.Items.{AreInOrder}
use Rattle.archive_plan.proofs.PlanFacts.{order_picked}
use Rattle.archive_plan.proofs.sync.above_all.Goals as goal

pub picked-requires-2-clause-xs : goal.picked-requires-2-clause-xs
picked-requires-2-clause-xs c =
    subst AreInOrder (sym (c.deref.ensures.value ∙ c.in_ok-above.ensures)) (order_picked AtMost false c.args.items.now c.args.told.now c.requires.items)
