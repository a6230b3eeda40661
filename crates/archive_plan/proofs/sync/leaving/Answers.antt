use Rattle.std.specs.Prelude.{false, filter}
use Rattle.std.proofs.Common.{sym, ap, subst, ◌∙◌}
use Rattle.archive_plan.specs.declared.items.Relation.TheVariants.{Whole}
use Rattle.archive_plan.specs.Items.{AreInOrder, lacking}
use Rattle.archive_plan.specs.Sync.{is_package}
use Rattle.archive_plan.proofs.PlanFacts.{order_picked}
use Rattle.archive_plan.proofs.SyncFacts.{order_packages}
use Rattle.archive_plan.proofs.sync.leaving.Goals as goal

pub picked-requires-2-clause-xs : goal.picked-requires-2-clause-xs
picked-requires-2-clause-xs c =
    subst AreInOrder (sym (c.deref-2.ensures.value ∙ c.in_ok-own.ensures ∙ ap (filter is_package) (c.deref.ensures.value ∙ c.in_ok-lost.ensures)))
    (order_packages (lacking c.args.living.now c.args.index.now) (order_picked Whole false c.args.living.now c.args.index.now c.requires.living))
