use Rattle.std.specs.Prelude.{true, false, ◌++◌, ◌∷◌, [], take, filter}
use Rattle.std.proofs.Common.{sym, ap, ◌∙◌, append-nil}
use Rattle.archive_plan.specs.Sync.{is_package}
use Rattle.archive_plan.proofs.SyncFacts.{packages_more}
use Rattle.archive_plan.proofs.sync.packages.Goals.{then-is_package+in_ok-copy+in_ok-push, else-is_package}
use Rattle.archive_plan.proofs.sync.packages.Goals as goal

pub loop-item-preserved : goal.loop-item-preserved
loop-item-preserved c = elim c.if-is_package.branch [
  | then-is_package+in_ok-copy+in_ok-push w ↦
      ap (λ v. v.items) w.found-is
      ∙ w.in_ok-push.ensures.items
      ∙ ap (λ x. c.loop-item.found.items ++ x ∷ []) w.in_ok-copy.ensures
      ∙ ap (λ t. t ++ c.item-item.result ∷ []) c.loop-item.invariant
      ∙ sym (packages_more c.args.items.now c.loop-item.item-index c.item-item.result true c.loop-item-test.true c.item-item.is (sym c.is_package.ensures ∙ w.if-is_package.true))
  | else-is_package w ↦
      ap (λ v. v.items) w.found-is
      ∙ c.loop-item.invariant
      ∙ sym (append-nil (filter is_package (take c.loop-item.item-index c.args.items.now)))
      ∙ sym (packages_more c.args.items.now c.loop-item.item-index c.item-item.result false c.loop-item-test.true c.item-item.is (sym c.is_package.ensures ∙ w.if-is_package.false))
]
