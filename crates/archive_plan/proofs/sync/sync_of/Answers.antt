use Rattle.std.specs.Prelude.{◌≡◌, ◌≤◌, false, length, IfErr}
use Rattle.std.proofs.Common.{rules, sym, ap, subst, ◌∙◌}
use Rattle.archive_plan.specs.declared.items.Relation.TheVariants.{AtMost, Whole}
use Rattle.archive_plan.specs.Items.{AreInOrder, lacking}
use Rattle.archive_plan.specs.Plan.{IsCrowd}
use Rattle.archive_plan.specs.Sync.{living, tellable, leaving_unstable}
use Rattle.archive_plan.proofs.PlanFacts.{order_picked}
use Rattle.archive_plan.proofs.SyncFacts.{order_told, tells_from, drops_from, is_sync}
use Rattle.archive_plan.proofs.sync.sync_of.Goals as goal

pub picked-requires-2-clause-ys : goal.picked-requires-2-clause-ys
picked-requires-2-clause-ys c =
    subst AreInOrder (sym (c.deref.ensures.value ∙ c.in_ok-living.ensures)) (order_picked AtMost false c.args.told.now c.args.dropped.now c.requires.told)

pub above_all-requires-clause-items : goal.above_all-requires-clause-items
above_all-requires-clause-items c =
    subst AreInOrder (sym (c.deref-2.ensures.value ∙ c.in_ok-lacks.ensures)) (order_picked Whole false c.args.index.now c.deref.result.now c.requires.index)

pub leaving-requires-clause-living : goal.leaving-requires-clause-living
leaving-requires-clause-living c =
    subst AreInOrder (sym (c.deref-3.ensures.value ∙ c.in_ok-living.ensures)) (order_picked AtMost false c.args.told.now c.args.dropped.now c.requires.told)

pub leaving-requires-clause-tells : goal.leaving-requires-clause-tells
leaving-requires-clause-tells c =
    let tells : c.in_ok-tells.tells.items ≡ tellable c.args.told.now c.args.index.now c.args.dropped.now =
    tells_from c.args.told.now c.args.index.now c.args.dropped.now c.deref.result.now c.deref-2.result.now c.in_ok-tells.tells.items
    (c.deref.ensures.value ∙ c.in_ok-living.ensures) (c.deref-2.ensures.value ∙ c.in_ok-lacks.ensures) c.in_ok-tells.ensures in
    subst AreInOrder (sym (c.deref-4.ensures.value ∙ tells)) (order_told c.args.told.now c.args.index.now c.args.dropped.now c.requires.index)

pub returns-in_err-check_few-clause-fault : goal.returns-in_err-check_few-clause-fault
returns-in_err-check_few-clause-fault c =
    let tells : c.in_ok-tells.tells.items ≡ tellable c.args.told.now c.args.index.now c.args.dropped.now =
    tells_from c.args.told.now c.args.index.now c.args.dropped.now c.deref.result.now c.deref-2.result.now c.in_ok-tells.tells.items
    (c.deref.ensures.value ∙ c.in_ok-living.ensures) (c.deref-2.ensures.value ∙ c.in_ok-lacks.ensures) c.in_ok-tells.ensures in
    let drops : c.in_ok-drops.drops.items ≡ leaving_unstable c.args.told.now c.args.index.now c.args.dropped.now =
    drops_from c.args.told.now c.args.index.now c.args.dropped.now c.deref-3.result.now c.deref-4.result.now c.in_ok-drops.drops.items
    (c.deref-3.ensures.value ∙ c.in_ok-living.ensures) (c.deref-4.ensures.value ∙ tells) c.in_ok-drops.ensures in
    subst (λ n. IfErr c.from_residual-in_err-check_few.result (λ fault. IsCrowd n c.args.gone fault)) (ap length (c.deref-5.ensures.value ∙ drops)) (search rules)

pub picked-requires-3-clause-xs : goal.picked-requires-3-clause-xs
picked-requires-3-clause-xs c =
    subst AreInOrder (sym (c.deref-6.ensures.value ∙ c.in_ok-lacks.ensures)) (order_picked Whole false c.args.index.now c.deref.result.now c.requires.index)

pub picked-requires-3-clause-ys : goal.picked-requires-3-clause-ys
picked-requires-3-clause-ys c =
    let tells : c.in_ok-tells.tells.items ≡ tellable c.args.told.now c.args.index.now c.args.dropped.now =
    tells_from c.args.told.now c.args.index.now c.args.dropped.now c.deref.result.now c.deref-2.result.now c.in_ok-tells.tells.items
    (c.deref.ensures.value ∙ c.in_ok-living.ensures) (c.deref-2.ensures.value ∙ c.in_ok-lacks.ensures) c.in_ok-tells.ensures in
    subst AreInOrder (sym (c.deref-7.ensures.value ∙ tells)) (order_told c.args.told.now c.args.index.now c.args.dropped.now c.requires.index)

pub returns-clause-due : goal.returns-clause-due
returns-clause-due c =
    let alive = c.deref.ensures.value ∙ c.in_ok-living.ensures in
    let tells : c.in_ok-tells.tells.items ≡ tellable c.args.told.now c.args.index.now c.args.dropped.now =
    tells_from c.args.told.now c.args.index.now c.args.dropped.now c.deref.result.now c.deref-2.result.now c.in_ok-tells.tells.items
    alive (c.deref-2.ensures.value ∙ c.in_ok-lacks.ensures) c.in_ok-tells.ensures in
    let drops : c.in_ok-drops.drops.items ≡ leaving_unstable c.args.told.now c.args.index.now c.args.dropped.now =
    drops_from c.args.told.now c.args.index.now c.args.dropped.now c.deref-3.result.now c.deref-4.result.now c.in_ok-drops.drops.items
    (c.deref-3.ensures.value ∙ c.in_ok-living.ensures) (c.deref-4.ensures.value ∙ tells) c.in_ok-drops.ensures in
    let left : c.in_ok-left.left.items ≡ lacking (lacking c.args.index.now (living c.args.told.now c.args.dropped.now)) (tellable c.args.told.now c.args.index.now c.args.dropped.now) =
    c.in_ok-left.ensures
    ∙ ap (λ xs. lacking xs c.deref-7.result.now) (c.deref-6.ensures.value ∙ c.in_ok-lacks.ensures ∙ ap (lacking c.args.index.now) alive)
    ∙ ap (lacking (lacking c.args.index.now (living c.args.told.now c.args.dropped.now))) (c.deref-7.ensures.value ∙ tells) in
    is_sync c.args.told.now c.args.index.now c.args.dropped.now c.args.gone (record { tells = c.in_ok-tells.tells; drops = c.in_ok-drops.drops; left = c.in_ok-left.left })
    c.requires.told c.requires.index (record { tells = tells; drops = drops; left = left })
    (subst (λ n. n ≤ c.args.gone) (ap length (c.deref-5.ensures.value ∙ drops)) c.in_ok-check_few.ensures.few)
