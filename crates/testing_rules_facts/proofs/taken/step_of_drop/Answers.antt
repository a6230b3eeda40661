use Rattle.std.proofs.Common.{◌≡◌, arith, ◌∙◌, sym, ap, subst, ◌<◌, length, get_or, false, true}
use Rattle.std.specs.List.Sorted.{IsPartitionPoint}
use Rattle.std.specs.Ordering.{is_lt}
use Rattle.std.specs.declared.cmp.Ordering.TheVariants.{Less, Equal, Greater}
use Rattle.testing_rules_model.specs.Boxed.{unboxed}
use Rattle.testing_rules_model.specs.steps.FactRows.{drop_row}
use Rattle.testing_rules_model.specs.Unstable.{pair_order, drop_pair, drop_order}
use Rattle.testing_rules_model.specs.declared.facts.DropIn.{DropIn}
use Rattle.testing_rules_model.proofs.MoreMail.{pair_total}
use Rattle.testing_rules_model.proofs.Unboxed.{unboxed-at, unboxed-length}
use Rattle.testing_rules_model.proofs.KeyOrder.{searchable}
use Rattle.testing_rules_facts.proofs.Steps.{step-nowhere, step-over, step-before}
use Rattle.testing_rules_facts.proofs.taken.step_of_drop.Goals as goal

pub returns-then-is_lt : goal.returns-then-is_lt
returns-then-is_lt c =
    let x = c.args.drop.now in
    let bs = c.args.drops.now in
    let xs = unboxed bs in
    let i = c.in-Ok.i in
    let box = c.index-drops-i.result in
    let e = box.value in
    let below : i < length bs = omega (arith, unboxed-length bs, c.in-Ok.ensures.bound) in
    let read : get_or xs i e ≡ c.deref-other.result.now = unboxed-at bs i box e below c.index-drops-i.is ∙ sym c.deref-other.ensures in
    let pair = ap (λ n. (x.arch, n)) (sym c.as_str-2.ensures) ∙ ap (λ a. (a, c.as_str-2.result.now)) (sym c.as_str.ensures) in
    let level : pair_order (drop_pair (get_or xs i e)) (drop_pair x) ≡ Equal = ap (pair_order (drop_pair (get_or xs i e))) pair ∙ c.in-Ok.ensures.found e in
    let ranked : is_lt (drop_order (get_or xs i e) x) ≡ true = ap (λ (y : DropIn). is_lt (drop_order y x)) read ∙ sym (ap is_lt c.drop_order.ensures) ∙ sym c.is_lt.ensures ∙ c.if-is_lt.true in
    step-nowhere drop_pair pair_total drop_order drop_row x xs i e c.no_step.result c.requires c.in-Ok.ensures.bound level ranked c.no_step.ensures.slot c.no_step.ensures.left c.no_step.ensures.came

pub returns-else-is_lt : goal.returns-else-is_lt
returns-else-is_lt c =
    let x = c.args.drop.now in
    let bs = c.args.drops.now in
    let xs = unboxed bs in
    let i = c.in-Ok.i in
    let box = c.index-drops-i.result in
    let e = box.value in
    let below : i < length bs = omega (arith, unboxed-length bs, c.in-Ok.ensures.bound) in
    let read : get_or xs i e ≡ c.deref-other.result.now = unboxed-at bs i box e below c.index-drops-i.is ∙ sym c.deref-other.ensures in
    let pair = ap (λ n. (x.arch, n)) (sym c.as_str-2.ensures) ∙ ap (λ a. (a, c.as_str-2.result.now)) (sym c.as_str.ensures) in
    let level : pair_order (drop_pair (get_or xs i e)) (drop_pair x) ≡ Equal = ap (pair_order (drop_pair (get_or xs i e))) pair ∙ c.in-Ok.ensures.found e in
    let ranked : is_lt (drop_order (get_or xs i e) x) ≡ false = ap (λ (y : DropIn). is_lt (drop_order y x)) read ∙ sym (ap is_lt c.drop_order.ensures) ∙ sym c.is_lt.ensures ∙ c.if-is_lt.false in
    step-over drop_pair pair_total drop_order drop_row x xs i e _ _ c.requires c.in-Ok.ensures.bound level ranked (c.drop_row-in-Ok.ensures ∙ ap drop_row (sym read)) c.drop_row.ensures

pub returns-in-Err : goal.returns-in-Err
returns-in-Err c =
    let x = c.args.drop.now in
    let xs = unboxed c.args.drops.now in
    let i = c.in-Err.i in
    let pair = ap (λ n. (x.arch, n)) (sym c.as_str-2.ensures) ∙ ap (λ a. (a, c.as_str-2.result.now)) (sym c.as_str.ensures) in
    let by_pair = λ (p : _). IsPartitionPoint (λ (y : DropIn). pair_order (drop_pair y) p ≡ Less) (λ (y : DropIn). pair_order (drop_pair y) p ≡ Greater) xs i in
    let parts = subst by_pair (sym pair) (c.in-Err.ensures.found (searchable drop_pair pair_total xs c.requires (c.as_str.result.now, c.as_str-2.result.now))) in
    step-before drop_pair pair_total drop_order drop_row x xs i _ c.in-Err.ensures.bound parts c.drop_row.ensures
