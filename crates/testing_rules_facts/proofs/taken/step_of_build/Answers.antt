use Rattle.std.proofs.Common.{◌≡◌, ◌∙◌, sym, ap, subst, get_or, false, true}
use Rattle.std.specs.List.Sorted.{IsPartitionPoint}
use Rattle.std.specs.Ordering.{is_lt}
use Rattle.std.specs.declared.cmp.Ordering.TheVariants.{Less, Equal, Greater}
use Rattle.deb_control.specs.declared.binary.Binary.{Binary}
use Rattle.testing_rules_model.specs.steps.FactRows.{build_row}
use Rattle.testing_rules_model.specs.Unstable.{pair_order, pair_of, build_order}
use Rattle.testing_rules_model.specs.declared.facts.BuildIn.{BuildIn}
use Rattle.testing_rules_model.proofs.MoreMail.{pair_total}
use Rattle.testing_rules_model.proofs.KeyOrder.{searchable}
use Rattle.testing_rules_facts.proofs.Steps.{step-nowhere, step-over, step-before}
use Rattle.testing_rules_facts.proofs.taken.step_of_build.Goals as goal

pub returns-then-is_lt : goal.returns-then-is_lt
returns-then-is_lt c =
    let x = c.args.build.now in
    let xs = c.args.rows.now in
    let i = c.in-Ok.i in
    let e = c.index-rows-i.result in
    let read : get_or xs i e ≡ e = sym c.index-rows-i.is in
    let pair = ap (λ (q : Binary). (q.architecture, q.name)) (sym c.deref-binary.ensures) ∙ ap (λ n. (c.deref-binary.result.now.architecture, n)) (sym c.as_str-2.ensures) ∙ ap (λ a. (a, c.as_str-2.result.now)) (sym c.as_str.ensures) in
    let level : pair_order (pair_of (get_or xs i e)) (pair_of x) ≡ Equal = ap (pair_order (pair_of (get_or xs i e))) pair ∙ c.in-Ok.ensures.found e in
    let ranked : is_lt (build_order (get_or xs i e) x) ≡ true = ap (λ (y : BuildIn). is_lt (build_order y x)) read ∙ sym (ap is_lt c.build_order.ensures) ∙ sym c.is_lt.ensures ∙ c.if-is_lt.true in
    step-nowhere pair_of pair_total build_order build_row x xs i e c.no_step.result c.requires c.in-Ok.ensures.bound level ranked c.no_step.ensures.slot c.no_step.ensures.left c.no_step.ensures.came

pub returns-else-is_lt : goal.returns-else-is_lt
returns-else-is_lt c =
    let x = c.args.build.now in
    let xs = c.args.rows.now in
    let i = c.in-Ok.i in
    let e = c.index-rows-i.result in
    let read : get_or xs i e ≡ e = sym c.index-rows-i.is in
    let pair = ap (λ (q : Binary). (q.architecture, q.name)) (sym c.deref-binary.ensures) ∙ ap (λ n. (c.deref-binary.result.now.architecture, n)) (sym c.as_str-2.ensures) ∙ ap (λ a. (a, c.as_str-2.result.now)) (sym c.as_str.ensures) in
    let level : pair_order (pair_of (get_or xs i e)) (pair_of x) ≡ Equal = ap (pair_order (pair_of (get_or xs i e))) pair ∙ c.in-Ok.ensures.found e in
    let ranked : is_lt (build_order (get_or xs i e) x) ≡ false = ap (λ (y : BuildIn). is_lt (build_order y x)) read ∙ sym (ap is_lt c.build_order.ensures) ∙ sym c.is_lt.ensures ∙ c.if-is_lt.false in
    step-over pair_of pair_total build_order build_row x xs i e _ _ c.requires c.in-Ok.ensures.bound level ranked (c.build_row-in-Ok.ensures ∙ ap build_row (sym read)) c.build_row.ensures

pub returns-in-Err : goal.returns-in-Err
returns-in-Err c =
    let x = c.args.build.now in
    let xs = c.args.rows.now in
    let i = c.in-Err.i in
    let pair = ap (λ (q : Binary). (q.architecture, q.name)) (sym c.deref-binary.ensures) ∙ ap (λ n. (c.deref-binary.result.now.architecture, n)) (sym c.as_str-2.ensures) ∙ ap (λ a. (a, c.as_str-2.result.now)) (sym c.as_str.ensures) in
    let by_pair = λ (p : _). IsPartitionPoint (λ (y : BuildIn). pair_order (pair_of y) p ≡ Less) (λ (y : BuildIn). pair_order (pair_of y) p ≡ Greater) xs i in
    let parts = subst by_pair (sym pair) (c.in-Err.ensures.found (searchable pair_of pair_total xs c.requires (c.as_str.result.now, c.as_str-2.result.now))) in
    step-before pair_of pair_total build_order build_row x xs i _ c.in-Err.ensures.bound parts c.build_row.ensures
