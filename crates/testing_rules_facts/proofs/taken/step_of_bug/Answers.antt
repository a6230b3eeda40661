use Rattle.std.proofs.Common.{◌≡◌, arith, ◌∙◌, sym, ap, ◌<◌, length, get_or, false, true}
use Rattle.std.specs.Ordering.{is_lt}
use Rattle.std.specs.declared.cmp.Ordering.TheVariants.{Equal}
use Rattle.testing_rules_model.specs.Boxed.{unboxed}
use Rattle.std.specs.Ordering.{nat_cmp}
use Rattle.std.proofs.lemmas.Cmp.{nat_cmp_total}
use Rattle.testing_rules_model.specs.steps.FactRows.{bug_row}
use Rattle.testing_rules_model.specs.Unstable.{bug_order}
use Rattle.testing_rules_model.specs.declared.facts.BugIn.{BugIn}
use Rattle.testing_rules_model.proofs.Unboxed.{unboxed-at, unboxed-length}
use Rattle.testing_rules_model.proofs.KeyOrder.{searchable}
use Rattle.testing_rules_facts.proofs.Steps.{step-nowhere, step-over, step-before}
use Rattle.testing_rules_facts.proofs.taken.step_of_bug.Goals as goal

pub returns-then-is_lt : goal.returns-then-is_lt
returns-then-is_lt c =
    let x = c.args.bug.now in
    let bs = c.args.bugs.now in
    let xs = unboxed bs in
    let i = c.in-Ok.i in
    let box = c.index-bugs-i.result in
    let e = box.value in
    let below : i < length bs = omega (arith, unboxed-length bs, c.in-Ok.ensures.bound) in
    let read : get_or xs i e ≡ c.deref-other.result.now = unboxed-at bs i box e below c.index-bugs-i.is ∙ sym c.deref-other.ensures in
    let level : nat_cmp (get_or xs i e).bug x.bug ≡ Equal = c.in-Ok.ensures.found e in
    let ranked : is_lt (bug_order (get_or xs i e) x) ≡ true = ap (λ (y : BugIn). is_lt (bug_order y x)) read ∙ sym (ap is_lt c.bug_order.ensures) ∙ sym c.is_lt.ensures ∙ c.if-is_lt.true in
    step-nowhere (λ (b : BugIn). b.bug) nat_cmp_total bug_order bug_row x xs i e c.no_step.result c.requires c.in-Ok.ensures.bound level ranked c.no_step.ensures.slot c.no_step.ensures.left c.no_step.ensures.came

pub returns-else-is_lt : goal.returns-else-is_lt
returns-else-is_lt c =
    let x = c.args.bug.now in
    let bs = c.args.bugs.now in
    let xs = unboxed bs in
    let i = c.in-Ok.i in
    let box = c.index-bugs-i.result in
    let e = box.value in
    let below : i < length bs = omega (arith, unboxed-length bs, c.in-Ok.ensures.bound) in
    let read : get_or xs i e ≡ c.deref-other.result.now = unboxed-at bs i box e below c.index-bugs-i.is ∙ sym c.deref-other.ensures in
    let level : nat_cmp (get_or xs i e).bug x.bug ≡ Equal = c.in-Ok.ensures.found e in
    let ranked : is_lt (bug_order (get_or xs i e) x) ≡ false = ap (λ (y : BugIn). is_lt (bug_order y x)) read ∙ sym (ap is_lt c.bug_order.ensures) ∙ sym c.is_lt.ensures ∙ c.if-is_lt.false in
    step-over (λ (b : BugIn). b.bug) nat_cmp_total bug_order bug_row x xs i e _ _ c.requires c.in-Ok.ensures.bound level ranked (c.bug_row-in-Ok.ensures ∙ ap bug_row (sym read)) c.bug_row.ensures

pub returns-in-Err : goal.returns-in-Err
returns-in-Err c =
    let x = c.args.bug.now in
    let xs = unboxed c.args.bugs.now in
    let i = c.in-Err.i in
    let parts = c.in-Err.ensures.found (searchable (λ (b : BugIn). b.bug) nat_cmp_total xs c.requires x.bug) in
    step-before (λ (b : BugIn). b.bug) nat_cmp_total bug_order bug_row x xs i _ c.in-Err.ensures.bound parts c.bug_row.ensures
