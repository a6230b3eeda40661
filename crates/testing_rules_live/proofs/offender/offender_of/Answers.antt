use Rattle.std.proofs.Common.{arith, ◌∙◌, sym, ap, ◌<◌, length, Some, Option}
use Rattle.std.proofs.lemmas.Result.{IfOk-from_err}
use Rattle.std.specs.Option.{option_copied}
use Rattle.testing_rules_model.specs.Moves.{offender_on}
use Rattle.testing_rules_items.specs.Words.{Text}
use Rattle.testing_rules_model.specs.declared.update.Offender.{Offender}
use Rattle.testing_rules_suites.specs.steps.JudgedRows.{answers}
use Rattle.testing_rules_model.specs.JudgedRows.{lent}
use Rattle.testing_rules_suites.proofs.Failing.{first_of-next, first_of-found, offender_on-none, offender_on-some}
use Rattle.testing_rules_live.proofs.offender.offender_of.Goals as goal

pub loop-arch-preserved : goal.loop-arch-preserved
loop-arch-preserved c =
    let a = c.args in
    let below : c.loop-arch.arch < length a.archs.now = omega arith in
    let before = ap answers c.deref.ensures.value ∙ c.in_ok-before.ensures in
    let after = ap answers c.deref-in-loop-arch.ensures.value ∙ c.in_ok-after.ensures in
    let none = offender_on-none c.loop-arch.arch a.group.now (lent a.old.now) (lent a.new.now) (answers c.deref.result.now) (answers c.deref-in-loop-arch.result.now) before after
    (sym c.first_failing.ensures ∙ ap option_copied c.in_default.is) in
    first_of-next (offender_on (lent a.old.now) (lent a.new.now) a.group.now) (length a.archs.now) c.loop-arch.arch below none ∙ c.loop-arch.invariant

pub returns-in-Some : goal.returns-in-Some
returns-in-Some c =
    let a = c.args in
    let below : c.loop-arch.arch < length a.archs.now = omega arith in
    let before = ap answers c.deref.ensures.value ∙ c.in_ok-before.ensures in
    let after = ap answers c.deref-in-loop-arch.ensures.value ∙ c.in_ok-after.ensures in
    let some = offender_on-some c.loop-arch.arch a.group.now (lent a.old.now) (lent a.new.now) (answers c.deref.result.now) (answers c.deref-in-loop-arch.result.now) c.in-Some.name.now before after
    (sym c.first_failing.ensures ∙ ap option_copied c.in-Some.is) in
    let as_offender : Text → Option Offender = λ n. Some (record { arch = c.loop-arch.arch; «package» = n }) in
    ap as_offender c.in_ok-package.ensures
    ∙ sym (first_of-found (offender_on (lent a.old.now) (lent a.new.now) a.group.now) (length a.archs.now) c.loop-arch.arch _ below some) ∙ c.loop-arch.invariant

pub returns-in_err-before : goal.returns-in_err-before
returns-in_err-before c = IfOk-from_err c.from_residual.result _ c.from_residual.ensures.0

pub returns-in_err-after : goal.returns-in_err-after
returns-in_err-after c = IfOk-from_err c.from_residual-in_err-after.result _ c.from_residual-in_err-after.ensures.0

pub returns-in_err-package : goal.returns-in_err-package
returns-in_err-package c = IfOk-from_err c.from_residual-in_err-package.result _ c.from_residual-in_err-package.ensures.0
