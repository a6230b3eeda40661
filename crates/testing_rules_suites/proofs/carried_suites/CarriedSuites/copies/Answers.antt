use Rattle.std.proofs.Common.{◌≡◌, ◌∙◌, ap, subst, List, IfOk, IfSome}
use Rattle.testing_rules_suites.specs.steps.AfterMoves.{rows_at}
use Rattle.testing_rules_model.specs.InOrder.{AreByKey}
use Rattle.testing_rules_model.specs.SameMessages.{SameElements}
use Rattle.testing_rules_model.specs.JudgedRows.{lent}
use Rattle.testing_rules_model.specs.declared.suite.RowIn.{RowIn}
use Rattle.testing_rules_suites.specs.steps.PresentSteps.{set_places}
use Rattle.testing_rules_suites.proofs.OneSort.{puts-in_order}
use Rattle.testing_rules_suites.proofs.carried_suites.CarriedSuites.copies.Goals as goal

pub returns-in-Some : goal.returns-in-Some
returns-in-Some c =
    let s = c.args.self.now in
    let ordered = subst (λ found. IfSome found (λ copies. AreByKey copies.items)) c.in-Some.is c.in_ok-copies.ensures.ordered in
    let same = subst (λ found. IfSome found (λ copies. SameElements (rows_at s.rows (set_places s.stands)) copies.items)) c.in-Some.is c.in_ok-copies.ensures.copies in
    puts-in_order (rows_at s.rows (set_places s.stands)) c.in-Some.copies.items ordered same

pub returns-in_ok-rows-in-None : goal.returns-in_ok-rows-in-None
returns-in_ok-rows-in-None c =
    let is = ap lent c.deref.ensures.value ∙ c.in_ok-rows-in-None.ensures in
    subst (λ (rs : List RowIn). IfOk c.copy_lent.result (λ copies. copies.items ≡ rs)) is c.copy_lent.ensures
