use Rattle.std.proofs.Common.{◌≡◌, ◌∙◌, sym, ap, subst}
use Rattle.std.specs.Prelude.{OnOk}
use Rattle.testing_rules_model.specs.Updates.{decide}
use Rattle.testing_rules_model.specs.steps.Updates.{waiting}
use Rattle.testing_rules_moves.specs.steps.Runs.{Run, go_on}
use Rattle.testing_rules_moves.proofs.Runs.{told_alone, run_wait-for, run_wait-none}
use Rattle.testing_rules_moves.proofs.turns.Turns.wait.Goals as goal

pub returns-in_ok-waiting-in-Some : goal.returns-in_ok-waiting-in-Some
returns-in_ok-waiting-in-Some c =
    let r = c.args.self.now in
    let e = c.args.excuse.now in
    let o = c.in-Some.offender in
    let told = told_alone _ r _ e _ c.self.view_is c.from_ref-group.ensures.value c.in_ok-offender.ensures.offender ∙ c.in-Some.is in
    let waits = ap (λ (q : Run). go_on q (λ b. decide (waiting e o))) c.self.view_is ∙ sym (run_wait-for e o r told) in
    subst (λ (q : Run). OnOk c.add_decision.result (c.add_decision.new.self ≡ q)) waits
    (rw (c.broken_by_move.ensures.same, c.in_ok-waiting-in-Some.ensures) at c.add_decision.ensures)

pub returns-in-None : goal.returns-in-None
returns-in-None c =
    let r = c.args.self.now in
    let e = c.args.excuse.now in
    let none = told_alone _ r _ e _ c.self.view_is c.from_ref-group.ensures.value c.in_ok-offender.ensures.offender ∙ c.in-None.is in
    rw c.broken_by_move.ensures.same (c.self.view_is ∙ sym (run_wait-none e r none))
