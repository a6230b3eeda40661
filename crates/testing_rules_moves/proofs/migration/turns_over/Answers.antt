use Rattle.std.proofs.Common.{◌∙◌, refl, ap, ap₂, List}
use Rattle.std.proofs.lemmas.Result.{IfOk-from_err}
use Rattle.testing_rules_model.specs.declared.update.Decision.{Decision}
use Rattle.testing_rules_moves.specs.steps.Runs.{Run, after_turns}
use Rattle.testing_rules_model.specs.Suite.{Suite}
use Rattle.testing_rules_model.specs.Updates.{Outcome}
use Rattle.testing_rules_model.proofs.Migrating.{all_steps-are}
use Rattle.testing_rules_moves.proofs.migration.turns_over.Goals as goal

pub returns : goal.returns
returns c =
    let b = c.args.basis.now in
    let es = b.excuses.now in
    let run = c.in_ok-take_turns.ensures ∙ ap (after_turns es c.hints-hints.result.now c.unhints-unhints.result.now) c.in_ok-turns.ensures in
    let as_outcome : List Decision → Suite → Outcome = λ ds s. record { decisions = ds; suite = s } in
    ap₂ as_outcome c.in_ok-parts.ensures.decisions c.in_ok-parts.ensures.testing
    ∙ ap (λ (r : Run). r.outcome) run
    ∙ all_steps-are b.archs.now es c.args.testing.now refl refl c.hints-hints.ensures c.unhints-unhints.ensures c.hints-hints.ensures c.unhints-unhints.ensures

pub returns-in_err-turns : goal.returns-in_err-turns
returns-in_err-turns c = IfOk-from_err c.from_residual.result _ c.from_residual.ensures.0

pub returns-in_err-take_turns : goal.returns-in_err-take_turns
returns-in_err-take_turns c = IfOk-from_err c.from_residual-in_err-take_turns.result _ c.from_residual-in_err-take_turns.ensures.0

pub returns-in_err-parts : goal.returns-in_err-parts
returns-in_err-parts c = IfOk-from_err c.from_residual-in_err-parts.result _ c.from_residual-in_err-parts.ensures.0
