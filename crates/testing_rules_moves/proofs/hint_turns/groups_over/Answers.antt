use Rattle.std.proofs.Common.{◌∙◌, ap, refl}
use Rattle.testing_rules_moves.specs.steps.Runs.{Run, run_after_groups}
use Rattle.testing_rules_moves.proofs.Behind.{groups_are}
use Rattle.testing_rules_moves.proofs.hint_turns.groups_over.Goals as goal

pub returns : goal.returns
returns c =
    let b = c.args.basis.now in
    let es = b.excuses.now in
    let grouped = c.args.grouped.now in
    let run = c.in_ok-take_groups.ensures ∙ ap (run_after_groups es c.hints-hints.result.now grouped c.unhints-unhints.result.now) c.in_ok-turns.ensures in
    c.in_ok-parts.ensures.testing
    ∙ ap (λ (r : Run). r.outcome.suite) run
    ∙ groups_are b.archs.now _ es grouped c.args.testing.now refl c.hints-hints.ensures c.unhints-unhints.ensures
