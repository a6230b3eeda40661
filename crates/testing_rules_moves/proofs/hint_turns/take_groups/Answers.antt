use Rattle.std.proofs.Common.{◌∙◌, ap, filter, List}
use Rattle.testing_rules_model.specs.declared.facts.UnhintIn.{UnhintIn}
use Rattle.testing_rules_moves.specs.steps.Runs.{Run, run_after_groups, go_on}
use Rattle.testing_rules_model.specs.Unstable.{is_in_force}
use Rattle.testing_rules_model.specs.Updates.{in_turn, move_easy}
use Rattle.testing_rules_moves.proofs.hint_turns.take_groups.Goals as goal

pub returns : goal.returns
returns c =
    let es = c.args.excuses.now in
    let grouped = filter (is_in_force c.in_ok-unhints.unhints) c.args.grouped.now in
    c.in_ok-groups.ensures
    ∙ ap (λ (r : Run). go_on r (λ b. in_turn (move_easy b.archs b.sources b.rows es) grouped)) c.in_ok-removals.ensures
    ∙ ap (λ (us : List UnhintIn). run_after_groups es c.args.hints.now c.args.grouped.now us c.args.turns.now) c.in_ok-unhints.ensures
