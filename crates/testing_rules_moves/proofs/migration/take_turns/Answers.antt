use Rattle.std.proofs.Common.{◌∙◌, ap, filter, List}
use Rattle.testing_rules_model.specs.declared.facts.UnhintIn.{UnhintIn}
use Rattle.testing_rules_moves.specs.steps.Runs.{Run, after_turns, go_on}
use Rattle.testing_rules_model.specs.Unstable.{is_in_force}
use Rattle.testing_rules_model.specs.Updates.{in_turn, move_easy, move_singles}
use Rattle.testing_rules_model.specs.steps.Updates.{wait_all}
use Rattle.testing_rules_moves.proofs.migration.take_turns.Goals as goal

pub returns : goal.returns
returns c =
    let es = c.args.excuses.now in
    let hints = filter (is_in_force c.in_ok-unhints.unhints) c.args.hints.now in
    let all_turns = λ (us : List UnhintIn). after_turns es c.args.hints.now us c.args.turns.now in
    c.in_ok-waits.ensures
    ∙ ap (λ (r : Run). go_on r (λ b. wait_all b.archs b.sources b.rows es))
    (c.in_ok-move_singles.ensures
    ∙ ap (λ (r : Run). go_on r (λ b. move_singles b.archs b.sources b.rows es))
    (c.in_ok-groups.ensures
    ∙ ap (λ (r : Run). go_on r (λ b. in_turn (move_easy b.archs b.sources b.rows es) hints)) c.in_ok-removals.ensures))
    ∙ ap all_turns c.in_ok-unhints.ensures
