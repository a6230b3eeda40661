use Rattle.std.proofs.Common.{◌∙◌, ap, map, List}
use Rattle.testing_rules_items.specs.declared.item.HintItem.{HintItem}
use Rattle.testing_rules_model.specs.declared.facts.UnhintIn.{UnhintIn}
use Rattle.testing_rules_model.specs.Updates.{in_turn, remove_item}
use Rattle.testing_rules_moves.specs.steps.Runs.{Run, run_after_removals}
use Rattle.testing_rules_moves.specs.steps.Turns.{after_removals}
use Rattle.testing_rules_moves.proofs.Behind.{none_by_key}
use Rattle.testing_rules_moves.proofs.hint_turns.removals_over.Goals as goal

pub over-requires-clause-rows : goal.over-requires-clause-rows
over-requires-clause-rows c = none_by_key

pub returns : goal.returns
returns c =
    let a = c.args in
    let rs = a.removals.now in
    let run = c.in_ok-take_removals.ensures ∙ ap (run_after_removals rs.hints.now rs.number rs.items.now c.unhints.result.now) c.in_ok-turns.ensures in
    c.in_ok-parts.ensures.testing
    ∙ ap (λ (r : Run). r.outcome.suite) run
    ∙ ap (λ (us : List UnhintIn). (in_turn (remove_item a.archs.now) (map (λ (i : HintItem). (rs.number, i)) rs.items.now) (after_removals a.archs.now rs.hints.now us a.testing.now)).suite) c.unhints.ensures
