use Rattle.std.proofs.Common.{◌∙◌, ap, map, List}
use Rattle.testing_rules_model.specs.declared.facts.UnhintIn.{UnhintIn}
use Rattle.testing_rules_items.specs.declared.item.HintItem.{HintItem}
use Rattle.testing_rules_moves.specs.steps.Runs.{Run, run_after_removals, go_on}
use Rattle.testing_rules_model.specs.Updates.{in_turn, remove_item}
use Rattle.testing_rules_moves.proofs.hint_turns.take_removals.Goals as goal

pub returns : goal.returns
returns c =
    let rs = c.args.removals.now in
    c.in_ok-remove_items.ensures
    ∙ ap (λ (r : Run). go_on r (λ b. in_turn (remove_item b.archs) (map (λ (i : HintItem). (rs.number, i)) rs.items.now))) c.in_ok-removals.ensures
    ∙ ap (λ (us : List UnhintIn). run_after_removals rs.hints.now rs.number rs.items.now us c.args.turns.now) c.in_ok-unhints.ensures
