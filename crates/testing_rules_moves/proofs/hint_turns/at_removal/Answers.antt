use Rattle.std.proofs.Common.{◌≡◌, ◌∙◌, ap, map, subst, List}
use Rattle.std.specs.Prelude.{IfOk}
use Rattle.testing_rules_items.specs.declared.item.HintItem.{HintItem}
use Rattle.testing_rules_model.specs.declared.facts.HintIn.{HintIn}
use Rattle.testing_rules_model.specs.Updates.{in_turn, remove_item}
use Rattle.testing_rules_moves.specs.steps.Turns.{after_removals, hints_before}
use Rattle.testing_rules_moves.proofs.hint_turns.at_removal.Goals as goal

pub returns : goal.returns
returns c =
    let a = c.args in
    let earlier = c.deref.ensures.value ∙ c.in_ok-hints.ensures ∙ ap (hints_before a.number) c.hints.ensures in
    subst (λ (hints : List HintIn). IfOk c.removals_over.result (λ turn. turn ≡ (in_turn (remove_item a.archs.now) (map (λ (i : HintItem). (a.number, i)) a.earlier.now) (after_removals a.archs.now hints a.facts.now.unhints a.testing.now)).suite))
    earlier c.removals_over.ensures
