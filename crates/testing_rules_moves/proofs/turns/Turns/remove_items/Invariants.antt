use Rattle.std.proofs.Common.{◌≡◌, drop, map}
use Rattle.testing_rules_moves.specs.steps.Runs.{go_on}
use Rattle.testing_rules_model.specs.Updates.{in_turn, remove_item}
use Rattle.testing_rules_moves.proofs.turns.Turns.remove_items.Given as goal

-- those so far and those of the rest are all
abbrev pub invariant-loop-item : goal.invariant-loop-item
invariant-loop-item l =
    go_on l.self (λ b. in_turn (remove_item b.archs) (map (λ i. (l.hint, i)) (drop l.item-index l.items)))
    ≡ go_on l.fn.self (λ b. in_turn (remove_item b.archs) (map (λ i. (l.hint, i)) l.items))
