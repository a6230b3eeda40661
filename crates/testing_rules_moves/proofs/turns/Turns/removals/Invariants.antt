use Rattle.std.proofs.Common.{◌≡◌, drop, filter}
use Rattle.std.specs.List.{flat_map}
use Rattle.testing_rules_model.specs.Unstable.{is_in_force}
use Rattle.testing_rules_moves.specs.steps.Runs.{go_on}
use Rattle.testing_rules_model.specs.Updates.{in_turn, remove_item, removals_of}
use Rattle.testing_rules_moves.proofs.turns.Turns.removals.Given as goal

-- those so far and those of the rest are all
abbrev pub invariant-loop-hint : goal.invariant-loop-hint
invariant-loop-hint l =
    go_on l.self (λ b. in_turn (remove_item b.archs) (flat_map removals_of (filter (is_in_force l.unhints) (drop l.hint-index l.hints))))
    ≡ go_on l.fn.self (λ b. in_turn (remove_item b.archs) (flat_map removals_of (filter (is_in_force l.unhints) l.hints)))
