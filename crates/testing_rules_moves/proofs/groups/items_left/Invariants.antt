use Rattle.std.proofs.Common.{◌≡◌, take, filter, not}
use Rattle.testing_rules_model.specs.Updates.{is_in_testing}
use Rattle.testing_rules_moves.specs.steps.LentItems.{items_of}
use Rattle.testing_rules_moves.proofs.groups.items_left.Given as goal

-- those so far
abbrev pub invariant-loop-item : goal.invariant-loop-item
invariant-loop-item l =
    items_of l.left.items ≡ filter (λ i. not (is_in_testing l.testing.suite i.name i.version)) (take l.item-index l.items)
