use Rattle.std.proofs.Common.{◌≡◌, take, map}
use Rattle.testing_rules_moves.specs.steps.LentItems.{items_of}
use Rattle.testing_rules_moves.proofs.groups.names_of.Given as goal

-- those so far
abbrev pub invariant-loop-item : goal.invariant-loop-item
invariant-loop-item l =
    l.names.items ≡ map (λ j. j.name) (items_of (take l.item-index l.items))
