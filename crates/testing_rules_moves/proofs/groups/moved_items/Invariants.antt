use Rattle.std.proofs.Common.{◌≡◌, take, map}
use Rattle.testing_rules_model.specs.Boxed.{unboxed}
use Rattle.testing_rules_model.specs.Moves.{group_sources}
use Rattle.testing_rules_model.specs.steps.LentItems.{as_moved}
use Rattle.testing_rules_moves.proofs.groups.moved_items.Given as goal

-- those so far
abbrev pub invariant-loop-name : goal.invariant-loop-name
invariant-loop-name l =
    l.items.items ≡ map as_moved (group_sources (unboxed l.sources) (take l.name-index l.group))
