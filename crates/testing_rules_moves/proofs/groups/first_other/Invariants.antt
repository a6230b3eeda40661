use Rattle.std.proofs.Common.{◌≡◌, drop, not}
use Rattle.std.specs.Prelude.{find}
use Rattle.testing_rules_model.specs.Updates.{is_candidate}
use Rattle.testing_rules_moves.specs.steps.LentItems.{items_of}
use Rattle.testing_rules_moves.proofs.groups.first_other.Given as goal

-- none so far
abbrev pub invariant-loop-item : goal.invariant-loop-item
invariant-loop-item l =
    find (λ j. not (is_candidate l.excuses j.name j.version)) (items_of (drop l.item-index l.items))
    ≡ find (λ j. not (is_candidate l.excuses j.name j.version)) (items_of l.items)
