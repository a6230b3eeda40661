use Rattle.std.proofs.Common.{◌≡◌, take}
use Rattle.testing_rules_items.specs.Words.{Text}
use Rattle.testing_rules_excuses.specs.steps.BySource.{slot_at}
use Rattle.testing_rules_excuses.specs.steps.OwnHints.{item_parts, joined_with}
use Rattle.testing_rules_excuses.proofs.own_hints.join_items.Given as goal

-- those so far
abbrev pub invariant-loop-item : goal.invariant-loop-item
invariant-loop-item l = (q : Text) → slot_at l.groups q ≡ joined_with (item_parts q l.hint l.wish (take l.item-index l.items)) (slot_at l.fn.groups q)
