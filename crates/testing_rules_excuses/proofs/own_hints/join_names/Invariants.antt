use Rattle.std.proofs.Common.{◌≡◌, take}
use Rattle.testing_rules_items.specs.Words.{Text}
use Rattle.testing_rules_excuses.specs.steps.BySource.{slot_at}
use Rattle.testing_rules_excuses.specs.steps.OwnHints.{named_parts, joined_with}
use Rattle.testing_rules_excuses.proofs.own_hints.join_names.Given as goal

-- those so far
abbrev pub invariant-loop-name : goal.invariant-loop-name
invariant-loop-name l = (q : Text) → slot_at l.groups q ≡ joined_with (named_parts q l.hint (take l.name-index l.names)) (slot_at l.fn.groups q)
