use Rattle.std.proofs.Common.{◌≡◌, ◌++◌, Some, None, cond, take}
use Rattle.std.specs.List.{flat_map, list_any}
use Rattle.testing_rules_items.specs.Words.{Text}
use Rattle.testing_rules_excuses.specs.steps.BySource.{slot_at, is_among}
use Rattle.testing_rules_excuses.specs.steps.OwnHints.{is_for_all, started, parts_of}
use Rattle.testing_rules_excuses.proofs.own_hints.hints_by_source.Given as goal

-- those so far
abbrev pub invariant-loop-hint : goal.invariant-loop-hint
invariant-loop-hint l = (q : Text) → slot_at l.groups q
    ≡ cond (is_among l.news q) (Some (started (list_any (λ h. is_for_all h.hint) l.hints) ++ flat_map (parts_of q) (take l.hint-index l.hints))) None
