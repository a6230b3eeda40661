use Rattle.std.proofs.Common.{◌≡◌, Some, None, [], cond, take}
use Rattle.testing_rules_items.specs.Words.{Text}
use Rattle.testing_rules_excuses.specs.steps.BySource.{slot_at, is_among}
use Rattle.testing_rules_excuses.proofs.by_source.groups_for.Given as goal

-- those so far
abbrev pub invariant-loop-source : goal.invariant-loop-source
invariant-loop-source g l = (q : Text) → slot_at l.groups q ≡ cond (is_among (take l.source-index l.news) q) (Some []) None
