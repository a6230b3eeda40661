use Rattle.std.proofs.Common.{◌≡◌, Some, None, cond, take, filter}
use Rattle.std.specs.Str.{bytes_eq}
use Rattle.testing_rules_model.specs.Boxed.{unboxed}
use Rattle.testing_rules_items.specs.Words.{Text}
use Rattle.testing_rules_excuses.specs.steps.BySource.{slot_at, is_among}
use Rattle.testing_rules_excuses.proofs.by_source.bugs_by_source.Given as goal

-- those so far
abbrev pub invariant-loop-bug : goal.invariant-loop-bug
invariant-loop-bug l = (q : Text) → slot_at l.groups q ≡ cond (is_among l.news q) (Some (filter (λ x. bytes_eq q x.source) (take l.bug-index (unboxed l.bugs)))) None
