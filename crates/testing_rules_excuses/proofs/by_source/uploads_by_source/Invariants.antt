use Rattle.std.proofs.Common.{◌≡◌, Some, None, cond, take, filter, option_map}
use Rattle.std.specs.Str.{bytes_eq}
use Rattle.testing_rules_items.specs.Words.{Text}
use Rattle.testing_rules_excuses.specs.steps.BySource.{slot_at, is_among}
use Rattle.testing_rules_excuses.specs.steps.LentUploads.{uploads_lent}
use Rattle.testing_rules_excuses.proofs.by_source.uploads_by_source.Given as goal

-- those so far
abbrev pub invariant-loop-upload : goal.invariant-loop-upload
invariant-loop-upload l = (q : Text) → option_map uploads_lent (slot_at l.groups q) ≡ cond (is_among l.news q) (Some (filter (λ x. bytes_eq q x.source) (take l.upload-index l.uploads))) None
