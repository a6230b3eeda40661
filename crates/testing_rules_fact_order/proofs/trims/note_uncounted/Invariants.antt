use Rattle.std.proofs.Common.{◌≡◌, ◌+◌, ◌-◌, ◌≤◌, ◌++◌, not, filter, length, map, take, vec_len, vec_capacity}
use Rattle.testing_rules_model.specs.FactRows.{upload_row}
use Rattle.testing_rules_model.specs.KeptFacts.{counts_beside}
use Rattle.testing_rules_fact_order.specs.steps.Trimming.{with_sources}
use Rattle.testing_rules_fact_order.proofs.trims.note_uncounted.Given as goal

abbrev pub invariant-uploads : goal.invariant-uploads
invariant-uploads l =
    (l.left.items ≡ l.initial.left.items ++ map upload_row (filter (λ u. not (counts_beside (with_sources l.sources) u)) (take l.upload-index l.uploads)))
    × (vec_len l.left + (length l.uploads - l.upload-index) ≤ vec_capacity l.left)
    × (vec_capacity l.initial.left ≤ vec_capacity l.left)
