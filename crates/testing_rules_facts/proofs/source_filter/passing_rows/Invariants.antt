use Rattle.std.proofs.Common.{◌≡◌, take}
use Rattle.testing_rules_model.specs.JudgedRows.{lent}
use Rattle.testing_rules_model.specs.steps.SourceFilter.{passing_rows}
use Rattle.testing_rules_facts.proofs.source_filter.passing_rows.Given as goal

-- those so far
abbrev pub invariant-loop-row : goal.invariant-loop-row
invariant-loop-row l = lent l.wanted.items ≡ passing_rows l.hashes.keys (lent (take l.row-index l.rows))
