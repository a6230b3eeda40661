use Rattle.std.proofs.Common.{◌≡◌, filter, take}
use Rattle.testing_rules_model.specs.JudgedRows.{lent}
use Rattle.testing_rules_model.specs.Unstable.{is_of_source}
use Rattle.testing_rules_excuses.proofs.source_facts.own_rows.Given as goal

-- those so far
abbrev pub invariant-loop-row : goal.invariant-loop-row
invariant-loop-row l = lent l.own.items ≡ filter (is_of_source l.upload) (lent (take l.row-index l.rows))
