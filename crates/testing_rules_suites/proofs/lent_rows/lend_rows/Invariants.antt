use Rattle.std.proofs.Common.{◌≡◌, take}
use Rattle.testing_rules_model.specs.JudgedRows.{lent}
use Rattle.testing_rules_suites.proofs.lent_rows.lend_rows.Given as goal

-- those so far
abbrev pub invariant-loop-row : goal.invariant-loop-row
invariant-loop-row l = lent l.loans.items ≡ take l.row-index l.rows
