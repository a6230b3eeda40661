use Rattle.std.proofs.Common.{◌≡◌, take}
use Rattle.testing_rules_suites.proofs.suite.copy_rows.Given as goal

-- those so far
abbrev pub invariant-loop-row : goal.invariant-loop-row
invariant-loop-row l = l.copies.items ≡ take l.row-index l.rows
