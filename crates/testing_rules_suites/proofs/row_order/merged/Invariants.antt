use Rattle.std.proofs.Common.{length}
use Rattle.testing_rules_suites.proofs.Merging.{IsMerged}
use Rattle.testing_rules_suites.proofs.row_order.merged.Given as goal

-- those so far
abbrev pub invariant-loop-place : goal.invariant-loop-place
invariant-loop-place l = IsMerged (length l.rows) l.from l.place l.merged.items l.rest
