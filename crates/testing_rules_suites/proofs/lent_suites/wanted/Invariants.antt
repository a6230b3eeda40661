use Rattle.std.proofs.Common.{take}
use Rattle.testing_rules_model.specs.JudgedRows.{lent}
use Rattle.testing_rules_suites.specs.steps.Standing.{AreWanted}
use Rattle.testing_rules_suites.proofs.lent_suites.wanted.Given as goal

-- those so far
abbrev pub invariant-loop-row : goal.invariant-loop-row
invariant-loop-row l = AreWanted l.pool (take l.row-index l.rows) l.flags.items (lent l.lacking.items)
