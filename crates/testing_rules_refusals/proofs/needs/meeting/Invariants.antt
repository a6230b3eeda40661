use Rattle.std.proofs.Common.{◌≡◌, take}
use Rattle.testing_rules_model.specs.JudgedRows.{lent}
use Rattle.testing_rules_refusals.specs.Needs as rules
use Rattle.testing_rules_refusals.proofs.needs.meeting.Given as goal

-- those so far
abbrev pub invariant-loop-row : goal.invariant-loop-row
invariant-loop-row l = lent l.met.items ≡ rules.meeting l.clause (lent (take l.row-index l.rows))
