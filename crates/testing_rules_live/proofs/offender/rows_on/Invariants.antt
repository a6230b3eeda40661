use Rattle.std.proofs.Common.{◌≡◌, take}
use Rattle.testing_rules_model.specs.Moves as moves
use Rattle.testing_rules_model.specs.JudgedRows.{lent}
use Rattle.testing_rules_live.proofs.offender.rows_on.Given as goal

-- those so far
abbrev pub invariant-loop-row : goal.invariant-loop-row
invariant-loop-row l = lent l.there.items ≡ moves.rows_on l.arch (lent (take l.row-index l.rows))
