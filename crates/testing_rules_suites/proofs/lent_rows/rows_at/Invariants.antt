use Rattle.std.proofs.Common.{◌≡◌, take}
use Rattle.testing_rules_suites.specs.steps.AfterMoves.{rows_at}
use Rattle.testing_rules_model.specs.JudgedRows.{lent}
use Rattle.testing_rules_suites.proofs.lent_rows.rows_at.Given as goal

-- those so far
abbrev pub invariant-loop-place : goal.invariant-loop-place
invariant-loop-place l = lent l.rows.items ≡ rows_at l.pool (take l.place-index l.places)
