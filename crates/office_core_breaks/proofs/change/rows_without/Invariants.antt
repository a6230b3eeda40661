use Rattle.std.proofs.Common.{◌≡◌, take, filter, not}
use Rattle.testing_rules_model.specs.JudgedRows.{lent}
use Rattle.testing_rules_model.specs.Moves.{is_row_of}
use Rattle.office_core_breaks.proofs.change.rows_without.Given as goal

-- those so far
abbrev pub invariant-loop-row : goal.invariant-loop-row
invariant-loop-row l = lent l.left.items ≡ filter (λ r. not (is_row_of l.group r)) (lent (take l.row-index l.rows))
