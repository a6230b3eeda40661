use Rattle.std.proofs.Common.{◌≡◌, take, filter}
use Rattle.testing_rules_model.specs.JudgedRows.{lent, row_of}
use Rattle.testing_rules_model.specs.Moves.{is_same_key}
use Rattle.office_core_breaks.proofs.lines.same_rows.Given as goal

-- those so far
abbrev pub invariant-loop-other : goal.invariant-loop-other
invariant-loop-other l = lent l.same.items ≡ filter (is_same_key (row_of l.row)) (lent (take l.other-index l.rows))
