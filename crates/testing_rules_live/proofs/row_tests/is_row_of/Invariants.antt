use Rattle.std.proofs.Common.{◌≡◌, take, false}
use Rattle.testing_rules_model.specs.Moves.{is_row_of}
use Rattle.testing_rules_model.specs.JudgedRows.{row_of}
use Rattle.testing_rules_live.proofs.row_tests.is_row_of.Given as goal

-- none so far
abbrev pub invariant-loop-name : goal.invariant-loop-name
invariant-loop-name l = is_row_of (take l.name-index l.group) (row_of l.row) ≡ false
