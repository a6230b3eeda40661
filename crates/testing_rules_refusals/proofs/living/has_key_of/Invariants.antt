use Rattle.std.proofs.Common.{◌≡◌, take, false}
use Rattle.std.specs.List.{list_any}
use Rattle.testing_rules_model.specs.JudgedRows.{lent, row_of}
use Rattle.testing_rules_model.specs.Moves.{is_same_key}
use Rattle.testing_rules_refusals.proofs.living.has_key_of.Given as goal

-- none so far
abbrev pub invariant-loop-other : goal.invariant-loop-other
invariant-loop-other l = list_any (is_same_key (row_of l.row)) (lent (take l.other-index l.rows)) ≡ false
