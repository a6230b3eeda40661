use Rattle.std.proofs.Common.{◌≡◌, not, take, filter}
use Rattle.testing_rules_model.specs.declared.suite.RowIn.{RowIn}
use Rattle.testing_rules_model.specs.JudgedRows.{lent}
use Rattle.testing_rules_refusals.specs.Stuck.{gives_way}
use Rattle.testing_rules_refusals.proofs.living.rows_left.Given as goal

-- those so far
abbrev pub invariant-loop-row : goal.invariant-loop-row
invariant-loop-row l = lent l.left.items ≡ filter (λ (r : RowIn). not (gives_way (lent l.arrival.rows.now) l.arrival.name.now r)) (lent (take l.row-index l.rows))
