use Rattle.std.proofs.Common.{◌≡◌, take, filter}
use Rattle.std.specs.Str.{bytes_eq}
use Rattle.testing_rules_model.specs.declared.suite.RowIn.{RowIn}
use Rattle.testing_rules_model.specs.JudgedRows.{lent}
use Rattle.testing_rules_refusals.proofs.living.rows_of.Given as goal

-- those so far
abbrev pub invariant-loop-row : goal.invariant-loop-row
invariant-loop-row l = lent l.own.items ≡ filter (λ (r : RowIn). bytes_eq r.binary.source l.name) (lent (take l.row-index l.rows))
