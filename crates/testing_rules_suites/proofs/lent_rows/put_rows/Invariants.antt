use Rattle.std.proofs.Common.{◌≡◌, take}
use Rattle.testing_rules_suites.specs.steps.AfterMoves.{with_rows, rows_at}
use Rattle.testing_rules_model.specs.InOrder.{AreByKey}
use Rattle.testing_rules_model.specs.JudgedRows.{lent}
use Rattle.testing_rules_suites.proofs.lent_rows.put_rows.Given as goal

-- those so far
abbrev pub invariant-loop-place : goal.invariant-loop-place
invariant-loop-place l =
    record {
      so_far : lent l.rows.items ≡ with_rows (rows_at l.pool (take l.place-index l.places)) (lent l.fn.rows.items);
      ordered : AreByKey (lent l.rows.items);
    }
