use Rattle.std.proofs.Common.{◌≡◌, take, filter}
use Rattle.testing_rules_suites.specs.steps.AfterMoves.{with_rows}
use Rattle.testing_rules_model.specs.InOrder.{AreByKey}
use Rattle.testing_rules_model.specs.JudgedRows.{lent}
use Rattle.testing_rules_model.specs.Unstable.{is_current}
use Rattle.testing_rules_live.proofs.lent_rows.put_current.Given as goal

-- those so far
abbrev pub invariant-loop-row : goal.invariant-loop-row
invariant-loop-row l =
    record {
      so_far : lent l.rows.items ≡ with_rows (filter (is_current l.upload) (lent (take l.row-index l.built))) (lent l.fn.rows.items);
      ordered : AreByKey (lent l.rows.items);
    }
