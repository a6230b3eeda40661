use Rattle.std.proofs.Common.{◌≡◌, take, filter, not}
use Rattle.std.specs.List.{flat_map}
use Rattle.testing_rules_model.specs.Boxed.{unboxed}
use Rattle.testing_rules_suites.specs.steps.AfterMoves.{with_rows}
use Rattle.testing_rules_model.specs.InOrder.{AreByKey}
use Rattle.testing_rules_model.specs.JudgedRows.{lent}
use Rattle.testing_rules_model.specs.Moves.{group_sources, is_row_of}
use Rattle.testing_rules_model.specs.Unstable.{is_current}
use Rattle.testing_rules_live.proofs.lent_rows.moved_rows.Given as goal

-- those so far
abbrev pub invariant-loop-name : goal.invariant-loop-name
invariant-loop-name l =
    record {
      so_far : lent l.moved.items ≡ with_rows (flat_map (λ u. filter (is_current u) (lent l.unstable.rows.now)) (group_sources (unboxed l.unstable.sources.now) (take l.name-index l.group))) (filter (λ r. not (is_row_of l.group r)) (lent l.rows));
      ordered : AreByKey (lent l.moved.items);
    }
