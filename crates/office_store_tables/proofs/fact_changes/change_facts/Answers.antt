use Rattle.sqlite.specs.Held.{state}
use Rattle.office_store_testing_tables.proofs.FactMoves.{changes}
use Rattle.office_store_testing_tables.proofs.Passed.{well, never_bad, still_well}
use Rattle.office_store_testing_tables.proofs.WithinLemmas.{kept_within, failed_within, then_within, failed_never_bad}
use Rattle.office_store_tables.proofs.fact_changes.change_facts.Goals as goal

pub returns : goal.returns
returns g c = record {
  steps = then_within _ c.in_ok-drop_gone.ensures.steps (kept_within _ c.in_ok-add_each.ensures.steps);
  yields = λ trusted.
      changes c.args.release (state g.S.Store c.args.tx.now.conn.now).now.trees (state g.S.Store c.drop_gone.new.tx.conn.now).now.trees (state g.S.Store c.add_each.new.tx.conn.now).now.trees c.args.changes.now
      (c.in_ok-drop_gone.ensures.yields (c.in_ok-add_each.ensures.steps.before trusted)) (rw c.as_slice.ensures at (c.in_ok-add_each.ensures.yields trusted));
  bad = well _;
}

pub returns-in_err-drop_gone : goal.returns-in_err-drop_gone
returns-in_err-drop_gone g c = failed_never_bad _ c.from_residual.ensures.0 (still_well _ _ c.from_residual.ensures.1 c.in_err-drop_gone.ensures.bad) (failed_within _ c.from_residual.ensures.0 c.in_err-drop_gone.ensures.steps)

pub returns-in_err-add_each : goal.returns-in_err-add_each
returns-in_err-add_each g c = failed_never_bad _ c.from_residual-in_err-add_each.ensures.0 (never_bad _ c.from_residual-in_err-add_each.ensures.1) (then_within _ c.in_ok-drop_gone.ensures.steps (failed_within _ c.from_residual-in_err-add_each.ensures.0 c.in_err-add_each.ensures.steps))
