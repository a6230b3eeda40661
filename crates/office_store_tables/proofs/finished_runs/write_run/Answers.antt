use Rattle.std.proofs.lemmas.Result.{IfOk-from_err}
use Rattle.sqlite.specs.Held.{state}
use Rattle.office_store_tables.proofs.FinishLemmas.{writes}
use Rattle.office_store_testing_tables.proofs.Passed.{well, never_bad, still_well}
use Rattle.office_store_testing_tables.proofs.WithinLemmas.{kept_within, failed_within, then_within, failed_never_bad}
use Rattle.office_store_tables.proofs.finished_runs.write_run.Goals as goal

pub returns-clause-does : goal.returns-clause-does
returns-clause-does g c = record {
  steps = then_within _ (then_within _ (then_within _ c.in_ok-set_sources.ensures.steps c.in_ok-set_rows.ensures.steps) c.in_ok-change_facts.ensures.steps) (kept_within _ c.in_ok-added.ensures.steps);
  yields = λ trusted.
      let third = c.in_ok-added.ensures.steps.before trusted in
      let second = c.in_ok-change_facts.ensures.steps.before third in
      let first = c.in_ok-set_rows.ensures.steps.before second in
      writes c.args.release (state g.S.Store c.args.tx.now.conn.now).now.trees (state g.S.Store c.set_sources.new.tx.conn.now).now.trees (state g.S.Store c.set_rows.new.tx.conn.now).now.trees
      (state g.S.Store c.change_facts.new.tx.conn.now).now.trees (state g.S.Store c.record_run.new.tx.conn.now).now.trees c.args.run c.args.done.now c.args.said.now
      (rw c.sources.ensures.entries at (c.in_ok-set_sources.ensures.yields first)) (rw c.rows.ensures.entries at (c.in_ok-set_rows.ensures.yields second)) (c.in_ok-change_facts.ensures.yields third)
      (rw (c.as_str-excuses.ensures, c.as_str-updates.ensures, c.as_str-setup.ensures) at (c.in_ok-added.ensures.yields trusted));
  bad = well _;
}

pub returns-clause-ordered : goal.returns-clause-ordered
returns-clause-ordered g c = record { by_name = rw c.sources.ensures.entries at c.sources.ensures.ordered; by_key = rw c.rows.ensures.entries at c.rows.ensures.ordered }

pub returns-in_err-set_sources-clause-does : goal.returns-in_err-set_sources-clause-does
returns-in_err-set_sources-clause-does g c = failed_never_bad _ c.from_residual.ensures.0 (still_well _ _ c.from_residual.ensures.1 c.in_err-set_sources.ensures.bad) (failed_within _ c.from_residual.ensures.0 c.in_err-set_sources.ensures.steps)

pub returns-in_err-set_sources-clause-ordered : goal.returns-in_err-set_sources-clause-ordered
returns-in_err-set_sources-clause-ordered g c = IfOk-from_err c.from_residual.result _ c.from_residual.ensures.0

pub returns-in_err-set_sources-clause-texts : goal.returns-in_err-set_sources-clause-texts
returns-in_err-set_sources-clause-texts g c = IfOk-from_err c.from_residual.result _ c.from_residual.ensures.0

pub returns-in_err-set_rows-clause-does : goal.returns-in_err-set_rows-clause-does
returns-in_err-set_rows-clause-does g c = failed_never_bad _ c.from_residual-in_err-set_rows.ensures.0 (still_well _ _ c.from_residual-in_err-set_rows.ensures.1 c.in_err-set_rows.ensures.bad) (then_within _ c.in_ok-set_sources.ensures.steps (failed_within _ c.from_residual-in_err-set_rows.ensures.0 c.in_err-set_rows.ensures.steps))

pub returns-in_err-set_rows-clause-ordered : goal.returns-in_err-set_rows-clause-ordered
returns-in_err-set_rows-clause-ordered g c = IfOk-from_err c.from_residual-in_err-set_rows.result _ c.from_residual-in_err-set_rows.ensures.0

pub returns-in_err-set_rows-clause-texts : goal.returns-in_err-set_rows-clause-texts
returns-in_err-set_rows-clause-texts g c = IfOk-from_err c.from_residual-in_err-set_rows.result _ c.from_residual-in_err-set_rows.ensures.0

pub returns-in_err-change_facts-clause-does : goal.returns-in_err-change_facts-clause-does
returns-in_err-change_facts-clause-does g c = failed_never_bad _ c.from_residual-in_err-change_facts.ensures.0 (still_well _ _ c.from_residual-in_err-change_facts.ensures.1 c.in_err-change_facts.ensures.bad) (then_within _ (then_within _ c.in_ok-set_sources.ensures.steps c.in_ok-set_rows.ensures.steps) (failed_within _ c.from_residual-in_err-change_facts.ensures.0 c.in_err-change_facts.ensures.steps))

pub returns-in_err-change_facts-clause-ordered : goal.returns-in_err-change_facts-clause-ordered
returns-in_err-change_facts-clause-ordered g c = IfOk-from_err c.from_residual-in_err-change_facts.result _ c.from_residual-in_err-change_facts.ensures.0

pub returns-in_err-change_facts-clause-texts : goal.returns-in_err-change_facts-clause-texts
returns-in_err-change_facts-clause-texts g c = IfOk-from_err c.from_residual-in_err-change_facts.result _ c.from_residual-in_err-change_facts.ensures.0

pub returns-in_err-added-clause-does : goal.returns-in_err-added-clause-does
returns-in_err-added-clause-does g c = failed_never_bad _ c.from_residual-in_err-added.ensures.0 (never_bad _ c.from_residual-in_err-added.ensures.1) (then_within _ (then_within _ (then_within _ c.in_ok-set_sources.ensures.steps c.in_ok-set_rows.ensures.steps) c.in_ok-change_facts.ensures.steps) (failed_within _ c.from_residual-in_err-added.ensures.0 c.in_err-added.ensures.steps))

pub returns-in_err-added-clause-ordered : goal.returns-in_err-added-clause-ordered
returns-in_err-added-clause-ordered g c = IfOk-from_err c.from_residual-in_err-added.result _ c.from_residual-in_err-added.ensures.0

pub returns-in_err-added-clause-texts : goal.returns-in_err-added-clause-texts
returns-in_err-added-clause-texts g c = IfOk-from_err c.from_residual-in_err-added.result _ c.from_residual-in_err-added.ensures.0
