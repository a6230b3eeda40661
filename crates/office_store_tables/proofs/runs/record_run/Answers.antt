use Rattle.sqlite.specs.Held.{state}
use Rattle.office_store_tables.proofs.RunWrites.{records}
use Rattle.office_store_testing_tables.proofs.WithinLemmas.{failed_within, then_within, failed_does}
use Rattle.office_store_tables.proofs.runs.record_run.Goals as goal

pub returns : goal.returns
returns g c = record {
  steps = then_within _ (then_within _ c.in_ok-_reports.ensures.steps c.in_ok-_old.ensures.steps) c.in_ok-added.ensures.steps;
  yields = λ trusted.
      let second = c.in_ok-added.ensures.steps.before trusted in
      let first = c.in_ok-_old.ensures.steps.before second in
      records (state g.S.Store c.args.tx.now.conn.now).now.trees (state g.S.Store c.add_run.new.tx.conn.now).now.trees (state g.S.Store c.clear_office.new.tx.conn.now).now.trees
      (state g.S.Store c.add_office.new.tx.conn.now).now.trees c.args.number (record { excuses = c.args.excuses.now; updates = c.args.updates.now })
      (record { schema = c.args.schema; setup = c.args.setup.now; finished = c.args.number })
      (c.in_ok-_reports.ensures.yields first) (c.in_ok-_old.ensures.yields second) (c.in_ok-added.ensures.yields trusted);
}

pub returns-in_err-_reports : goal.returns-in_err-_reports
returns-in_err-_reports g c = failed_does _ c.from_residual.ensures.0 (failed_within _ c.from_residual.ensures.0 c.in_err-_reports.ensures.steps)

pub returns-in_err-_old : goal.returns-in_err-_old
returns-in_err-_old g c = failed_does _ c.from_residual-in_err-_old.ensures.0 (then_within _ c.in_ok-_reports.ensures.steps (failed_within _ c.from_residual-in_err-_old.ensures.0 c.in_err-_old.ensures.steps))

pub returns-in_err-added : goal.returns-in_err-added
returns-in_err-added g c = failed_does _ c.from_residual-in_err-added.ensures.0 (then_within _ (then_within _ c.in_ok-_reports.ensures.steps c.in_ok-_old.ensures.steps) (failed_within _ c.from_residual-in_err-added.ensures.0 c.in_err-added.ensures.steps))
