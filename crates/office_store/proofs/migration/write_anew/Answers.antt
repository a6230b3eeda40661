use Rattle.sqlite.specs.Held.{state}
use Rattle.office_store.proofs.MigrateLemmas.{writes_anew}
use Rattle.office_store_tables.proofs.WithinLemmas.{failed_within, then_within, failed_does}
use Rattle.office_store.proofs.migration.write_anew.Goals as goal

pub returns : goal.returns
returns g c = record {
  steps = then_within _ (then_within _ c.in_ok-put_last.ensures.steps c.in_ok-_old.ensures.steps) c.in_ok-added.ensures.steps;
  yields = λ trusted.
      let second = c.in_ok-added.ensures.steps.before trusted in
      let first = c.in_ok-_old.ensures.steps.before second in
      writes_anew (state g.S.Store c.args.tx.now.conn.now).now.trees (state g.S.Store c.put_last.new.tx.conn.now).now.trees (state g.S.Store c.clear_office.new.tx.conn.now).now.trees (state g.S.Store c.add_office.new.tx.conn.now).now.trees
      c.args.last (record { schema = 2; setup = c.args.setup.now; finished = c.args.finished }) (c.in_ok-put_last.ensures.yields first) (c.in_ok-_old.ensures.yields second) (c.in_ok-added.ensures.yields trusted);
}

pub returns-in_err-put_last : goal.returns-in_err-put_last
returns-in_err-put_last g c = failed_does _ c.from_residual.ensures.0 (failed_within _ c.from_residual.ensures.0 c.in_err-put_last.ensures.steps)

pub returns-in_err-_old : goal.returns-in_err-_old
returns-in_err-_old g c = failed_does _ c.from_residual-in_err-_old.ensures.0 (then_within _ c.in_ok-put_last.ensures.steps (failed_within _ c.from_residual-in_err-_old.ensures.0 c.in_err-_old.ensures.steps))

pub returns-in_err-added : goal.returns-in_err-added
returns-in_err-added g c = failed_does _ c.from_residual-in_err-added.ensures.0 (then_within _ (then_within _ c.in_ok-put_last.ensures.steps c.in_ok-_old.ensures.steps) (failed_within _ c.from_residual-in_err-added.ensures.0 c.in_err-added.ensures.steps))
