use Rattle.sqlite.specs.Held.{state}
use Rattle.office_store_tables.proofs.CreateLemmas.{blank, built_within, unbuilt_within}
use Rattle.office_store_testing_tables.proofs.WithinLemmas.{failed_within, then_within, failed_does}
use Rattle.office_store_tables.proofs.schema.write_office.Goals as goal

pub returns : goal.returns
returns g c = record {
  steps = then_within _ (built_within c.in_ok-_made.ensures) c.in_ok-added.ensures.steps;
  yields = λ trusted.
      blank (state g.S.Store c.args.tx.now.conn.now) (state g.S.Store c.create_all.new.tx.conn.now) (state g.S.Store c.add_office.new.tx.conn.now).now.trees
      (record { schema = 2; setup = c.args.setup.now; finished = 0 })
      (c.in_ok-_made.ensures.made (c.in_ok-added.ensures.steps.before trusted)) (c.in_ok-added.ensures.yields trusted);
}

pub returns-in_err-_made : goal.returns-in_err-_made
returns-in_err-_made g c = failed_does _ c.from_residual.ensures.0 (failed_within _ c.from_residual.ensures.0 (unbuilt_within c.in_err-_made.ensures))

pub returns-in_err-added : goal.returns-in_err-added
returns-in_err-added g c =
    let exit = c.from_residual-in_err-added in
    failed_does _ exit.ensures.0 (then_within _ (built_within c.in_ok-_made.ensures) (failed_within _ exit.ensures.0 c.in_err-added.ensures.steps))
