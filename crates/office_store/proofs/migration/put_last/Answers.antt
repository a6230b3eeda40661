use Rattle.std.proofs.Common.{refl, sym, subst}
use Rattle.sqlite.specs.Held.{state}
use Rattle.office_store.specs.steps.MigratingSteps.{PutsLast}
use Rattle.office_store_tables.proofs.WithinLemmas.{none_within, kept_within, failed_within, failed_does}
use Rattle.office_store.proofs.migration.put_last.Goals as goal

pub returns-in-None : goal.returns-in-None
returns-in-None g c =
    let old = (state g.S.Store c.args.tx.now.conn.now).now.trees in
    record { steps = none_within _ _ c.requires; yields = λ trusted. subst (PutsLast old old) (sym c.in-None.is) refl }

pub returns-in_ok-add_delays-in-Some : goal.returns-in_ok-add_delays-in-Some
returns-in_ok-add_delays-in-Some g c =
    let old = (state g.S.Store c.args.tx.now.conn.now).now.trees in
    let new = (state g.S.Store c.add_delays.new.tx.conn.now).now.trees in
    record {
      steps = kept_within _ c.in_ok-add_delays-in-Some.ensures.steps;
      yields = λ trusted. subst (PutsLast old new) (sym c.in-Some.is) (c.in_ok-add_delays-in-Some.ensures.yields trusted);
    }

pub returns-in_err-add_delays-in-Some : goal.returns-in_err-add_delays-in-Some
returns-in_err-add_delays-in-Some g c = failed_does _ c.from_residual.ensures.0 (failed_within _ c.from_residual.ensures.0 c.in_err-add_delays-in-Some.ensures.steps)
