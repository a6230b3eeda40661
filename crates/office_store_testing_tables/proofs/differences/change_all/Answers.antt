use Rattle.std.proofs.Common.{true, arith}
use Rattle.sqlite.specs.Held.{state}
use Rattle.office_store_testing_tables.proofs.Passed.{well, still_well}
use Rattle.office_store_testing_tables.proofs.WithinLemmas.{none_within, kept_within, failed_within, then_within, failed_never_bad}
use Rattle.office_store_testing_tables.proofs.DifferenceLemmas.{entries_start, entries_end}
use Rattle.office_store_testing_tables.proofs.differences.change_all.Goals as goal

pub changes-init : goal.changes-init
changes-init g c = record {
  steps = none_within _ true c.requires.inside;
  within_shown = omega arith;
  within_new = omega arith;
  changed = λ trusted. entries_start g.E.Entry.TABLE g.E.Entry.columns g.E.Entry.says g.E.Entry.entry g.met.E.Entry.says_shown g.met.E.Entry.shows_rowid c.args.shown.now c.args.entries.now (state g.S.Store c.args.tx.now.conn.now).now.trees (c.requires.shown trusted);
}

pub changes-preserved : goal.changes-preserved
changes-preserved g c =
    let step = c.in_ok-at.ensures in
    let was = c.changes.invariant in
    record {
      steps = then_within _ was.steps (kept_within _ step.does.steps);
      within_shown = step.further.within_shown;
      within_new = step.further.within_new;
      changed = λ trusted. step.does.yields trusted (state g.S.Store c.args.tx.now.conn.now).now.trees (was.changed (step.does.steps.before trusted));
    }

pub returns : goal.returns
returns g c = record {
  steps = kept_within _ c.changes.invariant.steps;
  yields = λ trusted. entries_end g.E.Entry.TABLE g.E.Entry.columns g.E.Entry.says g.E.Entry.entry g.met.E.Entry.says_shown g.met.E.Entry.shows_rowid c.args.shown.now c.args.entries.now (state g.S.Store c.args.tx.now.conn.now).now.trees (state g.S.Store c.changes.tx.conn.now).now.trees c.changes.at.shown c.changes.at.entries (omega (arith, c.if-at-shown.false)) (omega (arith, c.if-at-entries.false)) (c.changes.invariant.changed trusted);
  bad = well _;
}

pub returns-in_err-at : goal.returns-in_err-at
returns-in_err-at g c = failed_never_bad _ c.from_residual.ensures.0 (still_well _ _ c.from_residual.ensures.1 c.in_err-at.ensures.does.bad) (then_within _ c.changes.invariant.steps (failed_within _ c.from_residual.ensures.0 c.in_err-at.ensures.does.steps))
