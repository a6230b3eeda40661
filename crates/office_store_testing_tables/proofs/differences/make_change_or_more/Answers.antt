use Rattle.std.proofs.Common.{take, drop, ◌+◌, ◌-◌, ap, subst}
use Rattle.sqlite.specs.Held.{state}
use Rattle.office_store_testing_tables.specs.steps.Differences.{TableCompared}
use Rattle.office_store_testing_tables.proofs.Eights.{eight_on}
use Rattle.office_store_testing_tables.proofs.Passed.{well, never_bad}
use Rattle.office_store_testing_tables.proofs.WithinLemmas.{kept_within, failed_within, failed_never_bad}
use Rattle.office_store_testing_tables.proofs.DifferenceLemmas.{are_from, entries_come}
use Rattle.office_store_testing_tables.proofs.differences.make_change_or_more.Goals as goal

pub returns-clause-does : goal.returns-clause-does
returns-clause-does g c = record {
  steps = kept_within _ c.in_ok-add_eight.ensures.steps;
  yields = λ trusted first was.
      let more = take (c.args.at.entries + 8 - c.args.at.entries) (drop c.args.at.entries c.args.entries.now) in
      subst (TableCompared g.E.Entry.TABLE g.E.Entry.columns g.E.Entry.says g.E.Entry.entry first (state g.S.Store c.add_eight.new.tx.conn.now).now.trees c.args.shown.now c.args.entries.now c.args.at.shown) (ap (λ n. c.args.at.entries + n) (eight_on c.args.entries.now c.args.at.entries c.if-entries-at-lt8.false))
      (entries_come g.E.Entry.TABLE g.E.Entry.columns g.E.Entry.says g.E.Entry.entry g.met.E.Entry.says_shown g.met.E.Entry.shows_rowid c.args.shown.now c.args.entries.now first (state g.S.Store c.args.tx.now.conn.now).now.trees (state g.S.Store c.add_eight.new.tx.conn.now).now.trees c.args.at.shown c.args.at.entries more
      (are_from c.args.entries.now c.args.at.entries (c.args.at.entries + 8 - c.args.at.entries)) (c.in_ok-add_eight.ensures.yields trusted) was);
  bad = well _;
}

pub returns-in_err-add_eight-clause-does : goal.returns-in_err-add_eight-clause-does
returns-in_err-add_eight-clause-does g c = failed_never_bad _ c.from_residual.ensures.0 (never_bad _ c.from_residual.ensures.1) (failed_within _ c.from_residual.ensures.0 c.in_err-add_eight.ensures.steps)
