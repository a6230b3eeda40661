use Rattle.std.proofs.Common.{◌≤◌, ◌+◌, ◌-◌, length}
use Rattle.sqlite.specs.Held.{state}
use Rattle.office_store_testing_tables.specs.Tables.{IsTrusted}
use Rattle.office_store_testing_tables.specs.steps.Differences.{TableCompared}
use Rattle.office_store_testing_tables.proofs.WithinLemmas.{WentWithin}
use Rattle.office_store_testing_tables.proofs.differences.change_all.Given as goal

abbrev pub invariant-changes : goal.invariant-changes
invariant-changes g l = record {
  steps : WentWithin g.S.Store l.fn.tx.conn l.tx.conn;
  within_shown : l.at.shown ≤ length l.shown;
  within_new : l.at.entries ≤ length l.entries;
  changed : IsTrusted (state g.S.Store l.tx.conn.now) → TableCompared g.E.Entry.TABLE g.E.Entry.columns g.E.Entry.says g.E.Entry.entry (state g.S.Store l.fn.tx.conn.now).now.trees (state g.S.Store l.tx.conn.now).now.trees l.shown l.entries l.at.shown l.at.entries;
}

abbrev pub decreases-changes : goal.decreases-changes
decreases-changes g l = length l.shown + length l.entries - (l.at.shown + l.at.entries)
