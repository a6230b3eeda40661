use Rattle.std.proofs.Common.{◌≤◌, ◌-◌, ℕ}
use Rattle.sqlite.specs.Held.{state}
use Rattle.office_store_testing_tables.specs.Tables.{IsTrusted}
use Rattle.office_store_testing_tables.proofs.ReadingLemmas.{HasRead}
use Rattle.office_store_tables.specs.steps.Reading.{IsRecorded}
use Rattle.office_store_tables.proofs.runs.are_recorded.Given as goal

-- nothing changed, and the runs so far have their reports
abbrev pub invariant-runs : goal.invariant-runs
invariant-runs g l = record {
  reads : HasRead g.S.Store l.fn.conn l.conn;
  each : IsTrusted (state g.S.Store l.conn) → (run : ℕ) → 1 ≤ run → run ≤ l.done → IsRecorded ((state g.S.Store l.conn).now.trees 3) run;
}

abbrev pub decreases-runs : goal.decreases-runs
decreases-runs g l = l.runs - l.done
