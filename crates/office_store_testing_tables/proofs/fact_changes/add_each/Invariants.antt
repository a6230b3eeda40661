use Rattle.std.proofs.Common.{◌≤◌, ◌-◌, take, length}
use Rattle.sqlite.specs.Held.{state}
use Rattle.office_store_testing_tables.specs.Tables.{IsTrusted}
use Rattle.office_store_testing_tables.specs.steps.FactSteps.{AddsEach}
use Rattle.office_store_testing_tables.proofs.WithinLemmas.{WentWithin}
use Rattle.office_store_testing_tables.proofs.fact_changes.add_each.Given as goal

abbrev pub invariant-facts : goal.invariant-facts
invariant-facts g l = record {
  steps : WentWithin g.S.Store l.fn.tx.conn l.tx.conn;
  within : l.at ≤ length l.facts;
  changed : IsTrusted (state g.S.Store l.tx.conn.now) → AddsEach l.release (state g.S.Store l.fn.tx.conn.now).now.trees (state g.S.Store l.tx.conn.now).now.trees (take l.at l.facts);
}

abbrev pub decreases-facts : goal.decreases-facts
decreases-facts g l = length l.facts - l.at
