use Rattle.std.proofs.Common.{take}
use Rattle.sqlite.specs.Held.{state}
use Rattle.office_store_testing_tables.specs.Tables.{IsTrusted}
use Rattle.office_store_testing_tables.specs.steps.FactSteps.{DropsEach}
use Rattle.office_store_testing_tables.proofs.WithinLemmas.{WentWithin}
use Rattle.office_store_testing_tables.proofs.fact_changes.drop_each.Given as goal

abbrev pub invariant-facts : goal.invariant-facts
invariant-facts g l = record {
  steps : WentWithin g.S.Store l.fn.tx.conn l.tx.conn;
  changed : IsTrusted (state g.S.Store l.tx.conn.now) → DropsEach l.release (state g.S.Store l.fn.tx.conn.now).now.trees (state g.S.Store l.tx.conn.now).now.trees (take l.fact-index l.facts);
}
