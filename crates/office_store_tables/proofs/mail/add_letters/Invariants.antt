use Rattle.std.proofs.Common.{◌≤◌, ◌-◌, take, length}
use Rattle.sqlite.specs.Held.{state}
use Rattle.office_store_testing_tables.specs.Tables.{IsTrusted}
use Rattle.office_store_testing_tables.specs.steps.TableSteps.{AddsLetters}
use Rattle.office_store_testing_tables.proofs.WithinLemmas.{WentWithin}
use Rattle.office_store_tables.proofs.mail.add_letters.Given as goal

abbrev pub invariant-letters : goal.invariant-letters
invariant-letters g l = record {
  steps : WentWithin g.S.Store l.fn.tx.conn l.tx.conn;
  within : l.at ≤ length l.letters;
  changed : IsTrusted (state g.S.Store l.tx.conn.now) → AddsLetters (state g.S.Store l.fn.tx.conn.now).now.trees (state g.S.Store l.tx.conn.now).now.trees (take l.at l.letters);
}

abbrev pub decreases-letters : goal.decreases-letters
decreases-letters g l = length l.letters - l.at
