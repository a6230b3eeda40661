use Rattle.std.proofs.Common.{◌≡◌, map, take, Some, IfSome}
use Rattle.sqlite.specs.Held.{state}
use Rattle.office_store_testing_tables.specs.Tables.{IsTrusted, kept_rows}
use Rattle.std.specs.List.{AllByRecursion}
use Rattle.office_store_keeper.specs.Provenance.{IsArchPlace}
use Rattle.office_store_testing_tables.specs.steps.Loaded.{AreLettersOf}
use Rattle.office_store_testing_tables.specs.TableContent.{message_at}
use Rattle.office_store_testing_tables.specs.steps.TableContent.{row_of}
use Rattle.office_store_testing_tables.proofs.ReadingLemmas.{HasRead}
use Rattle.office_store_testing_tables.proofs.entries.read_rows.Given as goal

-- nothing changed, and the rows so far name the rows of testing so far
abbrev pub invariant-rows : goal.invariant-rows
invariant-rows g l = record {
  reads : HasRead g.S.Store l.fn.conn l.conn;
  last : IsTrusted (state g.S.Store l.conn) → IfSome l.last (λ kept. message_at l.setup (kept_rows ((state g.S.Store l.conn).now.trees 1)) kept.sender kept.number ≡ Some kept.message);
  known : AllByRecursion (λ r. IsArchPlace l.setup.archs r.arch) l.given.items;
  block : IsTrusted (state g.S.Store l.conn) → AreLettersOf (kept_rows ((state g.S.Store l.conn).now.trees 1)) l.block.sender l.block.letters.items;
  so_far : IsTrusted (state g.S.Store l.conn) → map (row_of l.setup (kept_rows ((state g.S.Store l.conn).now.trees 1))) (take l.row-index l.rows) ≡ map Some l.given.items;
}
