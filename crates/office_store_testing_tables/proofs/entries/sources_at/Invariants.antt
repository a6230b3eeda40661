use Rattle.std.proofs.Common.{◌≡◌, map, take, Some}
use Rattle.sqlite.specs.Held.{state}
use Rattle.office_store_testing_tables.specs.Tables.{IsTrusted, kept_rows}
use Rattle.office_store_testing_tables.specs.steps.Loaded.{AreLettersOf}
use Rattle.office_store_testing_tables.specs.steps.TableContent.{source_of}
use Rattle.office_store_testing_tables.proofs.ReadingLemmas.{HasRead}
use Rattle.office_store_testing_tables.proofs.entries.sources_at.Given as goal

-- nothing changed, and the rows so far name the sources so far
abbrev pub invariant-rows : goal.invariant-rows
invariant-rows g l = record {
  reads : HasRead g.S.Store l.fn.conn l.conn;
  block : IsTrusted (state g.S.Store l.conn) → AreLettersOf (kept_rows ((state g.S.Store l.conn).now.trees 1)) l.block.sender l.block.letters.items;
  so_far : IsTrusted (state g.S.Store l.conn) → map (source_of l.setup (kept_rows ((state g.S.Store l.conn).now.trees 1))) (take l.row-index l.rows) ≡ map Some l.sources.items;
}
