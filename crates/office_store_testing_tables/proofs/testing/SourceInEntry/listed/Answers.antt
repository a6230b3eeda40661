use Rattle.std.proofs.Common.{List, [], map}
use Rattle.std.specs.List.Sorted.{IsPermutation}
use Rattle.sqlite.specs.Order.{Row}
use Rattle.sqlite.specs.Tree.{Trees}
use Rattle.sqlite.specs.Held.{state}
use Rattle.office_store_testing_tables.specs.steps.Texts.{sources_text}
use Rattle.office_store_testing_tables.specs.steps.EntrySteps.{source_columns}
use Rattle.office_store_testing_tables.proofs.EntryShows.{sources_plain, shows_sources}
use Rattle.office_store_testing_tables.proofs.InsideLemmas.{AskedInside}
use Rattle.office_store_testing_tables.proofs.StateLemmas.{lasts_survived}
use Rattle.office_store_testing_tables.proofs.WithinLemmas.{asked_looks}
use Rattle.office_store_testing_tables.proofs.testing.SourceInEntry.listed.Goals as goal

asked : (g : _) (c : goal.After-query_all g) → AskedInside (λ r. r.items) sources_text [] (state g.S.Store c.args.tx.now.conn.now) (state g.S.Store c.query_all.new.self.conn.now) c.query_all.result
asked g c = record {
  clean = c.query_all.ensures.survives.clean;
  limit = c.query_all.ensures.survives.limit;
  ok = c.query_all.ensures.ok;
  err = c.query_all.ensures.err;
}

pub returns : goal.returns
returns g c =
    asked_looks _ _ _ _ _ (λ (db : Trees) (rows : List Row). IsPermutation (map source_columns (db 4)) rows) c.query_all.result (asked g c) c.query_all.ensures.same_reference sources_plain.0 (lasts_survived _ _ c.query_all.ensures.survives) c.requires
    (λ rows has h. shows_sources _ _ rows has h)
