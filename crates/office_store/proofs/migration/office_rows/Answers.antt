use Rattle.std.proofs.Common.{[], List, map}
use Rattle.std.specs.List.Sorted.{IsPermutation}
use Rattle.sqlite.specs.Order.{Row}
use Rattle.sqlite.specs.Tree.{Trees}
use Rattle.sqlite.specs.Held.{state}
use Rattle.office_store_tables.specs.Texts.{office_text}
use Rattle.office_store_tables.specs.TableSteps.{office_columns}
use Rattle.office_store_tables.proofs.RunLemmas.{office_plain, shows_office}
use Rattle.office_store_tables.proofs.InsideLemmas.{AskedInside}
use Rattle.office_store_tables.proofs.StateLemmas.{lasts_survived}
use Rattle.office_store_tables.proofs.WithinLemmas.{asked_looks}
use Rattle.office_store.proofs.migration.office_rows.Goals as goal

asked : (g : _) (c : goal.After-query_all g) → AskedInside (λ r. r.items) office_text ([]) (state g.S.Store c.args.tx.now.conn.now) (state g.S.Store c.query_all.new.self.conn.now) c.query_all.result
asked g c = record {
  clean = c.query_all.ensures.survives.clean;
  limit = c.query_all.ensures.survives.limit;
  ok = c.query_all.ensures.ok;
  err = c.query_all.ensures.err;
}

pub returns : goal.returns
returns g c =
    asked_looks _ _ _ _ _ (λ (db : Trees) (rows : List Row). IsPermutation (map office_columns (db 0)) rows) c.query_all.result (asked g c) c.query_all.ensures.same_reference office_plain.0 (lasts_survived _ _ c.query_all.ensures.survives) c.requires
    (λ rows has h. shows_office _ _ rows has h)
