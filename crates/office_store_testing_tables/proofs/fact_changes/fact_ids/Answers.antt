use Rattle.std.proofs.Common.{List, map, filter}
use Rattle.std.specs.List.Sorted.{IsPermutation}
use Rattle.sqlite.specs.Order.{Row}
use Rattle.sqlite.specs.Tree.{Trees}
use Rattle.sqlite.specs.Held.{state}
use Rattle.office_store_testing_tables.specs.steps.Texts.{fact_ids_text}
use Rattle.office_store_testing_tables.specs.steps.FactSteps.{id_columns, is_fact}
use Rattle.office_store_testing_tables.proofs.FactShows.{fact_ids_plain, shows_fact_ids, fact_params}
use Rattle.office_store_testing_tables.proofs.InsideLemmas.{AskedInside}
use Rattle.office_store_testing_tables.proofs.StateLemmas.{lasts_survived}
use Rattle.office_store_testing_tables.proofs.WithinLemmas.{asked_looks}
use Rattle.office_store_testing_tables.proofs.fact_changes.fact_ids.Goals as goal

asked : (g : _) (c : goal.After-query_all g) → AskedInside (λ r. r.items) fact_ids_text (fact_params (record { kind = c.args.kind; sender = c.args.sender; number = c.args.number; place = c.args.place })) (state g.S.Store c.args.tx.now.conn.now) (state g.S.Store c.query_all.new.self.conn.now) c.query_all.result
asked g c = record {
  clean = c.query_all.ensures.survives.clean;
  limit = c.query_all.ensures.survives.limit;
  ok = rw (c.params-to_sql.ensures, c.params-to_sql-2.ensures, c.params-to_sql-3.ensures, c.params-to_sql-4.ensures, c.number-kind.ensures) at c.query_all.ensures.ok;
  err = rw (c.params-to_sql.ensures, c.params-to_sql-2.ensures, c.params-to_sql-3.ensures, c.params-to_sql-4.ensures, c.number-kind.ensures) at c.query_all.ensures.err;
}

pub returns : goal.returns
returns g c =
    asked_looks _ _ _ _ _ (λ (db : Trees) (rows : List Row). IsPermutation (map id_columns (filter (is_fact (record { kind = c.args.kind; sender = c.args.sender; number = c.args.number; place = c.args.place })) (db 8))) rows) c.query_all.result (asked g c) c.query_all.ensures.same_reference fact_ids_plain.0 (lasts_survived _ _ c.query_all.ensures.survives) c.requires
    (λ rows has h. shows_fact_ids (record { kind = c.args.kind; sender = c.args.sender; number = c.args.number; place = c.args.place }) _ _ rows has h)
