use Rattle.std.proofs.Common.{◌∷◌, [], List, pos, map, filter}
use Rattle.std.specs.List.Sorted.{IsPermutation}
use Rattle.sqlite.specs.Order.{Row}
use Rattle.sqlite.specs.Tree.{Trees}
use Rattle.sqlite.specs.declared.types.Value.TheVariants.{Int}
use Rattle.sqlite.specs.Held.{state}
use Rattle.office_store_testing_tables.specs.steps.Texts.{delays_ids_text}
use Rattle.office_store_testing_tables.specs.steps.FactSteps.{id_columns, is_delays}
use Rattle.office_store_testing_tables.proofs.FactShows.{delays_ids_plain, shows_delays_ids}
use Rattle.office_store_testing_tables.proofs.InsideLemmas.{AskedInside}
use Rattle.office_store_testing_tables.proofs.StateLemmas.{lasts_survived}
use Rattle.office_store_testing_tables.proofs.WithinLemmas.{asked_looks}
use Rattle.office_store_testing_tables.proofs.fact_changes.delays_ids.Goals as goal

asked : (g : _) (c : goal.After-query_all g) → AskedInside (λ r. r.items) delays_ids_text (Int (pos c.args.number) ∷ []) (state g.S.Store c.args.tx.now.conn.now) (state g.S.Store c.query_all.new.self.conn.now) c.query_all.result
asked g c = record {
  clean = c.query_all.ensures.survives.clean;
  limit = c.query_all.ensures.survives.limit;
  ok = rw c.params-to_sql.ensures at c.query_all.ensures.ok;
  err = rw c.params-to_sql.ensures at c.query_all.ensures.err;
}

pub returns : goal.returns
returns g c =
    asked_looks _ _ _ _ _ (λ (db : Trees) (rows : List Row). IsPermutation (map id_columns (filter (is_delays c.args.number) (db 10))) rows) c.query_all.result (asked g c) c.query_all.ensures.same_reference delays_ids_plain.0 (lasts_survived _ _ c.query_all.ensures.survives) c.requires
    (λ rows has h. shows_delays_ids c.args.number _ _ rows has h)
