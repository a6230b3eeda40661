use Rattle.std.proofs.Common.{◌∷◌, [], List, pos, map, filter}
use Rattle.std.specs.List.Sorted.{IsPermutation}
use Rattle.sqlite.specs.Order.{Row}
use Rattle.sqlite.specs.Tree.{Trees}
use Rattle.sqlite.specs.declared.types.Value.TheVariants.{Int}
use Rattle.sqlite.specs.Held.{state}
use Rattle.office_store_testing_tables.specs.steps.Texts.{reports_text}
use Rattle.office_store_testing_tables.specs.steps.TableSteps.{is_run, run_columns}
use Rattle.office_store_testing_tables.proofs.StateLemmas.{Asked, lasts_survived}
use Rattle.office_store_tables.proofs.RunLemmas.{shows_runs, reports_plain}
use Rattle.office_store_testing_tables.proofs.ReadingLemmas.{asked_reads}
use Rattle.office_store_tables.proofs.runs.run_rows.Goals as goal

asked : (g : _) (c : goal.After-query_all g) → Asked (λ r. r.items) reports_text (Int (pos c.args.run) ∷ []) (state g.S.Store c.args.conn.now) (state g.S.Store c.query_all.new.self) c.query_all.result
asked g c = record {
  clean = c.query_all.ensures.survives.clean;
  limit = c.query_all.ensures.survives.limit;
  ok = rw c.params-to_sql.ensures at c.query_all.ensures.ok;
  err = rw c.params-to_sql.ensures at c.query_all.ensures.err;
}

pub returns : goal.returns
returns g c =
    asked_reads _ _ _ _ _ (λ (db : Trees) (rows : List Row). IsPermutation (map run_columns (filter (is_run c.args.run) (db 3))) rows) c.query_all.result (asked g c) reports_plain.0 (lasts_survived _ _ c.query_all.ensures.survives) c.requires
    (λ rows has h. shows_runs c.args.run _ _ rows has h)
