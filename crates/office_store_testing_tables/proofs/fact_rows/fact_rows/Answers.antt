use Rattle.std.proofs.Common.{[], List, map}
use Rattle.std.specs.List.Sorted.{IsPermutation}
use Rattle.sqlite.specs.Order.{Row}
use Rattle.sqlite.specs.Tree.{Trees}
use Rattle.sqlite.specs.Held.{state}
use Rattle.office_store_testing_tables.specs.steps.Texts.{facts_text}
use Rattle.office_store_testing_tables.specs.steps.FactSteps.{fact_columns}
use Rattle.office_store_testing_tables.proofs.StateLemmas.{Asked, lasts_survived}
use Rattle.office_store_testing_tables.proofs.FactShows.{shows_facts, facts_plain}
use Rattle.office_store_testing_tables.proofs.ReadingLemmas.{asked_reads}
use Rattle.office_store_testing_tables.proofs.fact_rows.fact_rows.Goals as goal

asked : (g : _) (c : goal.After-query_all g) → Asked (λ r. r.items) facts_text [] (state g.S.Store c.args.conn.now) (state g.S.Store c.query_all.new.self) c.query_all.result
asked g c = record { clean = c.query_all.ensures.survives.clean; limit = c.query_all.ensures.survives.limit; ok = c.query_all.ensures.ok; err = c.query_all.ensures.err }

pub returns : goal.returns
returns g c =
    asked_reads _ _ _ _ _ (λ (db : Trees) (rows : List Row). IsPermutation (map fact_columns (db 8)) rows) c.query_all.result (asked g c) facts_plain.0 (lasts_survived _ _ c.query_all.ensures.survives) c.requires
    (λ rows has h. shows_facts _ _ rows has h)
