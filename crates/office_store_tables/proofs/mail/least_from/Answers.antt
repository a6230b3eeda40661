use Rattle.std.proofs.Common.{◌∷◌, [], List, pos}
use Rattle.sqlite.specs.Order.{Row}
use Rattle.sqlite.specs.Tree.{Trees}
use Rattle.sqlite.specs.declared.types.Value.TheVariants.{Int}
use Rattle.sqlite.specs.Held.{state}
use Rattle.office_store_testing_tables.specs.steps.Texts.{next_text}
use Rattle.office_store_testing_tables.specs.steps.TableSteps.{ShowsLeast}
use Rattle.office_store_testing_tables.proofs.StateLemmas.{Asked, lasts_survived}
use Rattle.office_store_tables.proofs.NextFacts.{next_plain, shows_least}
use Rattle.office_store_testing_tables.proofs.ReadingLemmas.{asked_reads}
use Rattle.office_store_tables.proofs.mail.least_from.Goals as goal

asked : (g : _) (c : goal.After-query_all g) → Asked (λ r. r.items) next_text (Int (pos c.args.sender) ∷ Int (pos c.args.from) ∷ []) (state g.S.Store c.args.conn.now) (state g.S.Store c.query_all.new.self) c.query_all.result
asked g c = record {
  clean = c.query_all.ensures.survives.clean;
  limit = c.query_all.ensures.survives.limit;
  ok = rw (c.params-to_sql.ensures, c.params-to_sql-2.ensures) at c.query_all.ensures.ok;
  err = rw (c.params-to_sql.ensures, c.params-to_sql-2.ensures) at c.query_all.ensures.err;
}

pub returns : goal.returns
returns g c =
    asked_reads _ _ _ _ _ (λ (db : Trees) (rows : List Row). ShowsLeast c.args.sender c.args.from (db 1) rows) c.query_all.result (asked g c) next_plain.0 (lasts_survived _ _ c.query_all.ensures.survives) c.requires
    (λ rows has h. shows_least c.args.sender c.args.from _ _ rows has h)
