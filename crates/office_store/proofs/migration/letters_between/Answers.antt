use Rattle.std.proofs.Common.{◌∷◌, [], List, pos, map, filter}
use Rattle.std.specs.List.Sorted.{IsPermutation}
use Rattle.sqlite.specs.Order.{Row}
use Rattle.sqlite.specs.Tree.{Trees}
use Rattle.sqlite.specs.declared.types.Value.TheVariants.{Int}
use Rattle.sqlite.specs.Held.{state}
use Rattle.office_store_tables.specs.Texts.{load_text}
use Rattle.office_store_tables.specs.TableSteps.{is_between, letter_columns}
use Rattle.office_store_tables.proofs.LoadLemmas.{load_plain, shows_between}
use Rattle.office_store_tables.proofs.InsideLemmas.{AskedInside}
use Rattle.office_store_tables.proofs.StateLemmas.{lasts_survived}
use Rattle.office_store_tables.proofs.WithinLemmas.{asked_looks}
use Rattle.office_store.proofs.migration.letters_between.Goals as goal

asked : (g : _) (c : goal.After-query_all g) → AskedInside (λ r. r.items) load_text (Int (pos c.args.sender) ∷ Int (pos c.args.from) ∷ Int (pos c.args.to) ∷ []) (state g.S.Store c.args.tx.now.conn.now) (state g.S.Store c.query_all.new.self.conn.now) c.query_all.result
asked g c = record {
  clean = c.query_all.ensures.survives.clean;
  limit = c.query_all.ensures.survives.limit;
  ok = rw (c.params-to_sql.ensures, c.params-to_sql-2.ensures, c.params-to_sql-3.ensures) at c.query_all.ensures.ok;
  err = rw (c.params-to_sql.ensures, c.params-to_sql-2.ensures, c.params-to_sql-3.ensures) at c.query_all.ensures.err;
}

pub returns : goal.returns
returns g c =
    asked_looks _ _ _ _ _ (λ (db : Trees) (rows : List Row). IsPermutation (map letter_columns (filter (is_between c.args.sender c.args.from c.args.to) (db 1))) rows) c.query_all.result (asked g c) c.query_all.ensures.same_reference load_plain.0 (lasts_survived _ _ c.query_all.ensures.survives) c.requires
    (λ rows has h. shows_between c.args.sender c.args.from c.args.to _ _ rows has h)
