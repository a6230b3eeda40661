-- What a DELETE by the rowid makes of the trees, and how many rows it counts.
use Rattle.std.proofs.Common.{◌≡◌, ◌≢◌, ℕ, ℤ, List, [], ◌∷◌, map, filter, length, slice_get, false, Some, None, Option, Ok, unwrap_or, sym, ap, subst, ◌∙◌}
use Rattle.std.proofs.lemmas.List.{length-map}
use Rattle.std.specs.List.Sorted.{IsPermutation}
use Rattle.sqlite_tied.proofs.RuleLemmas.{and_true}
use Rattle.sqlite.specs.declared.types.Value.TheVariants.{Null, Int}
use Rattle.sqlite.specs.Order.{Row, column}
use Rattle.sqlite.specs.Term.{Term, col}
use Rattle.sqlite.specs.Tree.{Trees, rowid, has_rowid}
use Rattle.sqlite.specs.Table.{Table}
use Rattle.sqlite.specs.Schema.{Schema}
use Rattle.sqlite.specs.Program.{overlay}
use Rattle.sqlite.specs.Command.TheVariants.{Delete}
use Rattle.sqlite.specs.Rowids.TheVariants.{Given}
use Rattle.sqlite.specs.Edit.{id_in, IsNoIndex, edit_of, without_all}
use Rattle.sqlite.specs.Effect.{Database}
use Rattle.sqlite.specs.declared.run.Mode.{Mode}
use Rattle.sqlite.specs.Does.{Tally, Does, OnRows, Concludes}
use Rattle.sqlite.specs.Rows.{Written, Deletes}
use Rattle.sqlite_rules.specs.Action.{works}
use Rattle.sqlite_rules.specs.Calls.{ids_of}
use Rattle.sqlite.proofs.Callers.{one_step}
use Rattle.office_store_testing_tables.specs.steps.FactSteps.{id_columns}
use Rattle.office_store_testing_tables.specs.steps.ChangedTables.{TakesOut}
use Rattle.office_store_testing_tables.proofs.Compiled.{plain_query, equals}
use Rattle.office_store_testing_tables.proofs.Answered.{passes, plain_answer}
use Rattle.office_store_testing_tables.proofs.WriteLemmas.{went, same_value, task, concluded}
use Rattle.office_store_testing_tables.proofs.MailLemmas.{equal_is, filter_same, as_many, single_of, only_shown}

-- rows were taken out of a table by their rowid, and the indexes follow it
pub record Taken (schema : Schema) (table : Table) (db next : Trees) (id : ℤ) (count : ℕ) : Type 0 where
  pub taken : TakesOut (db table.tree) (next table.tree) id count
  pub others : (t : ℕ) → t ≢ table.tree → IsNoIndex schema t → next t ≡ db t

abbrev pub id_terms : List Term
id_terms = equals (col 1 0) (col 0 0) ∷ []

id_passes : (id : ℤ) (row : Row) → passes id_terms (Int id ∷ []) row ≡ has_rowid id row
id_passes id row = rw (equal_is (column row 0) id) (and_true _)

-- the rowids of the only row that has this one
only_ids : (id : ℤ) (rows asked : List Row) (row : Row) → IsPermutation (map id_columns (filter (has_rowid id) rows)) asked → filter (has_rowid id) rows ≡ row ∷ [] → rowid row ≡ Int id → ids_of asked ≡ id ∷ []
only_ids id rows asked row found one is =
    let count : length asked ≡ 1 = sym (as_many id_columns (filter (has_rowid id) rows) asked found) ∙ ap length one in
    let z = single_of asked count in
    let o = only_shown id_columns (filter (has_rowid id) rows) z.0 (subst (IsPermutation (map id_columns (filter (has_rowid id) rows))) z.1 found) in
    let same : row ≡ o.0 = (let e : row ∷ [] ≡ o.0 ∷ [] = sym one ∙ o.1 in cc) in
    ap ids_of z.1 ∙ ap (λ (r : Row). id_in (rowid r) ∷ []) o.2 ∙ ap (λ (r : Row). id_in (rowid r) ∷ []) (sym same) ∙ ap (λ v. id_in v ∷ []) is

module _ (schema : Schema) (table : Table) (uncounted : table.is_counted ≡ false) (limit : Option ℕ) (mode : Mode) (id : ℤ) where
  takes : (db : Trees) (w : Written) → overlay db [] table.tree ≡ db table.tree → ((olds : List Row) → works schema mode.keys 0 table.tree olds [] ≡ [])
      → Deletes (task schema table uncounted limit mode (Int id ∷ [])) (record { lets = []; body = plain_query table.tree id_terms (col 1 0 ∷ []) }) db (Ok w) → Taken schema table db w.trees id (length w.rows)
  takes db w plain quiet h =
      let asked = went h in
      let edited = went asked.2 in
      let is = same_value edited.2 in
      let ids = ids_of asked.0 in
      let applied = one_step schema mode.keys db edited.0 (edit_of db table ids Given 0 []) (quiet _) edited.1 in
      let shown = plain_answer table.tree id_terms (col 1 0 ∷ []) (overlay db []) (Int id ∷ []) asked.0 (asked.1.answer Null) in
      let found : IsPermutation (map id_columns (filter (has_rowid id) (db table.tree))) asked.0 =
      subst (λ l. IsPermutation (map id_columns l) asked.0) (ap (filter (passes id_terms (Int id ∷ []))) plain ∙ filter_same _ _ (id_passes id) (db table.tree)) shown in
      let trees : w.trees ≡ edited.0 = ap (λ (it : Written). it.trees) is in
      let rows : edited.0 table.tree ≡ without_all (db table.tree) ids = applied.rows in
      let many : length w.rows ≡ length (filter (has_rowid id) (db table.tree)) =
      ap (λ (it : Written). length it.rows) is ∙ length-map _ _ ∙ length-map _ _ ∙ sym (as_many id_columns (filter (has_rowid id) (db table.tree)) asked.0 found) in
      subst (λ (t : Trees). Taken schema table db t id (length w.rows)) (sym trees) (record {
        taken = record {
          counted = many;
          left = λ row one own. rows ∙ ap (without_all (db table.tree)) (only_ids id (db table.tree) asked.0 row found one own);
        };
        others = applied.others;
      })

  tallied : (w : Written) (tally : Tally) (after : Database) → Concludes (task schema table uncounted limit mode (Int id ∷ [])) mode None w (Ok (tally, after)) → unwrap_or tally.rows 0 ≡ length w.rows
  tallied w tally after h = ap (λ (p : Tally × Database). unwrap_or p.0.rows 0) (same_value (went (went h).2).2)

-- a DELETE by the rowid that ran
pub takes_by_id : (schema : Schema) (at : ℕ) (table : Table) (limit : Option ℕ) (mode : Mode) (id : ℤ) (text : List ℕ) (db : Trees) (tally : Tally) (after : Database)
    → slice_get schema.tables at ≡ Some table → table.is_counted ≡ false → overlay db [] table.tree ≡ db table.tree → ((olds : List Row) → works schema mode.keys 0 table.tree olds [] ≡ [])
    → Does limit mode (Int id ∷ []) (record { schema = schema; trees = db }) text None (Delete at (record { lets = []; body = plain_query table.tree id_terms (col 1 0 ∷ []) })) (Ok (tally, after))
    → (after.schema ≡ schema) × Taken schema table db after.trees id (unwrap_or tally.rows 0)
takes_by_id schema at table limit mode id text db tally after there uncounted plain quiet h =
    let on : OnRows (task schema table uncounted limit mode (Int id ∷ [])) mode None (Delete at (record { lets = []; body = plain_query table.tree id_terms (col 1 0 ∷ []) })) db (Ok (tally, after)) = rw there at h in
    let done = went on in
    let made = takes schema table uncounted limit mode id db done.0 plain quiet done.1 in
    let now = concluded schema table uncounted limit mode (Int id ∷ []) done.0 tally after done.2 in
    let many = tallied schema table uncounted limit mode id done.0 tally after done.2 in
    (ap (λ (d : Database). d.schema) now, subst (λ n. Taken schema table db after.trees id n) (sym many) (subst (λ (d : Database). Taken schema table db d.trees id (length done.0.rows)) (sym now) made))
