-- What a DELETE makes of the trees.
use Rattle.std.proofs.Common.{◌≡◌, ◌≢◌, inl, inr, ℕ, ℤ, List, [], ◌∷◌, filter_map, slice_get, true, false, not, Some, None, Option, Ok, refl, sym, ap, subst, ◌∙◌}
use Rattle.std.proofs.lemmas.List.Sorted.{IsPermutation-sym}
use Rattle.std.specs.List.{cons_option}
use Rattle.std.specs.Ordering.{is_eq}
use Rattle.sqlite.specs.declared.types.Value.TheVariants.{Null, Int}
use Rattle.sqlite.specs.Order.{Row, value_cmp}
use Rattle.sqlite.specs.Term.{Term, col}
use Rattle.sqlite.specs.Tree.{Trees, rowid, has_rowid, without_rowid}
use Rattle.sqlite.specs.Table.{Table}
use Rattle.sqlite.specs.Schema.{Schema}
use Rattle.sqlite.specs.Program.{overlay}
use Rattle.sqlite.specs.Command.TheVariants.{Delete}
use Rattle.sqlite.specs.Rowids.TheVariants.{Given}
use Rattle.sqlite.specs.Edit.{id_in, IsNoIndex, edit_of, without_all}
use Rattle.sqlite.specs.Effect.{Database}
use Rattle.sqlite.specs.declared.run.Mode.{Mode}
use Rattle.sqlite.specs.Does.{Tally, Does, OnRows}
use Rattle.sqlite.specs.Rows.{Written, Deletes}
use Rattle.sqlite_rules.specs.Lists.{Has}
use Rattle.sqlite_rules.specs.Action.{works}
use Rattle.sqlite_rules.specs.Calls.{ids_of}
use Rattle.sqlite_rules.proofs.ListLemmas.{has_filtered, has_kept}
use Rattle.sqlite_rules.proofs.ProbeLemmas.{mapped_has}
use Rattle.sqlite_rules.proofs.TableLemmas.{without_all_has}
use Rattle.sqlite_value.proofs.OrderLemmas.{value_cmp_total}
use Rattle.std.proofs.lemmas.Cmp.{tied_itself}
use Rattle.sqlite.proofs.Callers.{one_step}
use Rattle.sqlite_schema.specs.declared.schema.Keys.TheVariants.{Enforced}
use Rattle.office_store_testing_tables.specs.Layout.{office_schema}
use Rattle.office_store_testing_tables.proofs.Compiled.{plain_query}
use Rattle.office_store_testing_tables.proofs.Answered.{passes, plain_answer}
use Rattle.office_store_testing_tables.proofs.WriteLemmas.{went, same_value, task, concluded}
use Rattle.office_store_testing_tables.proofs.MailLemmas.{has_permuted}

-- the rows that pass have gone from the table, and no row has come
pub record Deleted (schema : Schema) (table : Table) (terms : List Term) (params : Row) (db next : Trees) : Type 0 where
  pub gone : (row : Row) (id : ℤ) → Has (db table.tree) row → rowid row ≡ Int id → passes terms params row ≡ true → Has (next table.tree) row → ⊥
  pub had : (row : Row) → Has (next table.tree) row → Has (db table.tree) row
  pub others : (t : ℕ) → t ≢ table.tree → IsNoIndex schema t → next t ≡ db t

-- where each row read, and no row that reads is left, nothing is left
pub nothing_left : {E : Type 0} (read : Row → Option E) (rows next : List Row) → ((row : Row) → Has next row → Has rows row) → ((row : Row) → Has rows row → (e : E) × (read row ≡ Some e)) → filter_map read next ≡ [] → next ≡ []
nothing_left read rows [] had reads none = refl
nothing_left {E} read rows (row ∷ next) had reads none =
    let is = reads row (had row (inl refl)) in
    let one : ◌≡◌ {A = List E} (is.0 ∷ filter_map read next) [] = ap (λ o. cons_option o (filter_map read next)) (sym is.1) ∙ none in
    absurd (let e = one in cc)

pub itself : (id : ℤ) → is_eq (value_cmp (Int id) (Int id)) ≡ true
itself id = ap is_eq (tied_itself value_cmp_total (Int id))

never_left : (ids : List ℤ) (rows : List Row) (x : Row) (i : ℤ) → rowid x ≡ Int i → Has ids i → Has (without_all rows ids) x → ⊥
never_left [] rows x i is h left = absurd h
never_left (id ∷ ids) rows x i is (inl same) left =
    let f = has_filtered (λ r. not (has_rowid id r)) rows x (without_all_has ids (without_rowid id rows) x left) in
    let e : has_rowid id x ≡ true = rw (is, same) (itself id) in
    let g = rw e at f.1 in cc
never_left (id ∷ ids) rows x i is (inr later) left = never_left ids (without_rowid id rows) x i is later left

module _ (schema : Schema) (table : Table) (uncounted : table.is_counted ≡ false) (limit : Option ℕ) (mode : Mode) (params : Row) where
  pub deletes : (terms : List Term) (db : Trees) (w : Written) → overlay db [] table.tree ≡ db table.tree → ((olds : List Row) → works schema mode.keys 0 table.tree olds [] ≡ [])
      → Deletes (task schema table uncounted limit mode params) (record { lets = []; body = plain_query table.tree terms (col 1 0 ∷ []) }) db (Ok w) → Deleted schema table terms params db w.trees
  deletes terms db w plain quiet h =
      let asked = went h in
      let edited = went asked.2 in
      let trees : w.trees ≡ edited.0 = ap (λ (it : Written). it.trees) (same_value edited.2) in
      let ids = ids_of asked.0 in
      let applied = one_step schema mode.keys db edited.0 (edit_of db table ids Given 0 []) (quiet _) edited.1 in
      let shown = plain_answer table.tree terms (col 1 0 ∷ []) (overlay db []) params asked.0 (asked.1.answer Null) in
      let rows : edited.0 table.tree ≡ without_all (db table.tree) ids = applied.rows in
      subst (Deleted schema table terms params db) (sym trees) (record {
        gone = λ row id there is passed left.
            let there2 = subst (λ l. Has l row) (sym plain) there in
            let found = has_permuted asked.0 _ _ (IsPermutation-sym _ _ shown) (mapped_has _ _ row (has_kept (passes terms params) (overlay db [] table.tree) row there2 passed)) in
            never_left ids (db table.tree) row id is (subst (Has ids) (ap id_in is) (mapped_has (λ r. id_in (rowid r)) asked.0 (rowid row ∷ []) found)) (subst (λ l. Has l row) rows left);
        had = λ row now. without_all_has ids (db table.tree) row (subst (λ l. Has l row) rows now);
        others = applied.others;
      })

-- a DELETE that ran
pub deletes_some : (schema : Schema) (at : ℕ) (table : Table) (limit : Option ℕ) (mode : Mode) (params : Row) (text : List ℕ) (db : Trees) (terms : List Term) (tally : Tally) (after : Database)
    → slice_get schema.tables at ≡ Some table → table.is_counted ≡ false → overlay db [] table.tree ≡ db table.tree → ((olds : List Row) → works schema mode.keys 0 table.tree olds [] ≡ [])
    → Does limit mode params (record { schema = schema; trees = db }) text None (Delete at (record { lets = []; body = plain_query table.tree terms (col 1 0 ∷ []) })) (Ok (tally, after))
    → (after.schema ≡ schema) × Deleted schema table terms params db after.trees
deletes_some schema at table limit mode params text db terms tally after there uncounted plain quiet h =
    let on : OnRows (task schema table uncounted limit mode params) mode None (Delete at (record { lets = []; body = plain_query table.tree terms (col 1 0 ∷ []) })) db (Ok (tally, after)) = rw there at h in
    let done = went on in
    let made = deletes schema table uncounted limit mode params terms db done.0 plain quiet done.1 in
    let now = concluded schema table uncounted limit mode params done.0 tally after done.2 in
    (ap (λ (d : Database). d.schema) now, subst (λ (d : Database). Deleted schema table terms params db d.trees) (sym now) made)

-- no foreign key acts where rows leave the table of sources
sources_quiet : (olds : List Row) → works office_schema Enforced 0 4 olds [] ≡ []
sources_quiet olds = refl
