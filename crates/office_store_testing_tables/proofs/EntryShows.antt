-- What the statements on testing show.
use Rattle.std.proofs.Common.{◌≡◌, [], ◌∷◌, List, map, false, refl, codes, subst}
use Rattle.std.specs.List.Sorted.{IsPermutation}
use Rattle.sqlite_tied.specs.Compute.{everything}
use Rattle.sqlite.specs.declared.types.Value.TheVariants.{Null}
use Rattle.sqlite.specs.Order.{Row}
use Rattle.sqlite.specs.Term.{col}
use Rattle.sqlite.specs.Query.{Query}
use Rattle.sqlite.specs.Command.TheVariants.{Select}
use Rattle.sqlite.specs.Program.{overlay}
use Rattle.sqlite.specs.State.{State, Shown}
use Rattle.sqlite.specs.Effect.{Answers}
use Rattle.sqlite.specs.Listing.{understood, reads_listing}
use Rattle.sqlite.proofs.Callers.{IsPlain, command_of, reads_as}
use Rattle.office_store_testing_tables.specs.Layout.{office_schema}
use Rattle.office_store_testing_tables.specs.steps.Texts.{sources_text, rows_text}
use Rattle.office_store_testing_tables.specs.steps.EntrySteps.{source_columns, entry_columns}
use Rattle.office_store_testing_tables.proofs.Compiled.{plain_query}
use Rattle.office_store_testing_tables.proofs.Answered.{plain_answer}
use Rattle.office_store_testing_tables.proofs.MailLemmas.{filter_all}

-- ---- sources

abbrev sources_query : Query
sources_query = plain_query 4 [] (col 1 0 ∷ col 1 1 ∷ col 1 2 ∷ col 1 3 ∷ [])

sources_is : command_of (understood office_schema sources_text) ≡ Select (record { lets = []; body = sources_query }) (codes "rowid" ∷ codes "name" ∷ codes "sender" ∷ codes "number" ∷ [])
unfolding understood everything
sources_is = refl

pub sources_plain : IsPlain (understood office_schema sources_text) × (reads_listing office_schema sources_text ≡ false)
unfolding understood everything
sources_plain = ((refl, refl), refl)

pub shows_sources : (old new : State) (rows : List Row) → old.now.schema ≡ office_schema → Shown sources_text [] old new rows → IsPermutation (map source_columns (old.now.trees 4)) rows
shows_sources old new rows has h =
    let got : Answers old.now (record { lets = []; body = sources_query }) [] rows = reads_as sources_text [] old new office_schema has _ sources_is sources_plain.0 sources_plain.1 rows h in
    let answer = plain_answer 4 [] sources_query.project (overlay old.now.trees []) [] rows (got.answer Null) in
    subst (λ l. IsPermutation (map source_columns l) rows) (filter_all _ (λ row. refl) (old.now.trees 4)) answer

-- ---- rows

abbrev rows_query : Query
rows_query = plain_query 6 [] (col 1 0 ∷ col 1 1 ∷ col 1 2 ∷ col 1 3 ∷ col 1 4 ∷ col 1 5 ∷ [])

rows_is : command_of (understood office_schema rows_text) ≡ Select (record { lets = []; body = rows_query }) (codes "rowid" ∷ codes "arch" ∷ codes "name" ∷ codes "sender" ∷ codes "number" ∷ codes "place" ∷ [])
unfolding understood everything
rows_is = refl

pub rows_plain : IsPlain (understood office_schema rows_text) × (reads_listing office_schema rows_text ≡ false)
unfolding understood everything
rows_plain = ((refl, refl), refl)

pub shows_rows : (old new : State) (rows : List Row) → old.now.schema ≡ office_schema → Shown rows_text [] old new rows → IsPermutation (map entry_columns (old.now.trees 6)) rows
shows_rows old new rows has h =
    let got : Answers old.now (record { lets = []; body = rows_query }) [] rows = reads_as rows_text [] old new office_schema has _ rows_is rows_plain.0 rows_plain.1 rows h in
    let answer = plain_answer 6 [] rows_query.project (overlay old.now.trees []) [] rows (got.answer Null) in
    subst (λ l. IsPermutation (map entry_columns l) rows) (filter_all _ (λ row. refl) (old.now.trees 6)) answer
