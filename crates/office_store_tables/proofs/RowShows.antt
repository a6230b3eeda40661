-- How many rows the tables of mail and of runs have.
use Rattle.std.proofs.Common.{◌≡◌, [], ◌∷◌, List, map, false, refl, codes, subst}
use Rattle.std.specs.List.Sorted.{IsPermutation}
use Rattle.sqlite_tied.specs.Compute.{everything}
use Rattle.sqlite.specs.declared.types.Value.TheVariants.{Null}
use Rattle.sqlite.specs.Order.{Row}
use Rattle.sqlite.specs.Term.{col}
use Rattle.sqlite.specs.Query.{Query}
use Rattle.sqlite.specs.Command.TheVariants.{Select}
use Rattle.sqlite.specs.Program.{overlay}
use Rattle.sqlite.specs.State.{State, Shown}
use Rattle.sqlite.specs.Effect.{Answers}
use Rattle.sqlite.specs.Listing.{understood, reads_listing}
use Rattle.sqlite.proofs.Callers.{IsPlain, command_of, reads_as}
use Rattle.office_store_testing_tables.specs.Layout.{office_schema}
use Rattle.office_store_testing_tables.specs.steps.Texts.{mail_rowids_text, run_numbers_text}
use Rattle.office_store_testing_tables.specs.steps.TableSteps.{rowid_column}
use Rattle.office_store_testing_tables.proofs.Compiled.{plain_query}
use Rattle.office_store_testing_tables.proofs.Answered.{plain_answer}
use Rattle.office_store_testing_tables.proofs.MailLemmas.{filter_all}

-- ---- mail

abbrev mail_query : Query
mail_query = plain_query 1 [] (col 1 0 ∷ [])

mail_is : command_of (understood office_schema mail_rowids_text) ≡ Select (record { lets = []; body = mail_query }) (codes "rowid" ∷ [])
unfolding understood everything
mail_is = refl

pub mail_plain : IsPlain (understood office_schema mail_rowids_text) × (reads_listing office_schema mail_rowids_text ≡ false)
unfolding understood everything
mail_plain = ((refl, refl), refl)

pub shows_mail : (old new : State) (rows : List Row) → old.now.schema ≡ office_schema → Shown mail_rowids_text [] old new rows → IsPermutation (map rowid_column (old.now.trees 1)) rows
shows_mail old new rows has h =
    let got : Answers old.now (record { lets = []; body = mail_query }) [] rows = reads_as mail_rowids_text [] old new office_schema has _ mail_is mail_plain.0 mail_plain.1 rows h in
    let answer = plain_answer 1 [] mail_query.project (overlay old.now.trees []) [] rows (got.answer Null) in
    subst (λ l. IsPermutation (map rowid_column l) rows) (filter_all _ (λ row. refl) (old.now.trees 1)) answer

-- ---- runs

abbrev run_query : Query
run_query = plain_query 3 [] (col 1 0 ∷ [])

run_is : command_of (understood office_schema run_numbers_text) ≡ Select (record { lets = []; body = run_query }) (codes "number" ∷ [])
unfolding understood everything
run_is = refl

pub run_plain : IsPlain (understood office_schema run_numbers_text) × (reads_listing office_schema run_numbers_text ≡ false)
unfolding understood everything
run_plain = ((refl, refl), refl)

pub shows_numbers : (old new : State) (rows : List Row) → old.now.schema ≡ office_schema → Shown run_numbers_text [] old new rows → IsPermutation (map rowid_column (old.now.trees 3)) rows
shows_numbers old new rows has h =
    let got : Answers old.now (record { lets = []; body = run_query }) [] rows = reads_as run_numbers_text [] old new office_schema has _ run_is run_plain.0 run_plain.1 rows h in
    let answer = plain_answer 3 [] run_query.project (overlay old.now.trees []) [] rows (got.answer Null) in
    subst (λ l. IsPermutation (map rowid_column l) rows) (filter_all _ (λ row. refl) (old.now.trees 3)) answer
