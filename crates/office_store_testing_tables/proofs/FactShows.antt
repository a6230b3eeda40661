-- What the statements on facts show.
use Rattle.std.proofs.Common.{◌≡◌, [], ◌∷◌, List, ℕ, pos, map, filter, false, ◌&&◌, refl, codes, ap, subst}
use Rattle.std.specs.List.Sorted.{IsPermutation}
use Rattle.std.specs.Ordering.{is_eq}
use Rattle.sqlite_tied.specs.Compute.{everything}
use Rattle.sqlite_tied.proofs.RuleLemmas.{and_true}
use Rattle.sqlite.specs.declared.types.Value.TheVariants.{Null, Int}
use Rattle.sqlite.specs.Order.{Row, column, value_cmp}
use Rattle.sqlite.specs.Term.{col}
use Rattle.sqlite.specs.Query.{Query}
use Rattle.sqlite.specs.Command.TheVariants.{Select}
use Rattle.sqlite.specs.Program.{overlay}
use Rattle.sqlite.specs.State.{State, Shown}
use Rattle.sqlite.specs.Effect.{Answers}
use Rattle.sqlite.specs.Listing.{understood, reads_listing}
use Rattle.sqlite.proofs.Callers.{IsPlain, command_of, reads_as}
use Rattle.testing_rules_model.specs.declared.fact_row.FactRow.{FactRow}
use Rattle.testing_rules_model.specs.FactRows.{number_of}
use Rattle.office_store_testing_tables.specs.Layout.{office_schema}
use Rattle.office_store_testing_tables.specs.steps.Texts.{facts_text, delays_text, fact_ids_text, delays_ids_text}
use Rattle.office_store_testing_tables.specs.steps.FactSteps.{fact_columns, delays_columns, id_columns, is_fact, is_delays}
use Rattle.office_store_testing_tables.proofs.Compiled.{plain_query, equals}
use Rattle.office_store_testing_tables.proofs.Answered.{passes, plain_answer}
use Rattle.office_store_testing_tables.proofs.MailLemmas.{equal_is, filter_same, filter_all}

-- ---- all rows

abbrev facts_query : Query
facts_query = plain_query 8 [] (col 1 0 ∷ col 1 1 ∷ col 1 2 ∷ col 1 3 ∷ col 1 4 ∷ [])

facts_is : command_of (understood office_schema facts_text) ≡ Select (record { lets = []; body = facts_query }) (codes "rowid" ∷ codes "kind" ∷ codes "sender" ∷ codes "number" ∷ codes "place" ∷ [])
unfolding understood everything
facts_is = refl

pub facts_plain : IsPlain (understood office_schema facts_text) × (reads_listing office_schema facts_text ≡ false)
unfolding understood everything
facts_plain = ((refl, refl), refl)

pub shows_facts : (old new : State) (rows : List Row) → old.now.schema ≡ office_schema → Shown facts_text [] old new rows → IsPermutation (map fact_columns (old.now.trees 8)) rows
shows_facts old new rows has h =
    let got : Answers old.now (record { lets = []; body = facts_query }) [] rows = reads_as facts_text [] old new office_schema has _ facts_is facts_plain.0 facts_plain.1 rows h in
    let answer = plain_answer 8 [] facts_query.project (overlay old.now.trees []) [] rows (got.answer Null) in
    subst (λ l. IsPermutation (map fact_columns l) rows) (filter_all _ (λ row. refl) (old.now.trees 8)) answer

abbrev delays_query : Query
delays_query = plain_query 10 [] (col 1 0 ∷ col 1 2 ∷ [])

delays_is : command_of (understood office_schema delays_text) ≡ Select (record { lets = []; body = delays_query }) (codes "id" ∷ codes "number" ∷ [])
unfolding understood everything
delays_is = refl

pub delays_plain : IsPlain (understood office_schema delays_text) × (reads_listing office_schema delays_text ≡ false)
unfolding understood everything
delays_plain = ((refl, refl), refl)

pub shows_delays : (old new : State) (rows : List Row) → old.now.schema ≡ office_schema → Shown delays_text [] old new rows → IsPermutation (map delays_columns (old.now.trees 10)) rows
shows_delays old new rows has h =
    let got : Answers old.now (record { lets = []; body = delays_query }) [] rows = reads_as delays_text [] old new office_schema has _ delays_is delays_plain.0 delays_plain.1 rows h in
    let answer = plain_answer 10 [] delays_query.project (overlay old.now.trees []) [] rows (got.answer Null) in
    subst (λ l. IsPermutation (map delays_columns l) rows) (filter_all _ (λ row. refl) (old.now.trees 10)) answer

-- ---- rowids

abbrev fact_ids_query : Query
fact_ids_query = plain_query 8 (equals (col 1 1) (col 0 0) ∷ equals (col 1 2) (col 0 1) ∷ equals (col 1 3) (col 0 2) ∷ equals (col 1 4) (col 0 3) ∷ []) (col 1 0 ∷ [])

fact_ids_is : command_of (understood office_schema fact_ids_text) ≡ Select (record { lets = []; body = fact_ids_query }) (codes "rowid" ∷ [])
unfolding understood everything
fact_ids_is = refl

pub fact_ids_plain : IsPlain (understood office_schema fact_ids_text) × (reads_listing office_schema fact_ids_text ≡ false)
unfolding understood everything
fact_ids_plain = ((refl, refl), refl)

abbrev pub fact_params : FactRow → Row
fact_params fact = Int (pos (number_of fact.kind)) ∷ Int (pos fact.sender) ∷ Int (pos fact.number) ∷ Int (pos fact.place) ∷ []

fact_passes : (fact : FactRow) (row : Row) → passes fact_ids_query.filter (fact_params fact) row ≡ is_fact fact row
fact_passes fact row =
    rw (equal_is (column row 1) (pos (number_of fact.kind)), equal_is (column row 2) (pos fact.sender), equal_is (column row 3) (pos fact.number), equal_is (column row 4) (pos fact.place))
    (ap (λ b. is_eq (value_cmp (column row 1) (Int (pos (number_of fact.kind)))) && (is_eq (value_cmp (column row 2) (Int (pos fact.sender))) && (is_eq (value_cmp (column row 3) (Int (pos fact.number))) && b))) (and_true _))

pub shows_fact_ids : (fact : FactRow) (old new : State) (rows : List Row) → old.now.schema ≡ office_schema → Shown fact_ids_text (fact_params fact) old new rows → IsPermutation (map id_columns (filter (is_fact fact) (old.now.trees 8))) rows
shows_fact_ids fact old new rows has h =
    let got : Answers old.now (record { lets = []; body = fact_ids_query }) (fact_params fact) rows = reads_as fact_ids_text (fact_params fact) old new office_schema has _ fact_ids_is fact_ids_plain.0 fact_ids_plain.1 rows h in
    let answer = plain_answer 8 fact_ids_query.filter fact_ids_query.project (overlay old.now.trees []) (fact_params fact) rows (got.answer Null) in
    subst (λ l. IsPermutation (map id_columns l) rows) (filter_same _ _ (fact_passes fact) (old.now.trees 8)) answer

abbrev delays_ids_query : Query
delays_ids_query = plain_query 10 (equals (col 1 2) (col 0 0) ∷ []) (col 1 0 ∷ [])

delays_ids_is : command_of (understood office_schema delays_ids_text) ≡ Select (record { lets = []; body = delays_ids_query }) (codes "id" ∷ [])
unfolding understood everything
delays_ids_is = refl

pub delays_ids_plain : IsPlain (understood office_schema delays_ids_text) × (reads_listing office_schema delays_ids_text ≡ false)
unfolding understood everything
delays_ids_plain = ((refl, refl), refl)

delays_pass : (number : ℕ) (row : Row) → passes delays_ids_query.filter (Int (pos number) ∷ []) row ≡ is_delays number row
delays_pass number row = rw (equal_is (column row 2) (pos number)) (and_true _)

pub shows_delays_ids : (number : ℕ) (old new : State) (rows : List Row) → old.now.schema ≡ office_schema → Shown delays_ids_text (Int (pos number) ∷ []) old new rows → IsPermutation (map id_columns (filter (is_delays number) (old.now.trees 10))) rows
shows_delays_ids number old new rows has h =
    let params = Int (pos number) ∷ [] in
    let got : Answers old.now (record { lets = []; body = delays_ids_query }) params rows = reads_as delays_ids_text params old new office_schema has _ delays_ids_is delays_ids_plain.0 delays_ids_plain.1 rows h in
    let answer = plain_answer 10 delays_ids_query.filter delays_ids_query.project (overlay old.now.trees []) params rows (got.answer Null) in
    subst (λ l. IsPermutation (map id_columns l) rows) (filter_same _ _ (delays_pass number) (old.now.trees 10)) answer
