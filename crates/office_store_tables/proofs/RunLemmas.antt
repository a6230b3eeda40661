-- What the statements on finished runs show.
use Rattle.std.proofs.Common.{◌≡◌, ℕ, pos, List, [], ◌∷◌, map, filter, filter_map, length, false, Some, None, Option, Ok, Err, Result, IfOk, codes, refl, sym, ap, subst, ◌∙◌}
use Rattle.std.specs.List.Sorted.{IsPermutation}
use Rattle.std.specs.Ordering.{nat_cmp, eq_by_cmp}
use Rattle.std.specs.FinMap.{find, get, nat_cmp-IsAntisymmetric}
use Rattle.std.proofs.lemmas.Cmp.{nat_cmp_total}
use Rattle.sqlite_tied.specs.Compute.{everything}
use Rattle.sqlite_tied.proofs.RuleLemmas.{and_true}
use Rattle.sqlite.specs.declared.types.Value.TheVariants.{Null, Int, Text}
use Rattle.sqlite.specs.Order.{Row, column}
use Rattle.sqlite.specs.Term.{col}
use Rattle.sqlite.specs.Query.{Query}
use Rattle.sqlite.specs.Command.TheVariants.{Select}
use Rattle.sqlite.specs.Program.{overlay}
use Rattle.sqlite.specs.State.{State, Shown}
use Rattle.sqlite.specs.Effect.{Answers}
use Rattle.sqlite.specs.Listing.{understood, reads_listing}
use Rattle.sqlite.proofs.Callers.{IsPlain, command_of, reads_as}
use Rattle.office_store_keeper.specs.declared.values.Reports.{Reports}
use Rattle.office_store_testing_tables.specs.declared.said.Said.{Said}
use Rattle.office_store_testing_tables.specs.Layout.{office_schema}
use Rattle.office_store_testing_tables.specs.steps.Texts.{office_text, reports_text}
use Rattle.office_store_testing_tables.specs.Tables.{number_in, text_in, office_in, said_in, run_by, run_in, run_map}
use Rattle.office_store_testing_tables.specs.steps.TableSteps.{office_columns, IsOnlyOffice, is_run, run_columns, IsOnlyRun}
use Rattle.office_store_testing_tables.proofs.Compiled.{plain_query, equals}
use Rattle.office_store_testing_tables.proofs.Answered.{passes, plain_answer}
use Rattle.office_store_testing_tables.proofs.KeyedFacts.{get_at, found_one}
use Rattle.office_store_testing_tables.proofs.LetterFacts.{number_is, int_is, nat_is}
use Rattle.office_store_testing_tables.proofs.MailLemmas.{equal_is, filter_same, filter_all, as_many, empty_of, only_shown}

-- ---- what the office says of itself

abbrev office_query : Query
office_query = plain_query 0 [] (col 1 0 ∷ col 1 2 ∷ col 1 3 ∷ col 1 4 ∷ [])

office_is : command_of (understood office_schema office_text) ≡ Select (record { lets = []; body = office_query }) (codes "id" ∷ codes "schema" ∷ codes "setup" ∷ codes "finished" ∷ [])
unfolding understood everything
office_is = refl

pub office_plain : IsPlain (understood office_schema office_text) × (reads_listing office_schema office_text ≡ false)
unfolding understood everything
office_plain = ((refl, refl), refl)

pub shows_office : (old new : State) (rows : List Row) → old.now.schema ≡ office_schema → Shown office_text [] old new rows → IsPermutation (map office_columns (old.now.trees 0)) rows
shows_office old new rows has h =
    let got : Answers old.now (record { lets = []; body = office_query }) [] rows = reads_as office_text [] old new office_schema has _ office_is office_plain.0 office_plain.1 rows h in
    let answer = plain_answer 0 [] office_query.project (overlay old.now.trees []) [] rows (got.answer Null) in
    subst (λ l. IsPermutation (map office_columns l) rows) (filter_all _ (λ row. refl) (old.now.trees 0)) answer

pub office_says : (row : Row) (id : ℕ) (said : Said) → column row 0 ≡ Int (pos id) → column row 2 ≡ Int (pos said.schema) → column row 3 ≡ Text said.setup → column row 4 ≡ Int (pos said.finished) → office_in row ≡ Some (id, said)
unfolding office_in
office_says row id said a b c d = rw (a, b, c, d) refl

pub said_one : (row : Row) (said : Said) → office_in row ≡ Some (1, said) → said_in (row ∷ []) ≡ Some said
said_one row said is = rw is refl

said_from : (rows : List Row) (said : Said) (shown : List Row) → IsPermutation (map office_columns rows) shown → IsOnlyOffice said shown → said_in rows ≡ Some said
said_from rows said shown same only =
    let one = only_shown office_columns rows only.0 (subst (IsPermutation (map office_columns rows)) only.1 same) in
    let at = λ (n : ℕ). ap (λ r. column r n) (sym one.2) in
    ap said_in one.1 ∙ said_one one.0 said (office_says one.0 1 said (at 0 ∙ only.2) (at 1 ∙ only.3) (at 2 ∙ only.4) (at 3 ∙ only.5))

pub said_is : {F : Type 0} (rows : List Row) (result : Result Said F) (shown : List Row) → IsPermutation (map office_columns rows) shown → IfOk result (λ said. IsOnlyOffice said shown) → IfOk result (λ said. said_in rows ≡ Some said)
said_is rows (Ok said) shown same only = said_from rows said shown same only
said_is rows (Err e) shown same only = tt

-- ---- the reports

abbrev reports_query : Query
reports_query = plain_query 3 (equals (col 1 0) (col 0 0) ∷ []) (col 1 0 ∷ col 1 2 ∷ col 1 3 ∷ [])

reports_is : command_of (understood office_schema reports_text) ≡ Select (record { lets = []; body = reports_query }) (codes "number" ∷ codes "excuses" ∷ codes "updates" ∷ [])
unfolding understood everything
reports_is = refl

pub reports_plain : IsPlain (understood office_schema reports_text) × (reads_listing office_schema reports_text ≡ false)
unfolding understood everything
reports_plain = ((refl, refl), refl)

run_passes : (run : ℕ) (row : Row) → passes reports_query.filter (Int (pos run) ∷ []) row ≡ is_run run row
run_passes run row = rw (equal_is (column row 0) (pos run)) (and_true _)

pub shows_runs : (run : ℕ) (old new : State) (rows : List Row) → old.now.schema ≡ office_schema → Shown reports_text (Int (pos run) ∷ []) old new rows → IsPermutation (map run_columns (filter (is_run run) (old.now.trees 3))) rows
shows_runs run old new rows has h =
    let params = Int (pos run) ∷ [] in
    let got : Answers old.now (record { lets = []; body = reports_query }) params rows = reads_as reports_text params old new office_schema has _ reports_is reports_plain.0 reports_plain.1 rows h in
    let answer = plain_answer 3 reports_query.filter reports_query.project (overlay old.now.trees []) params rows (got.answer Null) in
    subst (λ l. IsPermutation (map run_columns l) rows) (filter_same _ _ (run_passes run) (old.now.trees 3)) answer

pub run_says : (row : Row) (run : ℕ) (reports : Reports) → column row 0 ≡ Int (pos run) → column row 2 ≡ Text reports.excuses → column row 3 ≡ Text reports.updates → run_in row ≡ Some (run, reports)
unfolding run_in
run_says row run reports a b c = rw (a, b, c) refl

number_by : (n : Option ℕ) (e u : Option (List ℕ)) (run : ℕ) (reports : Reports) → run_by n e u ≡ Some (run, reports) → n ≡ Some run
number_by None e u run reports h = absurd (let e = h in cc)
number_by (Some n) None u run reports h = absurd (let e = h in cc)
number_by (Some n) (Some e) None run reports h = absurd (let e = h in cc)
number_by (Some n) (Some e) (Some u) run reports h =
    let same : ◌≡◌ {A = ℕ × Reports} (n, record { excuses = e; updates = u }) (run, reports) = cc in
    ap (λ (x : ℕ × Reports). Some x.0) same

pub run_number : (row : Row) (run : ℕ) (reports : Reports) → run_in row ≡ Some (run, reports) → column row 0 ≡ Int (pos run)
unfolding run_in
run_number row run reports h = number_is _ _ (number_by (number_in (column row 0)) (text_in (column row 2)) (text_in (column row 3)) run reports h)

pub at_run : (run : ℕ) (row : Row) (k : ℕ) (reports : Reports) → run_in row ≡ Some (k, reports) → eq_by_cmp nat_cmp run k ≡ is_run run row
at_run run row k reports h = nat_is run k ∙ sym (rw (run_number row k reports h) (int_is k run))

run_at : (run : ℕ) (rows : List Row) → get (run_map rows) run ≡ find nat_cmp run (filter_map run_in (filter (is_run run) rows))
run_at run rows = get_at nat_cmp_total nat_cmp-IsAntisymmetric run_in run (is_run run) (at_run run) rows

pub reports_from : (rows : List Row) (run : ℕ) (o : Option Reports) (shown : List Row) → IsPermutation (map run_columns (filter (is_run run) rows)) shown → IsOnlyRun run o shown → o ≡ get (run_map rows) run
reports_from rows run None shown same none =
    let gone : filter (is_run run) rows ≡ [] = empty_of _ (as_many run_columns _ shown same ∙ ap length none) in
    sym (run_at run rows ∙ ap (λ l. find nat_cmp run (filter_map run_in l)) gone)
reports_from rows run (Some reports) shown same only =
    let one = only_shown run_columns (filter (is_run run) rows) only.0 (subst (IsPermutation (map run_columns (filter (is_run run) rows))) only.1 same) in
    let says = run_says one.0 run reports (ap (λ r. column r 0) (sym one.2) ∙ only.2) (ap (λ r. column r 1) (sym one.2) ∙ only.3) (ap (λ r. column r 2) (sym one.2) ∙ only.4) in
    sym (run_at run rows ∙ ap (λ l. find nat_cmp run (filter_map run_in l)) one.1 ∙ found_one nat_cmp_total nat_cmp-IsAntisymmetric run_in run one.0 reports says)

pub reported_is : {F : Type 0} (rows : List Row) (run : ℕ) (result : Result (Option Reports) F) (shown : List Row) → IsPermutation (map run_columns (filter (is_run run) rows)) shown
    → IfOk result (λ o. IsOnlyRun run o shown) → IfOk result (λ o. o ≡ get (run_map rows) run)
reported_is rows run (Ok o) shown same only = reports_from rows run o shown same only
reported_is rows run (Err e) shown same only = tt
