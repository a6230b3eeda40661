-- What is read in the table of runs, where an office wrote it.
use Rattle.std.proofs.Common.{◌≡◌, inl, ℕ, pos, List, [], ◌∷◌, map, filter, Option, Some, None, refl, sym, ap, subst, ◌∙◌, arith}
use Rattle.std.specs.List.Sorted.{IsPermutation}
use Rattle.std.specs.Str.{IsUtf8}
use Rattle.std.specs.Ordering.{nat_cmp}
use Rattle.std.specs.FinMap.{get, nat_cmp-IsAntisymmetric}
use Rattle.std.proofs.lemmas.Cmp.{nat_cmp_total}
use Rattle.sqlite.specs.declared.types.Value.TheVariants.{Int, Text}
use Rattle.sqlite.specs.Order.{Row, column}
use Rattle.sqlite_rules.specs.Lists.{Has}
use Rattle.sqlite_rules.proofs.ListLemmas.{has_filtered}
use Rattle.office_store_keeper.specs.declared.values.Reports.{Reports}
use Rattle.office_store_testing_tables.specs.Tables.{number_in, text_in, run_by, run_in, run_map}
use Rattle.office_store_testing_tables.specs.steps.TableSteps.{is_run, run_columns}
use Rattle.office_store_testing_tables.specs.Legible.{AreReported}
use Rattle.office_store_testing_tables.proofs.KeyedFacts.{tied}
use Rattle.office_store_testing_tables.proofs.LetterFacts.{number_is}
use Rattle.office_store_testing_tables.proofs.EntryReads.{text_is}
use Rattle.office_store_testing_tables.proofs.MailLemmas.{as_many, only_shown}
use Rattle.office_store_tables.proofs.RunLemmas.{at_run}
use Rattle.office_store_testing_tables.proofs.Whole.{whole_reads, whole_gets, one_here}
use Rattle.office_store_tables.proofs.RunCounts.{reported_whole}

parts_by : (n : Option ℕ) (e u : Option (List ℕ)) (run : ℕ) (reports : Reports) → run_by n e u ≡ Some (run, reports) → (n ≡ Some run) × (e ≡ Some reports.excuses) × (u ≡ Some reports.updates)
parts_by None e u run reports h = absurd (let x = h in cc)
parts_by (Some n) None u run reports h = absurd (let x = h in cc)
parts_by (Some n) (Some e) None run reports h = absurd (let x = h in cc)
parts_by (Some n) (Some e) (Some u) run reports h =
    let x : ◌≡◌ {A = ℕ × Reports} (n, record { excuses = e; updates = u }) (run, reports) = cc in
    (ap (λ (y : ℕ × Reports). Some y.0) x, ap (λ (y : ℕ × Reports). Some y.1.excuses) x, ap (λ (y : ℕ × Reports). Some y.1.updates) x)

run_shape : (row : Row) (run : ℕ) (reports : Reports) → run_in row ≡ Some (run, reports) → run_columns row ≡ Int (pos run) ∷ Text reports.excuses ∷ Text reports.updates ∷ []
unfolding run_in
run_shape row run reports h =
    let p = parts_by (number_in (column row 0)) (text_in (column row 2)) (text_in (column row 3)) run reports h in
    rw (number_is (column row 0) run p.0, text_is (column row 2) reports.excuses p.1, text_is (column row 3) reports.updates p.2) refl

-- The row of a run is shown as it was written, so the look-up isn't refused.
pub run_reads : (rows : List Row) (run finished : ℕ) (shown : List Row) → IsPermutation (map run_columns (filter (is_run run) rows)) shown → AreReported rows finished → (shown ≡ [] → ⊥)
    → ((reports : Reports) → IsUtf8 reports.excuses → IsUtf8 reports.updates → shown ≡ (Int (pos run) ∷ Text reports.excuses ∷ Text reports.updates ∷ []) ∷ [] → ⊥) → ⊥
run_reads rows run finished [] same reported none one = none refl
run_reads rows run finished (r ∷ []) same reported none one =
    let o = only_shown run_columns (filter (is_run run) rows) r same in
    let f = has_filtered (is_run run) rows o.0 (subst (λ l. Has l o.0) (sym o.1) (inl refl)) in
    let e = whole_reads nat_cmp_total nat_cmp-IsAntisymmetric run_in rows (reported_whole rows finished reported) o.0 f.0 in
    let own : run ≡ e.0.0 = nat_cmp-IsAntisymmetric run e.0.0 (tied (nat_cmp run e.0.0) (at_run run o.0 e.0.0 e.0.1 e.1 ∙ f.1)) in
    let stands : get (run_map rows) e.0.0 ≡ Some e.0.1 = whole_gets nat_cmp_total nat_cmp-IsAntisymmetric run_in rows (reported_whole rows finished reported) o.0 e.0 f.0 e.1 in
    let texts = reported.texts e.0.0 e.0.1 stands in
    one e.0.1 texts.0 texts.1 (ap (λ x. x ∷ []) (o.2 ∙ run_shape o.0 e.0.0 e.0.1 e.1 ∙ ap (λ n. Int (pos n) ∷ Text e.0.1.excuses ∷ Text e.0.1.updates ∷ []) (sym own)))
run_reads rows run finished (a ∷ b ∷ more) same reported none one =
    absurd (omega (arith, one_here nat_cmp_total nat_cmp-IsAntisymmetric run_in run (is_run run) (at_run run) rows (reported_whole rows finished reported), as_many run_columns (filter (is_run run) rows) (a ∷ b ∷ more) same))
