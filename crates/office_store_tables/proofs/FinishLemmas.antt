-- The steps of a finished run together.
use Rattle.std.proofs.Common.{ℕ, List, sym, ap, subst, ◌∙◌, ◌≡◌}
use Rattle.std.specs.FinMap.{get, insert}
use Rattle.sqlite.specs.Order.{Row}
use Rattle.sqlite.specs.Tree.{Trees}
use Rattle.office_store_keeper.specs.declared.values.Finished.{Finished}
use Rattle.office_store_testing_tables.specs.declared.said.Said.{Said}
use Rattle.office_store_testing_tables.specs.Tables.{IsWhole, run_map}
use Rattle.office_store_testing_tables.specs.steps.TableSteps.{Rows, SaysAlone, RecordsRun}
use Rattle.office_store_testing_tables.specs.Entries.{source_map, entry_map}
use Rattle.office_store_testing_tables.specs.steps.EntrySteps.{SetsSources, SetsRows}
use Rattle.office_store_keeper.specs.FactSet.{FactSet, facts_after}
use Rattle.office_store_testing_tables.specs.Legible.{AreRead}
use Rattle.office_store_testing_tables.specs.FactTables.{facts_in}
use Rattle.office_store_testing_tables.specs.steps.FactSteps.{MovesFacts, ChangesFacts}
use Rattle.office_store_tables.specs.steps.Finishing.{WritesRun, with_count}

-- the same between tables that have the same facts
moves_between : (release : ℕ) (a c e d : Trees) (made : FactSet → FactSet) → c 8 ≡ a 8 → c 10 ≡ a 10 → d 8 ≡ e 8 → d 10 ≡ e 10 → MovesFacts release c e made → MovesFacts release a d made
moves_between release a c e d made before last after later it = record {
  has = ap (λ rows. facts_in release rows (d 10)) after ∙ ap (facts_in release (e 8)) later ∙ it.has ∙ ap (λ rows. made (facts_in release rows (c 10))) before ∙ ap (λ rows. made (facts_in release (a 8) rows)) last;
  reads = λ was.
      let then = it.reads (subst (λ rows. AreRead release rows (c 10)) (sym before) (subst (AreRead release (a 8)) (sym last) was)) in
      subst (λ rows. AreRead release rows (d 10)) (sym after) (subst (AreRead release (e 8)) (sym later) then);
}

pub writes : (release : ℕ) (a b c e d : Trees) (run : ℕ) (done : Finished) (said : Said) → SetsSources a b done.testing.sources → SetsRows b c done.testing.rows → ChangesFacts release c e done.facts
    → RecordsRun e d run (record { excuses = done.excuses; updates = done.updates }) (with_count run said) → WritesRun release a d run done (with_count run said)
writes release a b c e d run done said first second changed third =
    let rest = changed.others.rest in
    let runs : e 3 ≡ a 3 = ap (λ (r : Rows). r.runs) rest ∙ ap (λ (r : Rows). r.runs) second.rest ∙ ap (λ (r : Rows). r.runs) first.rest in
    let office : e 0 ≡ a 0 = ap (λ (r : Rows). r.office) rest ∙ ap (λ (r : Rows). r.office) second.rest ∙ ap (λ (r : Rows). r.office) first.rest in
    let old_rows : b 6 ≡ a 6 = ap (λ (r : Rows). r.rows) first.rest in
    let sources : d 4 ≡ b 4 = third.sources ∙ ap (λ (r : Rows). r.sources) rest ∙ ap (λ (r : Rows). r.sources) second.rest in
    let rows : d 6 ≡ c 6 = third.rows ∙ ap (λ (r : Rows). r.rows) rest in
    let facts : c 8 ≡ a 8 = ap (λ (r : Rows). r.facts) second.rest ∙ ap (λ (r : Rows). r.facts) first.rest in
    let delays : c 10 ≡ a 10 = ap (λ (r : Rows). r.delays) second.rest ∙ ap (λ (r : Rows). r.delays) first.rest in
    record {
      reported = third.reported ∙ ap (λ (rows : List Row). insert (run_map rows) run (record { excuses = done.excuses; updates = done.updates })) runs;
      new = ap (λ (rows : List Row). get (run_map rows) run) (sym runs) ∙ third.new;
      sources = ap source_map sources ∙ first.has;
      rows = ap entry_map rows ∙ second.has;
      facts = λ can. moves_between release a c e d (facts_after done.facts) facts delays third.facts third.delays (changed.moves can);
      says = third.says;
      mail = third.mail ∙ ap (λ (r : Rows). r.mail) rest ∙ ap (λ (r : Rows). r.mail) second.rest ∙ ap (λ (r : Rows). r.mail) first.rest;
      once = λ alone. third.once (subst SaysAlone (sym office) alone);
      whole_runs = λ whole. third.whole (subst (λ rows. IsWhole (run_map rows) rows) (sym runs) whole);
      whole_sources = λ whole. subst (λ rows. IsWhole (source_map rows) rows) (sym sources) (first.whole whole);
      whole_rows = λ whole. subst (λ rows. IsWhole (entry_map rows) rows) (sym rows) (second.whole (subst (λ rows. IsWhole (entry_map rows) rows) (sym old_rows) whole));
    }
