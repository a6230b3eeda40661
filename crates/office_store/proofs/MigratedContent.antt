-- What a migrated store holds, and that it reads as an office writes it.
use Rattle.std.proofs.Common.{◌≡◌, ◌≤◌, inl, inr, ℕ, List, [], ◌∷◌, length, Option, Some, None, IsSome, is_some, refl, sym, ap, subst, ◌∙◌, arith}
use Rattle.std.specs.FinMap.{get, insert}
use Rattle.sqlite.specs.Order.{Row}
use Rattle.sqlite.specs.Tree.{Trees}
use Rattle.sqlite_rules.specs.Lists.{Has}
use Rattle.testing_rules_model.specs.declared.fact_row.FactRow.{FactRow}
use Rattle.office_mail.specs.Lists.{Lists}
use Rattle.office_mail.specs.Runs.{cover}
use Rattle.office_mail.specs.Setup.{IsSetup}
use Rattle.office_store_keeper.specs.LastDelays.{IsLastTold, GetsLast, release_delays, with_last}
use Rattle.office_store_tables.specs.Entries.{source_map, entry_map}
use Rattle.office_store_tables.specs.FactTables.{delays_in, facts_in}
use Rattle.office_store_tables.specs.Legible.{IsLegible, AreReported}
use Rattle.office_store.specs.Migrating.{KeepsDelays, Migrates, IsLegibleBefore, content_before}
use Rattle.office_store_tables.specs.SetupText.{setup_text}
use Rattle.office_store_tables.specs.TableContent.{content_in, count_said, release_place, reports_to, suite_in, source_at, row_at}
use Rattle.office_store_tables.specs.Tables.{IsWhole, kept_rows, run_map, said_in}
use Rattle.office_store_tables.proofs.FactSets.{same_set, same_entry, of_inserted, inserted_has, said, says}
use Rattle.office_store_tables.proofs.ReportFacts.{length_reports}
use Rattle.office_store_tables.proofs.RunLemmas.{said_one}
use Rattle.office_store_tables.proofs.SetupRoundTrip.{read_back, text_utf8}

-- the facts that the tables say, with those of the last delays
facts_with : (setup : Lists) (facts delays : List Row) (last : Option ℕ) → KeepsDelays last delays → facts_in (release_place setup) facts delays ≡ with_last setup last (facts_in (release_place setup) facts [])
facts_with setup facts delays None none = ap (facts_in (release_place setup) facts) none
facts_with setup facts delays (Some n) keeps =
    let release = release_place setup in
    ap (facts_in release facts) keeps.1
    ∙ same_set (facts_in release facts (keeps.0 ∷ [])) (insert (facts_in release facts []) (release_delays setup n) tt)
    (λ q h. inserted_has (facts_in release facts []) (release_delays setup n) q (elim (said release facts (keeps.0 ∷ []) q h) [
      | inl a ↦ inr (says release facts [] q (inl a))
      | inr b ↦ elim b.1 [
        | inl same ↦ inl (same_entry q (release_delays setup n) (sym b.2 ∙ ap (delays_in release) same ∙ keeps.2 release))
        | inr none ↦ absurd none
      ]
    ]))
    (λ q h. says release facts (keeps.0 ∷ []) q (elim (of_inserted (facts_in release facts []) (release_delays setup n) q h) [
      | inl same ↦ inr (keeps.0, inl refl, keeps.2 release ∙ sym (ap (λ (x : FactRow). Some (x, tt)) same))
      | inr there ↦ elim (said release facts [] q there) [
        | inl a ↦ inl a
        | inr b ↦ absurd b.1
      ]
    ]))

says_is : (setup : Lists) (old new : Trees) (done : Migrates setup old new) → said_in (new 0) ≡ Some (record { schema = 2; setup = setup_text setup; finished = done.said.finished })
says_is setup old new done = ap said_in done.one ∙ said_one done.row _ done.row_says

pub gets_last : (setup : Lists) (old new : Trees) → Migrates setup old new → GetsLast setup (content_before setup old) (content_in setup new)
gets_last setup old new done =
    let kept = kept_rows (old 1) in
    let count : count_said (said_in (old 0)) ≡ done.said.finished = ap count_said done.said_is in
    let later : count_said (said_in (new 0)) ≡ done.said.finished = ap count_said (says_is setup old new done) in
    let many : length (reports_to (run_map (old 3)) (count_said (said_in (old 0)))) ≡ done.said.finished = length_reports (run_map (old 3)) _ ∙ count in
    record {
      last = done.last;
      last_is = subst (λ n. IsLastTold setup kept (cover setup kept n (release_place setup)) done.last) (sym many) done.last_is;
      same = λ i. record {
        kept = kept_rows (done.mail i);
        reports = reports_to (run_map (done.runs i)) ((later ∙ sym count) i);
        testing = suite_in setup (kept_rows (done.mail i)) (source_map (done.sources i)) (entry_map (done.rows i));
        facts = (ap (λ l. facts_in (release_place setup) l (new 10)) done.facts ∙ facts_with setup (old 8) (new 10) done.last done.delays) i;
      };
    }

delays_read : (release : ℕ) (last : Option ℕ) (rows : List Row) → KeepsDelays last rows → ((row : Row) → Has rows row → IsSome (delays_in release row)) × (length rows ≤ 1)
delays_read release None rows none = (λ row there. absurd (subst (λ l. Has l row) none there), let size = ap length none in omega (arith, size))
delays_read release (Some n) rows keeps = (
  λ row there. elim (subst (λ l. Has l row) keeps.1 there) [
    | inl same ↦ ap is_some (ap (delays_in release) same ∙ keeps.2 release)
    | inr none ↦ absurd none
  ],
  let size = ap length keeps.1 in omega (arith, size),
)

pub legible_on : (setup : Lists) (old new : Trees) → IsSetup setup → IsLegibleBefore setup old → Migrates setup old new → IsLegible setup new
legible_on setup old new valid was done =
    let same : was.office.said.finished ≡ done.said.finished = ap count_said (sym was.office.is ∙ done.said_is) in
    let read = delays_read (release_place setup) done.last (new 10) done.delays in
    let fits = done.fits in
    record {
      office = record {
        said = record { schema = 2; setup = setup_text setup; finished = done.said.finished };
        is = says_is setup old new done;
        once = ap length done.one;
        schema = omega arith;
        finished = omega (arith, fits);
        setup = text_utf8 setup valid;
      };
      schema = refl;
      setup_is = read_back setup valid;
      mail = subst (λ rows. IsWhole (kept_rows rows) rows) (sym done.mail) was.mail;
      runs = subst (λ n. AreReported (new 3) n) same (subst (λ rows. AreReported rows was.office.said.finished) (sym done.runs) was.runs);
      testing = record {
        sources = subst (λ rows. IsWhole (source_map rows) rows) (sym done.sources) was.testing.sources;
        source = λ name p. subst (λ rows. get (source_map rows) name ≡ Some p → IsSome (source_at setup (kept_rows (new 1)) (name, p))) (sym done.sources)
            (subst (λ rows. get (source_map (old 4)) name ≡ Some p → IsSome (source_at setup (kept_rows rows) (name, p))) (sym done.mail) (was.testing.source name p));
        rows = subst (λ rows. IsWhole (entry_map rows) rows) (sym done.rows) was.testing.rows;
        row = λ key value. subst (λ rows. get (entry_map rows) key ≡ Some value → IsSome (row_at setup (kept_rows (new 1)) (key, value))) (sym done.rows)
            (subst (λ rows. get (entry_map (old 6)) key ≡ Some value → IsSome (row_at setup (kept_rows rows) (key, value))) (sym done.mail) (was.testing.row key value));
      };
      facts = record { fact = λ row there. was.facts row (subst (λ l. Has l row) done.facts there); delay = read.0; one = read.1 };
    }
