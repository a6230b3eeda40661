-- What is told of a source: by facts that stand for messages, and by the reports of the last finished run.
use Rattle.std.proofs.Common.{◌≡◌, ⊎_elim, ℕ, ◌<◌, ◌≤◌, List, length, filter, Option, Some, None, sym, ap, subst, ◌∙◌, arith}
use Rattle.std.proofs.lemmas.Bool.{cases_lt}
use Rattle.std.specs.Borrow.{Bor}
use Rattle.std.specs.Prelude.{is_some}
use Rattle.std.specs.Option.{option_copied}
use Rattle.jiff_core.specs.declared.civil.date.Date.{Date}
use Rattle.testing_rules_items.specs.Words.{Text}
use Rattle.testing_rules_model.specs.declared.excuse.Excuse.{Excuse}
use Rattle.testing_rules_model.specs.declared.facts.HintIn.{HintIn}
use Rattle.testing_rules_model.specs.declared.facts.UnhintIn.{UnhintIn}
use Rattle.testing_rules_model.specs.Covered.{Covered}
use Rattle.testing_rules_model.specs.Excuses.{excuses_of}
use Rattle.testing_rules_model.specs.FactLists.{FactLists}
use Rattle.testing_rules_model.specs.StandsFor.{StandsFor}
use Rattle.testing_rules_model.specs.Suite.{Suite}
use Rattle.testing_rules_model.specs.Unstable.{built_rows, in_force, is_in_force, unhints_by_number, unstable_rows}
use Rattle.office_mail.specs.Lists.{Lists}
use Rattle.office_mail.specs.Kept.{Kept}
use Rattle.office_store_keeper.specs.declared.values.Reports.{Reports}
use Rattle.office_store_keeper.specs.Content.{Content, item_from_one}
use Rattle.office_core_facts.specs.declared.last_run.LastRun.{LastRun}
use Rattle.office_core_facts.specs.Outcome.{covered_items, reports_of, testing_after}
use Rattle.office_core_facts.specs.State.{IsOffice}
use Rattle.office_core_facts.specs.steps.Last.{IsLoaded, facts_in}
use Rattle.office_core_facts.proofs.ReportFacts.{report_is}
use Rattle.office_core_why.specs.steps.Telling.{unstable_of}
use Rattle.office_core_why.specs.Why.{IsTold, IsToldBy, IsToldOf, IsWhyAfter, Unstable, unstable_in}
use Rattle.office_core_why.specs.declared.WhyText.{WhyText}

-- facts give unstable as the messages do that they stand for
pub unstable_stands : (archs : List Text) (f : FactLists) (s : Covered) (t : Suite) → StandsFor f s t → unstable_of archs f ≡ unstable_in archs s
unstable_stands archs f s t stands =
    let rows : built_rows archs f.rows ≡ unstable_rows archs s = ap (built_rows archs) stands.rows in
    let hints : filter (is_in_force f.unhints) f.hints ≡ in_force s =
    ap (λ (us : List UnhintIn). filter (is_in_force us) f.hints) stands.unhints ∙ ap (λ (hs : List HintIn). filter (is_in_force (unhints_by_number s)) hs) stands.hints in
    λ i. record { sources = stands.sources i; rows = rows i; bugs = stands.bugs i; hints = hints i }

-- so what is told by them is told over these messages
pub told_over : (senders archs : List Text) (f : FactLists) (s : Covered) (t : Suite) (excuses : List Excuse) (run : ℕ) (date : Date) (reports : Reports) (source : Text) (told : WhyText) → StandsFor f s t → excuses ≡ excuses_of archs s t date
    → IsToldBy senders archs (unstable_of archs f) t excuses run reports source told → IsToldOf senders archs s t run date reports source told
told_over senders archs f s t excuses run date reports source told stands are by =
    subst (λ (es : List Excuse). IsToldBy senders archs (unstable_in archs s) t es run reports source told) are
    (subst (λ (u : Unstable). IsToldBy senders archs u t excuses run reports source told) (unstable_stands archs f s t stands) by)

-- what is told by a loaded run is why a source is where the run left it
pub why_loaded : (setup : Lists) (kept : Kept) (k : ℕ) (last : LastRun) (reports : Reports) (source : Text) (told : WhyText) → IsLoaded setup kept k last → reports ≡ reports_of setup kept k
    → ((s : Covered) → StandsFor (facts_in last.facts) s last.testing → IsTold setup s last.testing last.number last.date reports source told) → IsWhyAfter setup kept k source told
why_loaded setup kept k last reports source told loaded are by =
    let mail : Covered = covered_items setup kept k in
    record {
      date = last.date;
      dated = loaded.dated;
      told = subst (λ (r : Reports). IsTold setup mail (testing_after setup kept k) k last.date r source told) are
          (subst (λ (t : Suite). IsTold setup mail t k last.date reports source told) loaded.testing
          (subst (λ (n : ℕ). IsTold setup mail last.testing n last.date reports source told) loaded.number (by mail loaded.stands)));
    }

-- where an office has no reports of its last run, no run is finished
pub none_finished : (setup : Lists) (content : Content) (run : ℕ) → IsOffice setup content → run ≡ length content.reports → item_from_one run content.reports ≡ None → length content.reports ≡ 0
none_finished setup content run office is none = ⊎_elim
    (λ (lt : 0 < length content.reports). let both : None ≡ Some (reports_of setup content.kept run) = sym none ∙ report_is setup content run office (omega (arith, lt, is)) (omega (arith, is)) in absurd (cc both))
    (λ (le : length content.reports ≤ 0). omega (arith, le))
    (cases_lt 0 (length content.reports))

-- else they are those of its last run
pub last_reports : (setup : Lists) (content : Content) (run : ℕ) (reports : Reports) → IsOffice setup content → run ≡ length content.reports → 1 ≤ length content.reports → item_from_one run content.reports ≡ Some reports → reports ≡ reports_of setup content.kept (length content.reports)
last_reports setup content run reports office is some found =
    let both : Some reports ≡ Some (reports_of setup content.kept run) = sym found ∙ report_is setup content run office (omega (arith, some, is)) (omega (arith, is)) in
    let same : reports ≡ reports_of setup content.kept run = cc both in
    same ∙ ap (reports_of setup content.kept) is

-- what is lent is there where the element is
pub is_some-copied : {A : Type 0} (lent : Option (Bor A)) (found : Option A) → option_copied lent ≡ found → is_some lent ≡ is_some found
is_some-copied None found e = ap is_some e
is_some-copied (Some x) found e = ap is_some e
