-- What is told of a question: by facts that stand for messages, and behind the last finished run.
use Rattle.std.proofs.Common.{◌≡◌, ℕ, List, ap, subst}
use Rattle.jiff_core.specs.declared.civil.date.Date.{Date}
use Rattle.testing_rules_items.specs.Words.{Text}
use Rattle.testing_rules_model.specs.declared.excuse.Excuse.{Excuse}
use Rattle.testing_rules_model.specs.declared.facts.UploadIn.{UploadIn}
use Rattle.testing_rules_model.specs.declared.suite.RowIn.{RowIn}
use Rattle.testing_rules_model.specs.Covered.{Covered}
use Rattle.testing_rules_model.specs.Excuses.{excuses_of}
use Rattle.testing_rules_model.specs.FactLists.{FactLists}
use Rattle.testing_rules_model.specs.StandsFor.{StandsFor}
use Rattle.testing_rules_model.specs.Suite.{Suite}
use Rattle.testing_rules_model.specs.Unstable.{built_rows, unstable_rows, unstable_sources}
use Rattle.office_mail.specs.Lists.{Lists}
use Rattle.office_mail.specs.Kept.{Kept}
use Rattle.office_core_facts.specs.declared.last_run.LastRun.{LastRun}
use Rattle.office_core_facts.specs.Outcome.{covered_items}
use Rattle.office_core_facts.specs.steps.Last.{IsLoaded, facts_in}
use Rattle.office_core_breaks.specs.Told.{IsBreaksAfter, IsTold, IsToldOf}
use Rattle.office_core_breaks.specs.declared.BreaksText.{BreaksText}
use Rattle.office_core_breaks.specs.declared.asked.Question.{Question}

-- what is told by facts is told over the messages that they stand for
pub told_over : (archs : List Text) (f : FactLists) (s : Covered) (t : Suite) (excuses : List Excuse) (run : ℕ) (date : Date) (q : Question) (told : BreaksText) → StandsFor f s t → excuses ≡ excuses_of archs s t date
    → IsToldOf archs f.sources (built_rows archs f.rows) excuses t run q told → IsTold archs s t run date q told
told_over archs f s t excuses run date q told stands are by =
    subst (λ (es : List Excuse). IsToldOf archs (unstable_sources s) (unstable_rows archs s) es t run q told) are
    (subst (λ (rows : List RowIn). IsToldOf archs (unstable_sources s) rows excuses t run q told) (ap (built_rows archs) stands.rows)
    (subst (λ (us : List UploadIn). IsToldOf archs us (built_rows archs f.rows) excuses t run q told) stands.sources by))

-- what is told of a question by a loaded run is told behind that run
pub breaks_loaded : (setup : Lists) (kept : Kept) (k : ℕ) (last : LastRun) (q : Question) (told : BreaksText) → IsLoaded setup kept k last
    → ((s : Covered) → StandsFor (facts_in last.facts) s last.testing → IsTold setup.archs s last.testing last.number last.date q told) → IsBreaksAfter setup kept k q told
breaks_loaded setup kept k last q told loaded by =
    let mail : Covered = covered_items setup kept k in
    record {
      date = last.date;
      dated = loaded.dated;
      is = subst (λ (t : Suite). IsTold setup.archs mail t k last.date q told) loaded.testing
          (subst (λ (n : ℕ). IsTold setup.archs mail last.testing n last.date q told) loaded.number (by mail loaded.stands));
    }
