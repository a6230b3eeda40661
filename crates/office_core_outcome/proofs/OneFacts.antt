-- A trial of hints is told one thing.
use Rattle.std.proofs.Common.{◌≡◌, ℕ, ◌+◌, ◌<◌, List, length, Option, Some, None, sym, ap, ◌∙◌, refl}
use Rattle.jiff_core.specs.declared.civil.date.Date.{Date}
use Rattle.testing_rules_model.specs.Covered.{Covered}
use Rattle.testing_rules_model.specs.Suite.{Suite}
use Rattle.office_mail.specs.Lists.{Lists}
use Rattle.office_mail.specs.Kept.{Kept}
use Rattle.office_mail.specs.Runs.{latest_day, orders_to}
use Rattle.office_core_facts.specs.Outcome.{outcome, testing_after}
use Rattle.office_core_orders.specs.Ready.{HasPlaces}
use Rattle.testing_rules_reports.specs.declared.hint_lines.TrialReport.{TrialReport}
use Rattle.office_core_outcome.specs.declared.TrialOptions.{TrialOptions}
use Rattle.office_core_outcome.specs.declared.Trial.{Trial}
use Rattle.office_core_facts.specs.Seen.{items_within, release}
use Rattle.office_core_outcome.specs.Hints.{first_refused, hint_letters, with_letters}
use Rattle.office_core_outcome.specs.declared.RefusedHint.{RefusedHint}
use Rattle.office_core_outcome.specs.Trial.{IsTrial, decided, told_on, trial_date, tried, without_reasons}
use Rattle.office_core_outcome.specs.steps.TrialSteps.{unless_refused}
use Rattle.office_core_facts.proofs.SeenFacts.{items_same, one_cover}

module _ (setup : Lists) (kept : Kept) (k : ℕ) (hints : List (List ℕ)) where
  -- what is tried behind so many numbers of the release team, over such mail
  abbrev over : Date → ℕ → Covered → TrialReport
  over date n mail =
      let before : Suite = testing_after setup kept k in
      record {
        run = k + 1;
        date = date;
        first = n + 1;
        without = decided setup (k + 1) (outcome setup (k + 1) date mail before);
        with = decided setup (k + 1) (outcome setup (k + 1) date (with_letters setup (release setup) (hint_letters setup n hints) mail) before);
      }

  told_same : (date : Option Date) (c d : ℕ → ℕ) (reasons : List ℕ) → c (release setup) ≡ d (release setup) → items_within setup kept c ≡ items_within setup kept d → told_on setup kept k date c hints reasons ≡ told_on setup kept k date d hints reasons
  told_same None c d reasons e items = refl
  told_same (Some date) c d reasons e items =
      ap (λ (n : ℕ). unless_refused (first_refused setup n 0 hints) (over date n (items_within setup kept c)) reasons) e
      ∙ ap (λ (mail : Covered). unless_refused (first_refused setup (d (release setup)) 0 hints) (over date (d (release setup)) mail) reasons) items

-- what is told beside the reasons doesn't rest on them
refused_alike : (o : Option RefusedHint) (t : TrialReport) (r q : List ℕ) → without_reasons (unless_refused o t r) ≡ without_reasons (unless_refused o t q)
refused_alike (Some refused) t r q = refl
refused_alike None t r q = refl

told_alike : (setup : Lists) (kept : Kept) (k : ℕ) (date : Option Date) (covers : ℕ → ℕ) (hints : List (List ℕ)) (r q : List ℕ) → without_reasons (told_on setup kept k date covers hints r) ≡ without_reasons (told_on setup kept k date covers hints q)
told_alike setup kept k None covers hints r q = refl
told_alike setup kept k (Some date) covers hints r q = refused_alike (first_refused setup (covers (release setup)) 0 hints) (tried setup kept k date covers hints) r q

pub one_trial : (setup : Lists) (kept : Kept) (k : ℕ) (terms : TrialOptions) (hints : List (List ℕ)) (t u : Trial) → HasPlaces setup kept → release setup < length setup.senders → IsTrial setup kept k terms hints t → IsTrial setup kept k terms hints u → without_reasons t ≡ without_reasons u
one_trial setup kept k terms hints t u places known a b =
    let same : (s : ℕ) → s < length setup.senders → a.covers s ≡ b.covers s = λ s low. one_cover setup kept k terms.all s (a.covers s) (b.covers s) (a.are s low) (b.are s low) in
    let date : Option Date = trial_date (latest_day (orders_to setup kept k)) terms.day in
    ap without_reasons (a.told ∙ told_same setup kept k hints date a.covers b.covers a.reasons (same (release setup) known) (items_same setup kept places a.covers b.covers same))
    ∙ told_alike setup kept k date b.covers hints a.reasons b.reasons
    ∙ ap without_reasons (sym b.told)
