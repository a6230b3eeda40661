-- What a trial of hints covers, and what it reports.
use Rattle.std.specs.Prelude.{◌≡◌, ⊤, ℕ, ◌+◌, List, [], ◌++◌, Option, Some, None}
use Rattle.std.specs.Option.{option_map_or}
use Rattle.jiff_core.specs.declared.civil.date.Date.{Date}
use Rattle.testing_rules_model.specs.Covered.{Covered}
use Rattle.testing_rules_model.specs.Excuses.{excuses_of}
use Rattle.testing_rules_model.specs.Suite.{Suite}
use Rattle.testing_rules_model.specs.Unstable.{hints_by_number, unhints_by_number, unstable_rows, unstable_sources}
use Rattle.office_mail.specs.Lists.{Lists}
use Rattle.office_mail.specs.Kept.{Kept}
use Rattle.office_mail.specs.Runs.{later, latest_day, orders_to}
use Rattle.office_core_replies.specs.Replies.{name_at}
use Rattle.office_core_facts.specs.Outcome.{Outcome, outcome, testing_after, testing_text}
use Rattle.office_core_facts.specs.Seen.{AreTrialCovers, items_within, release}
use Rattle.testing_rules_reports.specs.declared.hint_lines.Decided.{Decided}
use Rattle.testing_rules_reports.specs.declared.hint_lines.TrialReport.{TrialReport}
use Rattle.testing_rules_reports.specs.Tried.{tried_text}
use Rattle.office_core_outcome.specs.declared.TrialOptions.{TrialOptions}
use Rattle.office_core_outcome.specs.declared.Trial.{Trial}
use Rattle.office_core_outcome.specs.declared.Trial.TheVariants.{Told, NoDate, Refused}
use Rattle.office_core_outcome.specs.Hints.{hint_letters, first_refused, with_letters}
use Rattle.office_core_outcome.specs.WhyRefused.{AreReasons, Judged}

-- the date of a trial: the later of the last run's date and a given day
abbrev pub trial_date : Option Date → Option Date → Option Date
trial_date None day = day
trial_date (Some last) None = Some last
trial_date (Some last) (Some day) = Some (later last day)

-- what a run decides, as texts
abbrev pub decided : Lists → ℕ → Outcome → Decided
decided setup run o = record { excuses = o.excuses; updates = o.updates; testing = testing_text setup run o.testing }

-- what run k + 1 decides without the hints, and with their messages
abbrev pub tried : Lists → Kept → ℕ → Date → (ℕ → ℕ) → List (List ℕ) → TrialReport
tried setup kept k date covers hints =
    let mail : Covered = items_within setup kept covers in
    let before : Suite = testing_after setup kept k in
    record {
      run = k + 1;
      date = date;
      first = covers (release setup) + 1;
      without = decided setup (k + 1) (outcome setup (k + 1) date mail before);
      with = decided setup (k + 1) (outcome setup (k + 1) date (with_letters setup (release setup) (hint_letters setup (covers (release setup)) hints) mail) before);
    }

-- a run over covered messages that reports on the release team's hints after a number
unfoldable pub judged_by : Lists → ℕ → Date → Covered → Suite → Judged
judged_by setup behind date mail t = record {
  sender = name_at setup (release setup);
  behind = behind;
  archs = setup.archs;
  sources = unstable_sources mail;
  rows = unstable_rows setup.archs mail;
  excuses = excuses_of setup.archs mail t date;
  hints = hints_by_number mail;
  unhints = unhints_by_number mail;
  testing = t;
}

-- run k + 1 with the hints
abbrev pub judged : Lists → Kept → ℕ → Date → (ℕ → ℕ) → List (List ℕ) → Judged
judged setup kept k date covers hints =
    judged_by setup (covers (release setup)) date (with_letters setup (release setup) (hint_letters setup (covers (release setup)) hints) (items_within setup kept covers)) (testing_after setup kept k)

-- What a trial reports: the first refused hint, or else what the hints would change, and why some of them are refused.
-- There is no date if no run is finished and no day is given.
abbrev pub told_on : Lists → Kept → ℕ → Option Date → (ℕ → ℕ) → List (List ℕ) → List ℕ → Trial
told_on setup kept k None covers hints reasons = NoDate
told_on setup kept k (Some date) covers hints reasons = option_map_or Refused (first_refused setup (covers (release setup)) 0 hints) (Told (tried setup kept k date covers hints) reasons)

-- its lines on why hints are refused are right
abbrev pub IsReasoned : Lists → Kept → ℕ → (ℕ → ℕ) → List (List ℕ) → Trial → Type 0
IsReasoned setup kept k covers hints (Told t reasons) = AreReasons (judged setup kept k t.date covers hints) reasons
IsReasoned setup kept k covers hints _ = ⊤

-- A trial of hints after k finished runs.
pub record IsTrial (setup : Lists) (kept : Kept) (k : ℕ) (terms : TrialOptions) (hints : List (List ℕ)) (trial : Trial) : Type 0 where
  pub covers : ℕ → ℕ
  pub are : AreTrialCovers setup kept k terms.all covers
  pub reasons : List ℕ
  pub told : trial ≡ told_on setup kept k (trial_date (latest_day (orders_to setup kept k)) terms.day) covers hints reasons
  pub reasoned : IsReasoned setup kept k covers hints trial

-- a trial without the lines on why hints are refused
abbrev pub without_reasons : Trial → Trial
without_reasons (Told t reasons) = Told t []
without_reasons NoDate = NoDate
without_reasons (Refused refused) = Refused refused

-- the text of a trial: what hints of a sender would change, and then why some of them are refused
abbrev pub trial_text : List ℕ → List (List ℕ) → TrialReport → List ℕ → List ℕ
trial_text sender hints report reasons = tried_text sender hints report ++ reasons
