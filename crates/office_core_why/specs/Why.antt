-- Why a source is where the last finished run left it. That a source has a text of its own is this office's choice; the
-- text states the rules of the run (Debian Developer's Reference 5.13.2).
use Rattle.std.specs.Prelude.{◌≡◌, ◌⊎◌, ℕ, Bool, true, false, if◌then◌else◌, List, [], ◌∷◌, ◌++◌, codes, map, filter, is_some, Option, Some, None}
use Rattle.jiff_core.specs.declared.civil.date.Date.{Date}
use Rattle.testing_rules_items.specs.Words.{Text}
use Rattle.testing_rules_model.specs.declared.excuse.Excuse.{Excuse}
use Rattle.testing_rules_model.specs.declared.facts.BugIn.{BugIn}
use Rattle.testing_rules_model.specs.declared.facts.HintIn.{HintIn}
use Rattle.testing_rules_model.specs.declared.facts.UploadIn.{UploadIn}
use Rattle.testing_rules_model.specs.declared.suite.RowIn.{RowIn}
use Rattle.testing_rules_model.specs.Covered.{Covered}
use Rattle.testing_rules_model.specs.Excuses.{excuses_of, testing_version}
use Rattle.testing_rules_model.specs.Moves.{source_in}
use Rattle.testing_rules_model.specs.Suite.{Suite}
use Rattle.testing_rules_model.specs.Unstable.{bug_states, in_force, is_of_source, unstable_rows, unstable_sources}
use Rattle.testing_rules_model.specs.Updates.{is_in_testing, offender_alone}
use Rattle.testing_rules_excuses.specs.Lines.{IsOriginText}
use Rattle.testing_rules_excuses.specs.Said.{SaidLists}
use Rattle.testing_rules_excuses.specs.States.{excuse_of}
use Rattle.testing_rules_refusals.specs.Alone.{IsToldAlone}
use Rattle.office_mail_setup.specs.Lists.{Lists}
use Rattle.office_mail.specs.Kept.{Kept}
use Rattle.office_mail.specs.Runs.{latest_day, orders_to}
use Rattle.office_store_keeper.specs.declared.values.Reports.{Reports}
use Rattle.office_core_facts.specs.Outcome.{covered_items, reports_of, testing_after}
use Rattle.testing_rules_reports.specs.Reports.{line}
use Rattle.testing_rules_reports.specs.Sources.{source_text, waits_in}
use Rattle.office_core_why.specs.Later.{later_lines}
use Rattle.office_core_why.specs.declared.WhyText.{WhyText}

-- unstable as messages give it: its sources and rows, the states of bugs, and the hints in force
pub record Unstable : Type 0 where
  pub sources : List UploadIn
  pub rows : List RowIn
  pub bugs : List BugIn
  pub hints : List HintIn

abbrev pub unstable_in : List Text → Covered → Unstable
unstable_in archs s = record { sources = unstable_sources s; rows = unstable_rows archs s; bugs = bug_states s; hints = in_force s }

-- the names of the senders
abbrev pub sender_names : Lists → List Text
sender_names setup = map (λ sender. sender.name) setup.senders

-- what is said of an unstable source over a testing
abbrev pub said_in : Unstable → Suite → UploadIn → SaidLists
said_in unstable t u = record { rows = filter (is_of_source u) unstable.rows; bugs = unstable.bugs; hints = unstable.hints; testing = testing_version t u.source }

-- The lines on a source that has nothing to move. It is unknown if unstable, the origin of all of testing, doesn't have
-- it; or testing has it at unstable's version, which the first line gives, before those of its later rows.
abbrev pub standing_lines : List Text → List Text → List RowIn → Suite → Text → Option UploadIn → Text
standing_lines senders archs rows t source None = line (codes "unknown" ∷ source ∷ [])
standing_lines senders archs rows t source (Some u) =
    if is_in_testing t source u.version then line (codes "in testing" ∷ u.version ∷ []) ++ later_lines senders archs t rows u else []

-- The lines on the origin of the reasons that keep a source out: its upload, and what gave each reason of its excuse.
-- There are none if unstable doesn't have the source.
abbrev pub AreOrigins : List Text → List Text → Unstable → Suite → Option Excuse → Option UploadIn → Text → Type 0
AreOrigins senders archs unstable t excuse None text = text ≡ []
AreOrigins senders archs unstable t excuse (Some u) text = IsOriginText senders archs (said_in unstable t u) u excuse text

-- The lines on why a source can't move alone: those of a list that shows it, or none if the move breaks nothing (Debian
-- Developer's Reference 5.13.2). There are none if the source has no excuse.
abbrev pub IsRefused : List Text → Unstable → Suite → List Excuse → Option Excuse → Text → Type 0
IsRefused archs unstable t excuses None text = text ≡ []
IsRefused archs unstable t excuses (Some e) text =
    IsToldAlone archs unstable.sources unstable.rows excuses t e text
    ⊎ ((offender_alone archs unstable.sources unstable.rows t e ≡ None) × (text ≡ []))

-- they are printed for a source that waits, and for no other
abbrev pub IsRefusedWhere : Bool → List Text → Unstable → Suite → List Excuse → Option Excuse → Text → Type 0
IsRefusedWhere true archs unstable t excuses excuse text = IsRefused archs unstable t excuses excuse text
IsRefusedWhere false archs unstable t excuses excuse text = text ≡ []

-- The text on a source, from a run's reports and the unstable, testing and excuses that it left: its lines of the
-- reports, its state, the origin of its excuse's reasons, and last why it can't move alone. It is known if in unstable.
pub record IsToldBy (senders archs : List Text) (unstable : Unstable) (t : Suite) (excuses : List Excuse) (run : ℕ) (reports : Reports) (source : Text) (told : WhyText) : Type 0 where
  pub origins : Text
  pub refusal : Text
  pub come : AreOrigins senders archs unstable t (excuse_of excuses source) (source_in unstable.sources source) origins
  pub refused : IsRefusedWhere (waits_in source reports.updates) archs unstable t excuses (excuse_of excuses source) refusal
  pub is : told.text ≡ source_text run source reports.excuses reports.updates (standing_lines senders archs unstable.rows t source (source_in unstable.sources source) ++ origins) ++ refusal
  pub known : told.is_known ≡ is_some (source_in unstable.sources source)

-- the same over covered messages and the testing that a run of this date left: its excuses are of the messages over it
abbrev pub IsToldOf : List Text → List Text → Covered → Suite → ℕ → Date → Reports → Text → WhyText → Type 0
IsToldOf senders archs s t run date reports source told = IsToldBy senders archs (unstable_in archs s) t (excuses_of archs s t date) run reports source told

abbrev pub IsTold : Lists → Covered → Suite → ℕ → Date → Reports → Text → WhyText → Type 0
IsTold setup s t run date reports source told = IsToldOf (sender_names setup) setup.archs s t run date reports source told

-- the same for run k, which was on this day
pub record IsWhyAfter (setup : Lists) (kept : Kept) (k : ℕ) (source : Text) (why : WhyText) : Type 0 where
  pub date : Date
  pub dated : latest_day (orders_to setup kept k) ≡ Some date
  pub told : IsTold setup (covered_items setup kept k) (testing_after setup kept k) k date (reports_of setup kept k) source why

-- why a source is where run k, the last finished one, left it; none if no run is finished
abbrev pub IsWhy : Lists → Kept → ℕ → Text → Option WhyText → Type 0
IsWhy setup kept k source None = k ≡ 0
IsWhy setup kept k source (Some why) = IsWhyAfter setup kept k source why
