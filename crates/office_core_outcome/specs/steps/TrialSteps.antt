-- A trial over covers that are known.
use Rattle.std.specs.Prelude.{◌≡◌, ℕ, List, Option}
use Rattle.std.specs.Option.{option_map_or}
use Rattle.jiff_core.specs.declared.civil.date.Date.{Date}
use Rattle.office_mail.specs.Lists.{Lists}
use Rattle.office_mail.specs.Kept.{Kept}
use Rattle.testing_rules_reports.specs.declared.hint_lines.TrialReport.{TrialReport}
use Rattle.office_core_outcome.specs.declared.RefusedHint.{RefusedHint}
use Rattle.office_core_outcome.specs.declared.Trial.{Trial}
use Rattle.office_core_outcome.specs.declared.Trial.TheVariants.{Told, Refused}
use Rattle.office_core_outcome.specs.Trial.{judged, tried}
use Rattle.office_core_outcome.specs.WhyRefused.{AreReasons}

-- the first refused hint, or else what the hints would change, and why some of them are refused
abbrev pub unless_refused : Option RefusedHint → TrialReport → List ℕ → Trial
unless_refused refused t reasons = option_map_or Refused refused (Told t reasons)

-- what hints would change, and why some of them are refused
pub record IsTried (setup : Lists) (kept : Kept) (k : ℕ) (date : Date) (covers : ℕ → ℕ) (hints : List (List ℕ)) (report : TrialReport) (reasons : List ℕ) : Type 0 where
  pub report_is : report ≡ tried setup kept k date covers hints
  pub reasons_are : AreReasons (judged setup kept k date covers hints) reasons
