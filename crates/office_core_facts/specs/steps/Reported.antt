-- What a run leaves, by its excuses and its decisions.
use Rattle.std.specs.Prelude.{ℕ, List}
use Rattle.jiff_core.specs.declared.civil.date.Date.{Date}
use Rattle.testing_rules_model.specs.declared.excuse.Excuse.{Excuse}
use Rattle.testing_rules_model.specs.Updates as updates
use Rattle.testing_rules_reports.specs.Reports as texts
use Rattle.office_mail.specs.Lists.{Lists}
use Rattle.office_core_facts.specs.Outcome.{Outcome}

-- the reports on excuses and decisions, and testing as the decisions leave it
abbrev pub reported : Lists → ℕ → Date → List Excuse → updates.Outcome → Outcome
reported setup run date excuses update = record {
  testing = update.suite;
  excuses = texts.excuses_text setup.archs run date excuses;
  updates = texts.update_text setup.archs run date update.decisions;
}
