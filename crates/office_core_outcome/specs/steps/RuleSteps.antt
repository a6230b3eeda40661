-- What the rules of a run give.
use Rattle.std.specs.Prelude.{◌≡◌, ℕ}
use Rattle.jiff_core.specs.declared.civil.date.Date.{Date}
use Rattle.testing_rules_model.specs.Covered.{Covered}
use Rattle.testing_rules_model.specs.Excuses.{excuses_of}
use Rattle.testing_rules_model.specs.Suite.{Suite}
use Rattle.testing_rules_model.specs.Updates.{IsUpdate}
use Rattle.office_mail.specs.Lists.{Lists}
use Rattle.office_core_facts.specs.Outcome.{Outcome, outcome}
use Rattle.office_core_outcome.specs.declared.decisions.ToldRun.{ToldRun}
use Rattle.office_core_outcome.specs.declared.rules.Ruled.{Ruled}
use Rattle.office_core_outcome.specs.declared.rules.RunOutcome.{RunOutcome}
use Rattle.office_core_outcome.specs.Trial.{decided, judged_by}
use Rattle.office_core_outcome.specs.WhyRefused.{AreReasons}

-- the outcome in what the rules of a run give
abbrev pub outcome_left : RunOutcome → Outcome
outcome_left left = record { testing = left.testing; excuses = left.excuses; updates = left.updates }

-- what a run decides by its excuses, and the testing that it leaves
pub record IsRuled (setup : Lists) (date : Date) (s : Covered) (old : Suite) (r : Ruled) (new : Suite) : Type 0 where
  pub excuses : r.excuses ≡ excuses_of setup.archs s old date
  pub update : IsUpdate setup.archs s r.excuses old r.update new

-- what a run decides over covered messages, as texts, and why it refuses hints after a number
pub record IsToldRun (setup : Lists) (run : ℕ) (date : Date) (behind : ℕ) (s : Covered) (t : Suite) (told : ToldRun) : Type 0 where
  pub decided_is : told.decided ≡ decided setup run (outcome setup run date s t)
  pub reasons_are : AreReasons (judged_by setup behind date s t) told.reasons
