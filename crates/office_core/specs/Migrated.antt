-- What an office of schema 1 left, whose rows of facts had no place for delays.
use Rattle.std.specs.Prelude.{◌≡◌, length, None, IsSome}
use Rattle.std.specs.FinMap.{get}
use Rattle.testing_rules_model.specs.FactLists.{FactLists}
use Rattle.testing_rules_model.specs.FactRows.{rows_of, times}
use Rattle.testing_rules_model.specs.KeptFacts.{KeptFacts}
use Rattle.testing_rules_model.specs.declared.fact_row.FactRow.{FactRow}
use Rattle.testing_rules_laws.specs.Watched.{AllWatchedWork}
use Rattle.office_mail.specs.Kept.{Place, IsPlace}
use Rattle.office_mail.specs.Lists.{Lists}
use Rattle.office_mail.specs.Runs.{IsReady}
use Rattle.office_store_keeper.specs.Content.{Content}
use Rattle.office_store_keeper.specs.FactSet.{count_in}
use Rattle.office_store_keeper.specs.Provenance.{AreOwnTexts}
use Rattle.office_core_facts.specs.Outcome.{covered_items, reports_to, testing_after}

-- the facts except the last delays
abbrev pub without_delays : FactLists → FactLists
without_delays f = record f { delays = None }

-- The kept rows of facts represent the covered mail of the last finished run over the testing that it left, with
-- exactly the uploads that count there. The last delays have no row.
pub record KeepsFactsBefore (setup : Lists) (content : Content) : Type 0 where
  pub facts : FactLists
  pub kept : KeptFacts facts (covered_items setup content.kept (length content.reports)) content.testing
  pub rows : (r : FactRow) → times r (rows_of (without_delays facts)) ≡ count_in content.facts r

-- What an office of schema 1 left: all that an office leaves, except the row of the last delays.
pub record IsOfficeBefore (setup : Lists) (content : Content) : Type 0 where
  pub places : (p : Place) → IsSome (get content.kept p) → IsPlace setup p
  pub texts : AreOwnTexts setup content.kept
  pub ready : IsReady setup content.kept (length content.reports)
  pub reports : content.reports ≡ reports_to setup content.kept (length content.reports)
  pub testing_is : content.testing ≡ testing_after setup content.kept (length content.reports)
  pub watched : AllWatchedWork setup.archs content.testing.rows
  pub facts : KeepsFactsBefore setup content
