-- What runs write and leave.
use Rattle.std.specs.Prelude.{ℕ, zero, suc, List, [], ◌∷◌, ◌++◌, Option, Some, None, option_and_then}
use Rattle.std.specs.List.{filter_map}
use Rattle.std.specs.Result.{result_ok}
use Rattle.std.specs.FinMap.{entries}
use Rattle.jiff_core.specs.declared.civil.date.Date.{Date}
use Rattle.testing_rules_model.specs.declared.excuse.Excuse.{Excuse}
use Rattle.testing_rules_model.specs.Suite.{Suite}
use Rattle.testing_rules_model.specs.Covered.{Covered, CoveredItem}
use Rattle.testing_rules_model.specs.Excuses.{excuses_of}
use Rattle.testing_rules_model.specs.Updates.{update_of}
use Rattle.testing_rules_model.specs.Updates as updates
use Rattle.testing_rules_reports.specs.Reports as texts
use Rattle.office_mail.specs.declared.message.Body.{Body}
use Rattle.office_mail.specs.declared.message.Body.TheVariants.{Item, Run}
use Rattle.office_mail.specs.Lists.{Lists}
use Rattle.office_mail.specs.Read.{read}
use Rattle.office_mail.specs.Kept.{Kept, Place}
use Rattle.office_mail.specs.Runs.{orders_to, latest_day, covered}
use Rattle.office_store_keeper.specs.declared.values.Reports.{Reports}

-- testing as the rules see it
abbrev pub Testing : Type 0
Testing = Suite

-- What the rules see of a message: its item, under its sender and number. A run order says nothing to them.
abbrev pub item_in_body : Place → Body → Option CoveredItem
item_in_body p (Item item) = Some (record { sender = p.0; number = p.1; item = item })
item_in_body p (Run order) = None

-- what a kept text says at its place
unfoldable pub item_at : Lists → Place × List ℕ → Option CoveredItem
item_at setup e = option_and_then (λ message. item_in_body e.0 message.body) (result_ok (read setup e.1))

-- the covered messages of run k
unfoldable pub covered_items : Lists → Kept → ℕ → Covered
covered_items setup kept k = filter_map (item_at setup) (entries (covered setup kept k))

-- what a run decides: testing after it, and the two reports
pub record Outcome : Type 0 where
  pub testing : Testing
  pub excuses : List ℕ
  pub updates : List ℕ

-- The rules of a run, from its number, its date, its covered messages and the testing before it. First come the
-- excuses, then what is decided from them (Debian Developer's Reference 5.13.2).
unfoldable pub outcome : Lists → ℕ → Date → Covered → Testing → Outcome
outcome setup run date mail testing =
    let excuses : List Excuse = excuses_of setup.archs mail testing date in
    let update : updates.Outcome = update_of setup.archs mail excuses testing in
    record { testing = update.suite; excuses = texts.excuses_text setup.archs run date excuses; updates = texts.update_text setup.archs run date update.decisions }

-- nothing has run
abbrev pub at_start : Outcome
at_start = record { testing = record { sources = []; rows = [] }; excuses = []; updates = [] }

-- the outcome if a date is known; there is none without an order
abbrev pub outcome_on : Lists → ℕ → Option Date → Covered → Testing → Outcome
outcome_on setup run None mail testing = at_start
outcome_on setup run (Some date) mail testing = outcome setup run date mail testing

-- run k, over the testing that run k - 1 left
unfoldable pub outcome_of : Lists → Kept → ℕ → Outcome
outcome_of setup kept zero = at_start
outcome_of setup kept (suc k) =
    outcome_on setup (suc k) (latest_day (orders_to setup kept (suc k))) (covered_items setup kept (suc k)) (outcome_of setup kept k).testing

-- the two reports of an outcome
abbrev pub reports_from : Outcome → Reports
reports_from o = record { excuses = o.excuses; updates = o.updates }

-- the reports of run k, and testing after it
abbrev pub reports_of : Lists → Kept → ℕ → Reports
reports_of setup kept k = reports_from (outcome_of setup kept k)

abbrev pub testing_after : Lists → Kept → ℕ → Testing
testing_after setup kept k = (outcome_of setup kept k).testing

-- the reports of runs 1 to k
unfoldable pub reports_to : Lists → Kept → ℕ → List Reports
reports_to setup kept zero = []
reports_to setup kept (suc k) = reports_to setup kept k ++ reports_of setup kept (suc k) ∷ []

-- the text of testing after run k
unfoldable pub testing_text : Lists → ℕ → Testing → List ℕ
testing_text setup finished testing = texts.testing_text setup.archs finished testing
