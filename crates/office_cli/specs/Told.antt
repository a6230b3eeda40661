-- What is told without a run, and its exit status.
use Rattle.std.specs.Prelude.{◌≡◌, ℕ, List, Option, Some, None, option_map, length}
use Rattle.office_core_facts.specs.Outcome.{testing_after, testing_text}
use Rattle.office_core_facts.specs.OfficeState.{OfficeState}
use Rattle.office_core_facts.specs.State.{reports_at}
use Rattle.office_core.specs.Unbroken.{AreUnbroken}
use Rattle.office_core_queries.specs.NextOrder.{order_text}
use Rattle.office_core_why.specs.UnstableText.{IsUnstableText}
use Rattle.jiff_core.specs.declared.civil.date.Date.{Date}
use Rattle.office_cli_words.specs.declared.reports.Report.{Report}
use Rattle.office_cli_words.specs.declared.reports.Report.TheVariants.{Testing, Unstable, Excuses, Update}
use Rattle.office_core_queries.specs.declared.mail.MailCount.{MailCount}
use Rattle.office_core_queries.specs.Mail.{AreMailCounts, mail_text}

-- the text of a report in an office's state, none if its run isn't finished
abbrev pub IsReportText : OfficeState → Report → Option (List ℕ) → Type 0
IsReportText state Testing told = told ≡ Some (testing_text state.setup state.finished (testing_after state.setup state.kept state.finished))
IsReportText state Unstable None = ⊥
IsReportText state Unstable (Some text) = IsUnstableText state.setup state.kept state.finished text
IsReportText state (Excuses run) told = told ≡ option_map (λ reports. reports.excuses) (reports_at state run)
IsReportText state (Update run) told = told ≡ option_map (λ reports. reports.updates) (reports_at state run)

-- the text on how much mail an office keeps of each sender
pub record TellsMail (state : OfficeState) (text : List ℕ) : Type 0 where
  pub counts : List MailCount
  pub counted : AreMailCounts state.kept (length state.setup.senders) counts
  pub text_is : text ≡ mail_text state.setup counts

-- a text is the next order on a day
pub record TellsOrder (state : OfficeState) (day : Date) (text : List ℕ) : Type 0 where
  pub unbroken : ℕ → ℕ
  pub are : AreUnbroken state.kept unbroken
  pub text_is : text ≡ order_text state.setup unbroken day
