-- What a replay writes.
use Rattle.std.specs.Prelude.{ℕ, ◌+◌, List, [], ◌∷◌, ◌++◌, codes, Option, Some, None, Result}
use Rattle.office_mail.specs.declared.bag.BagFault.{BagFault}
use Rattle.office_mail.specs.Lists.{Lists}
use Rattle.office_mail.specs.Kept.{Kept, kept_from}
use Rattle.office_core_replies.specs.declared.faults.DeliverFault.{DeliverFault}
use Rattle.office_core_replies.specs.declared.faults.Held.{Held}
use Rattle.office_core_store.specs.declared.faults.StoreFault.{StoreFault}
use Rattle.office_core_store.specs.declared.faults.StoreFault.TheVariants.{NoMemory, Store}
use Rattle.office_core_replies.specs.declared.replies.Delivery.{Delivery}
use Rattle.office_core_facts.specs.OfficeState.{OfficeState}
use Rattle.office_core_facts.specs.Outcome.{reports_of, testing_after, testing_text}
use Rattle.office_core_replies.specs.Replies.{reply_line, reply_by, not_lost, bag_line, status_line}
use Rattle.office_core_facts.specs.State.{answer_to}

-- the answer to a delivery of a replay
abbrev pub reply_to : Lists → Kept → Delivery → Result Held DeliverFault
reply_to setup kept d = reply_by d.mark (answer_to setup kept d.text)

-- the lines that answer deliveries, one after another
abbrev pub reply_lines : Lists → Kept → List Delivery → List ℕ
reply_lines setup kept [] = []
reply_lines setup kept (d ∷ ds) = reply_line setup (reply_to setup kept d) ++ reply_lines setup (kept_from setup kept (not_lost (d ∷ []))) ds

-- a text, or the line in its place if it is missing
abbrev pub or_refused : Option StoreFault → List ℕ → List ℕ
or_refused None text = text
or_refused (Some NoMemory) text = codes "refused NoMemory" ++ 10 ∷ []
or_refused (Some Store) text = codes "refused Store" ++ 10 ∷ []

-- whether the two reports of a run are present
abbrev pub ReportMarks : Type 0
ReportMarks = Option StoreFault × Option StoreFault

-- which texts of the end are present
pub record Marks : Type 0 where
  pub status : Option StoreFault
  -- the finished count after the last settle
  pub count : Option StoreFault
  -- the two reports of each run that was finished, in order
  pub reports : List ReportMarks
  pub testing : Option StoreFault

-- the reports of the runs after run k, one pair of marks for each
abbrev pub report_lines : Lists → Kept → ℕ → List ReportMarks → List ℕ
report_lines setup kept k [] = []
report_lines setup kept k (mark ∷ marks) =
    or_refused mark.0 (reports_of setup kept (k + 1)).excuses ++ or_refused mark.1 (reports_of setup kept (k + 1)).updates
    ++ report_lines setup kept (k + 1) marks

-- if the count is missing, one line replaces all reports
abbrev pub new_reports : Lists → Kept → ℕ → Option StoreFault → List ReportMarks → List ℕ
new_reports setup kept k None reports = report_lines setup kept k reports
new_reports setup kept k (Some fault) reports = or_refused (Some fault) []

-- The texts at the end: the status, the reports of the runs after run k, and testing.
abbrev pub end_lines : OfficeState → ℕ → ℕ → Marks → List ℕ
end_lines s k ready marks =
    or_refused marks.status (status_line ready s.finished)
    ++ new_reports s.setup s.kept k marks.count marks.reports
    ++ or_refused marks.testing (testing_text s.setup s.finished (testing_after s.setup s.kept s.finished))

-- The output of a replay: the reply to each delivery, the bag's refusal, the status, the reports of
-- the runs that it finished, and testing.
abbrev pub output : OfficeState → OfficeState → List Delivery → Option BagFault → ℕ → Marks → List ℕ
output before after deliveries end ready marks =
    reply_lines before.setup before.kept deliveries ++ bag_line end ++ end_lines after before.finished ready marks
