-- How the texts at the end of a replay are written, one after another.
use Rattle.std.specs.Prelude.{◌≡◌, ℕ, ◌+◌, List, [], ◌++◌, Option, Some, None, Bool, ◌||◌, Result, Ok, Err, length}
use Rattle.std.specs.Io.KnownBytes.{Appends}
use Rattle.office_core_orders.specs.declared.wait_lines.Progress.{Progress}
use Rattle.office_core_store.specs.declared.faults.StoreFault.{StoreFault}
use Rattle.office_core_facts.specs.OfficeState.{OfficeState}
use Rattle.office_mail.specs.Written.{AppendsFront}
use Rattle.office_core_facts.specs.Outcome.{reports_of}
use Rattle.office_core_replay.specs.Output.{Marks, ReportMarks, or_refused, report_lines, new_reports, end_lines}
use Rattle.office_core_replies.specs.Replies.{status_line}
use Rattle.office_core_replay.specs.Losses.{is_missing, is_report_missing, has_refusal, MarksEnd, TextCounted, ReportsCounted, MarksCounted}

-- the mark of a text, from the answer of a call
abbrev pub mark_in : {A : Type 0} → Result A StoreFault → Option StoreFault
mark_in (Ok text) = None
mark_in (Err fault) = Some fault

-- how an answer is shown
abbrev pub status_shown : Result Progress StoreFault → List ℕ
status_shown (Ok progress) = status_line progress.ready progress.finished
status_shown (Err fault) = or_refused (Some fault) []

abbrev pub text_shown : Result (List ℕ) StoreFault → List ℕ
text_shown (Ok text) = text
text_shown (Err fault) = or_refused (Some fault) []

abbrev pub report_shown : Result (Option (List ℕ)) StoreFault → List ℕ
report_shown (Ok (Some text)) = text
report_shown (Ok None) = []
report_shown (Err fault) = or_refused (Some fault) []

-- a run's two reports, or the lines in their place
abbrev pub run_lines : OfficeState → ℕ → ReportMarks → List ℕ
run_lines s run mark = or_refused mark.0 (reports_of s.setup s.kept run).excuses ++ or_refused mark.1 (reports_of s.setup s.kept run).updates

-- a run's reports are written; and whether one is missing
pub record WritesRun (s : OfficeState) (run : ℕ) (old new : Option (List ℕ)) (lost : Bool) (rose : Type 0) : Type 0 where
  pub mark : ReportMarks
  pub written : Appends old new (run_lines s run mark)
  pub losses : lost ≡ (is_missing mark.0 || is_missing mark.1)
  pub by_store : TextCounted rose mark.0 × TextCounted rose mark.1

-- a prefix of them is
pub record WritesRunFront (s : OfficeState) (run : ℕ) (old new : Option (List ℕ)) (rose : Type 0) : Type 0 where
  pub mark : ReportMarks
  pub written : AppendsFront old new (run_lines s run mark)
  pub by_store : TextCounted rose mark.0 × TextCounted rose mark.1

-- the reports of the runs after run k up to run n are written; and whether one is missing
pub record WritesReports (s : OfficeState) (k n : ℕ) (old new : Option (List ℕ)) (lost : Bool) (rose : Type 0) : Type 0 where
  pub marks : List ReportMarks
  pub all : k + length marks ≡ n
  pub written : Appends old new (report_lines s.setup s.kept k marks)
  pub losses : lost ≡ is_report_missing marks
  pub by_store : ReportsCounted rose marks

-- a prefix of them is
pub record WritesReportsFront (s : OfficeState) (k n : ℕ) (old new : Option (List ℕ)) (rose : Type 0) : Type 0 where
  pub marks : List ReportMarks
  pub all : k + length marks ≡ n
  pub written : AppendsFront old new (report_lines s.setup s.kept k marks)
  pub by_store : ReportsCounted rose marks

-- the reports of the runs after run k are written, or one line in their place; and whether one is missing
pub record WritesNews (s : OfficeState) (k : ℕ) (old new : Option (List ℕ)) (lost : Bool) (rose : Type 0) : Type 0 where
  pub count : Option StoreFault
  pub reports : List ReportMarks
  pub all : count ≡ None → k + length reports ≡ s.finished
  pub written : Appends old new (new_reports s.setup s.kept k count reports)
  pub losses : lost ≡ (is_missing count || is_report_missing reports)
  pub by_store : TextCounted rose count × ReportsCounted rose reports

-- a prefix of them is
pub record WritesNewsFront (s : OfficeState) (k : ℕ) (old new : Option (List ℕ)) (rose : Type 0) : Type 0 where
  pub count : Option StoreFault
  pub reports : List ReportMarks
  pub all : count ≡ None → k + length reports ≡ s.finished
  pub written : AppendsFront old new (new_reports s.setup s.kept k count reports)
  pub by_store : TextCounted rose count × ReportsCounted rose reports

-- the texts at the end are written; and whether one is missing
pub record WritesEnd (s : OfficeState) (k : ℕ) (old new : Option (List ℕ)) (lost : Bool) (rose : Type 0) : Type 0 where
  pub ready : ℕ
  pub marks : Marks
  pub each : MarksEnd s k ready marks
  pub written : Appends old new (end_lines s k ready marks)
  pub losses : lost ≡ has_refusal marks
  pub by_store : MarksCounted rose marks

-- a prefix of them is
pub record WritesEndFront (s : OfficeState) (k : ℕ) (old new : Option (List ℕ)) (rose : Type 0) : Type 0 where
  pub ready : ℕ
  pub marks : Marks
  pub each : MarksEnd s k ready marks
  pub written : AppendsFront old new (end_lines s k ready marks)
  pub by_store : MarksCounted rose marks
