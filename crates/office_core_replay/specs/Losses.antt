-- What a replay lost because memory ran out or the store failed.
use Rattle.std.specs.Prelude.{◌≡◌, ⊤, ℕ, ◌+◌, List, [], ◌∷◌, length, Option, Some, None, Bool, true, false, ◌||◌}
use Rattle.std.specs.List.{AllByRecursion}
use Rattle.office_mail.specs.declared.bag.BagFault.{BagFault}
use Rattle.office_mail.specs.declared.bag.BagFault.TheVariants as bag
use Rattle.office_mail.specs.Runs.{IsReadyCount}
use Rattle.office_core_store.specs.declared.faults.StoreFault.{StoreFault}
use Rattle.office_core_store.specs.declared.faults.StoreFault.TheVariants.{Store}
use Rattle.office_core_replies.specs.declared.replies.Delivery.{Delivery}
use Rattle.office_core_replies.specs.declared.replies.Mark.{Mark}
use Rattle.office_core_replies.specs.declared.replies.Mark.TheVariants.{LostForStore}
use Rattle.office_core_facts.specs.OfficeState.{OfficeState}
use Rattle.office_core_replay.specs.Output.{Marks, ReportMarks}

-- whether a text is missing
abbrev pub is_missing : Option StoreFault → Bool
is_missing None = false
is_missing (Some fault) = true

-- whether a report of one of these runs is
abbrev pub is_report_missing : List ReportMarks → Bool
is_report_missing [] = false
is_report_missing (mark ∷ marks) = (is_missing mark.0 || is_missing mark.1) || is_report_missing marks

-- whether a text of the end is
abbrev pub has_refusal : Marks → Bool
has_refusal marks = (is_missing marks.status || (is_missing marks.count || is_report_missing marks.reports)) || is_missing marks.testing

-- whether the bag ended because memory ran out
abbrev pub is_short : Option BagFault → Bool
is_short (Some bag.NoMemory) = true
is_short _ = false

-- The marks are those of an end: a printed ready count is that of the mail, and each run after run k has its two marks.
pub record MarksEnd (s : OfficeState) (k ready : ℕ) (marks : Marks) : Type 0 where
  pub ready_is : marks.status ≡ None → IsReadyCount s.setup s.kept ready
  pub runs : marks.count ≡ None → k + length marks.reports ≡ s.finished

-- The store counts what it loses: it can lose a delivery only if this holds (its count of refusals rose) ..
abbrev pub DeliveryCounted : Type 0 → Mark → Type 0
DeliveryCounted rose LostForStore = rose
DeliveryCounted rose _ = ⊤

-- .. and so is a text
abbrev pub TextCounted : Type 0 → Option StoreFault → Type 0
TextCounted rose (Some Store) = rose
TextCounted rose _ = ⊤

abbrev pub ReportsCounted : Type 0 → List ReportMarks → Type 0
ReportsCounted rose reports = AllByRecursion (λ mark. TextCounted rose mark.0 × TextCounted rose mark.1) reports

abbrev pub DeliveriesCounted : Type 0 → List Delivery → Type 0
DeliveriesCounted rose deliveries = AllByRecursion (λ d. DeliveryCounted rose d.mark) deliveries

pub record MarksCounted (rose : Type 0) (marks : Marks) : Type 0 where
  pub status : TextCounted rose marks.status
  pub count : TextCounted rose marks.count
  pub reports : ReportsCounted rose marks.reports
  pub testing : TextCounted rose marks.testing
