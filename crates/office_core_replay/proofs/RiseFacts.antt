-- What the store loses is counted: what holds of a smaller rise of its count holds of a greater one.
use Rattle.std.proofs.Common.{◌≡◌, List, [], ◌∷◌, Option, Some, None, Result, Ok, Err, refl}
use Rattle.office_core_store.specs.declared.faults.StoreFault.{StoreFault}
use Rattle.office_core_store.specs.declared.faults.StoreFault.TheVariants.{NoMemory, Store}
use Rattle.office_core_replies.specs.declared.replies.Delivery.{Delivery}
use Rattle.office_core_replies.specs.declared.replies.Mark.{Mark}
use Rattle.office_core_replies.specs.declared.replies.Mark.TheVariants.{Taken, LostForMemory, LostForStore}
use Rattle.office_core_replay.specs.Output.{Marks, ReportMarks}
use Rattle.office_core_replay.specs.steps.Ending.{mark_in}
use Rattle.office_core_replay.specs.Losses.{DeliveryCounted, TextCounted, ReportsCounted, DeliveriesCounted, MarksCounted}

pub delivery_weaker : (P Q : Type 0) (mark : Mark) → (P → Q) → DeliveryCounted P mark → DeliveryCounted Q mark
delivery_weaker P Q Taken f h = tt
delivery_weaker P Q LostForMemory f h = tt
delivery_weaker P Q LostForStore f h = f h

pub deliveries_weaker : (P Q : Type 0) (ds : List Delivery) → (P → Q) → DeliveriesCounted P ds → DeliveriesCounted Q ds
deliveries_weaker P Q [] f h = tt
deliveries_weaker P Q (d ∷ ds) f h = (delivery_weaker P Q d.mark f h.0, deliveries_weaker P Q ds f h.1)

pub text_weaker : (P Q : Type 0) (mark : Option StoreFault) → (P → Q) → TextCounted P mark → TextCounted Q mark
text_weaker P Q None f h = tt
text_weaker P Q (Some NoMemory) f h = tt
text_weaker P Q (Some Store) f h = f h

pub reports_weaker : (P Q : Type 0) (marks : List ReportMarks) → (P → Q) → ReportsCounted P marks → ReportsCounted Q marks
reports_weaker P Q [] f h = tt
reports_weaker P Q (m ∷ ms) f h = ((text_weaker P Q m.0 f h.0.0, text_weaker P Q m.1 f h.0.1), reports_weaker P Q ms f h.1)

pub marks_weaker : (P Q : Type 0) (marks : Marks) → (P → Q) → MarksCounted P marks → MarksCounted Q marks
marks_weaker P Q marks f h = record {
  status = text_weaker P Q marks.status f h.status;
  count = text_weaker P Q marks.count f h.count;
  reports = reports_weaker P Q marks.reports f h.reports;
  testing = text_weaker P Q marks.testing f h.testing;
}

-- what the store's answer needs, a text that it lost has
pub text_counted : {A : Type 0} (rose : Type 0) (r : Result A StoreFault) → (r ≡ Err Store → rose) → TextCounted rose (mark_in r)
text_counted rose (Ok x) h = tt
text_counted rose (Err NoMemory) h = tt
text_counted rose (Err Store) h = h refl

pub fault_counted : (rose : Type 0) (fault : StoreFault) → (fault ≡ Store → rose) → TextCounted rose (Some fault)
fault_counted rose NoMemory h = tt
fault_counted rose Store h = h refl
