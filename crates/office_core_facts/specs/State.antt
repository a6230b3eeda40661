-- What is true of every office, and its answers.
use Rattle.std.specs.Prelude.{◌≡◌, ℕ, ◌⊎◌, List, length, Option, Some, None, Result, Ok, Err, IsSome, bytes_eq, nat_le, ◌&&◌, if◌then◌else◌}
use Rattle.std.specs.FinMap.{get}
use Rattle.office_mail.specs.declared.message.Message.{Message}
use Rattle.office_mail.specs.declared.message.MailFault.{MailFault}
use Rattle.office_mail.specs.declared.message.MailFault.TheVariants.{NoMemory}
use Rattle.office_mail.specs.Lists.{Lists}
use Rattle.office_mail.specs.Kept.{Kept, Place, IsPlace, place_of}
use Rattle.office_mail.specs.Read.{read}
use Rattle.office_mail.specs.Runs.{IsReady}
use Rattle.office_core_replies.specs.declared.faults.DeliverFault.{DeliverFault}
use Rattle.office_core_replies.specs.declared.faults.DeliverFault.TheVariants.{Mail, OtherText, Store}
use Rattle.office_core_replies.specs.declared.faults.Held.{Held}
use Rattle.office_store_keeper.specs.Content.{Content}
use Rattle.office_store_keeper.specs.FactSet.{count_in}
use Rattle.office_store_keeper.specs.Provenance.{AreOwnTexts}
use Rattle.office_store_keeper.specs.declared.values.Reports.{Reports}
use Rattle.office_store_keeper.specs.declared.keeper.Keeper.{Ghosts}
use Rattle.office_core_facts.specs.OfficeState.{OfficeState}
use Rattle.office_core_facts.specs.Outcome.{covered_items, reports_of, reports_to, testing_after}
use Rattle.testing_rules_model.specs.FactLists.{FactLists}
use Rattle.testing_rules_model.specs.FactRows.{rows_of, times}
use Rattle.testing_rules_model.specs.KeptFacts.{KeptFacts}
use Rattle.testing_rules_model.specs.declared.fact_row.FactRow.{FactRow}
use Rattle.testing_rules_model.specs.Watched.{AllWatchedWork}

-- the state of the office that a store holds
abbrev pub state_of : {K : Type 0} → Ghosts K → K → OfficeState
state_of keeper store = record { setup = keeper.setup store; kept = (keeper.content store).kept; finished = length (keeper.content store).reports }

-- The kept rows of facts represent the covered mail of the last finished run over the testing that it left, with
-- exactly the uploads that count there.
pub record KeepsFacts (setup : Lists) (content : Content) : Type 0 where
  pub facts : FactLists
  pub kept : KeptFacts facts (covered_items setup content.kept (length content.reports)) content.testing
  pub rows : (r : FactRow) → times r (rows_of facts) ≡ count_in content.facts r

-- Each text is kept at its own place, which a message may have. The finished runs are ready. Their reports are as
-- decided, so is testing, whose watched rows are all installable, and so are the facts of what they cover.
pub record IsOffice (setup : Lists) (content : Content) : Type 0 where
  pub places : (p : Place) → IsSome (get content.kept p) → IsPlace setup p
  pub texts : AreOwnTexts setup content.kept
  pub ready : IsReady setup content.kept (length content.reports)
  pub reports : content.reports ≡ reports_to setup content.kept (length content.reports)
  pub testing_is : content.testing ≡ testing_after setup content.kept (length content.reports)
  pub watched : AllWatchedWork setup.archs content.testing.rows
  pub facts : KeepsFacts setup content

-- the store holds what an office leaves
abbrev pub IsSound : {K : Type 0} → Ghosts K → K → Type 0
IsSound keeper store = keeper.is_legible store × IsOffice (keeper.setup store) (keeper.content store)

abbrev pub held_at : Message → Held
held_at message = record { sender = message.sender; number = message.number }

-- the answer to a message, by the text that is kept at its place
abbrev pub answer_at : List ℕ → Message → Option (List ℕ) → Result Held DeliverFault
answer_at text message None = Ok (held_at message)
answer_at text message (Some kept) = if bytes_eq kept text then Ok (held_at message) else Err OtherText

abbrev pub answer_by : Kept → List ℕ → Result Message MailFault → Result Held DeliverFault
answer_by kept text (Ok message) = answer_at text message (get kept (place_of message))
answer_by kept text (Err fault) = Err (Mail fault)

-- the answer to a delivery: the sender and number of a text that is kept then, the refusal of any other
unfoldable pub answer_to : Lists → Kept → List ℕ → Result Held DeliverFault
answer_to setup kept text = answer_by kept text (read setup text)

-- an answer is the one that is due, unless memory ran out or the store failed
abbrev pub AnswersDelivery : Result Held DeliverFault → Result Held DeliverFault → Type 0
AnswersDelivery result due = (result ≡ due) ⊎ (result ≡ Err (Mail NoMemory)) ⊎ (result ≡ Err Store)

-- the reports of a finished run; none of another
abbrev pub reports_at : OfficeState → ℕ → Option Reports
reports_at s run = if nat_le 1 run && nat_le run s.finished then Some (reports_of s.setup s.kept run) else None
