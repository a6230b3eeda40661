-- The parts of the outcome of one connection: how it is answered, and how it stops.
use Rattle.std.specs.Prelude.{◌≡◌, ◌⊎◌, ◌≤◌, ◌+◌, ℕ, Bool, true, false, List, ◌++◌, length, Option, Some, None, IfSome, Result, Ok, Err, if◌then◌else◌}
use Rattle.std.specs.Option.{option_map_or}
use Rattle.std.specs.Io.KnownBytes.{Appends, Consumes}
use Rattle.office_mail.specs.Runs.{IsReadyCount}
use Rattle.office_core_orders.specs.declared.wait_lines.Progress.{Progress}
use Rattle.office_core_store.specs.declared.faults.StoreFault.{StoreFault}
use Rattle.office_core_orders.specs.declared.wait_lines.Awaited.{Awaited}
use Rattle.office_core_orders.specs.WaitingLines.{waiting_text}
use Rattle.office_http_requests.specs.declared.reply.Refusal.TheVariants as refusal
use Rattle.office_http_requests.specs.declared.reply.Answer.{Answer}
use Rattle.office_http_requests.specs.declared.reply.Answer.TheVariants.{Refused, Status, Told, Letter}
use Rattle.office_http_requests.specs.declared.request.Action.{Action}
use Rattle.office_http_requests.specs.declared.request.Page.{Page}
use Rattle.office_http_requests.specs.declared.request.Page.TheVariants as page
use Rattle.office_http_requests.specs.declared.request.Asked.{Asked}
use Rattle.office_http.specs.declared.serve.ServeFault.{ServeFault}
use Rattle.office_http.specs.declared.serve.ServeFault.TheVariants.{Read, Write}
use Rattle.office_http_requests.specs.Asked.{body_size}
use Rattle.office_core_replay.specs.Losses.{TextCounted}
use Rattle.office_http_requests.specs.Request.{body_room}
use Rattle.office_core_facts.specs.OfficeState.{OfficeState}
use Rattle.office_core_orders.specs.Waiting.{Awaits}
use Rattle.office_mail.specs.Written.{AppendsFront}
use Rattle.office_core_breaks.specs.Told.{IsBreaks}
use Rattle.office_core_breaks.specs.declared.BreaksText.{BreaksText}
use Rattle.office_core_breaks.specs.declared.asked.Question.{Question}
use Rattle.office_core_outcome.specs.declared.Trial.{Trial}
use Rattle.office_core_outcome.specs.declared.TrialOptions.{TrialOptions}
use Rattle.office_core_outcome.specs.Trial.{IsTrial}
use Rattle.office_core_outcome.specs.declared.proposal.Proposal.{Proposal}
use Rattle.office_http.specs.Serve.{refusal_for, by_fault, added_page, page_answer, action_answer, posted_body, answer_of, proposal_answer, waits_of, continued, Found, IsFoundForAsked, IsFoundBy, IsFoundFor, IsProposedFor, Moves, Does, IsWhole, IsAwaited, StopsBefore, Exchange}
use Rattle.office_core_why.specs.declared.WhyText.{WhyText}
use Rattle.office_http.specs.Breaks.{IsBreaksBy, are_many, breaks_answer, changes_answer, first_change}
use Rattle.office_http.specs.Trials.{trial_answer}

-- the answers of the office's calls
abbrev pub status_answer : Result Progress StoreFault → Answer
status_answer (Ok progress) = Status progress
status_answer (Err f) = Refused (refusal_for f)

abbrev pub report_answer : Result (Option (List ℕ)) StoreFault → Answer
report_answer (Ok text) = option_map_or Told text (Refused refusal.NoRun)
report_answer (Err f) = Refused (refusal_for f)

-- the text on a source, if unstable has it
abbrev pub if_known : Bool → List ℕ → Answer
if_known known text = if known then Told text else Refused refusal.NoSource

abbrev pub why_answer : Result (Option WhyText) StoreFault → Answer
why_answer (Ok why) = option_map_or (λ (w : WhyText). if_known w.is_known w.text) why (Refused refusal.NoRun)
why_answer (Err f) = Refused (refusal_for f)

abbrev pub letter_answer : Result (Option (List ℕ)) StoreFault → Answer
letter_answer (Ok text) = option_map_or Letter text (Refused refusal.NoMessage)
letter_answer (Err f) = Refused (refusal_for f)

-- the answer to a text that a sender's path delivers
abbrev pub unless_other : Bool → Answer → Answer
unless_other other due = if other then Refused refusal.OtherSender else due

-- the answer to a POST, which is refused if the input ends within its body
abbrev pub post_answer : OfficeState → Found → Option (Action × List ℕ) → Answer
post_answer s found post = option_map_or (λ (p : Action × List ℕ). action_answer s found p.0 p.1) post (Refused refusal.BadRequest)

abbrev pub IsFoundByPost : OfficeState → Found → Option (Action × List ℕ) → Type 0
IsFoundByPost s found post = IfSome post (λ (p : Action × List ℕ). IsFoundBy s found p.0 p.1)

abbrev pub text_answer : Result (List ℕ) StoreFault → Answer
text_answer (Ok text) = Told text
text_answer (Err f) = Refused (refusal_for f)

abbrev pub part_answer : Result (List ℕ) StoreFault → Answer
part_answer (Ok bag) = Letter bag
part_answer (Err f) = Refused (refusal_for f)

-- the text on what the run after the ready ones waits for
pub record TellsAwaited (s : OfficeState) (text : List ℕ) : Type 0 where
  pub ready : ℕ
  pub counts : IsReadyCount s.setup s.kept ready
  pub awaited : Awaited
  pub awaits : Awaits s.setup s.kept (ready + 1) awaited
  pub text_is : text ≡ waiting_text s.setup (record { progress = record { ready = ready; finished = s.finished }; awaited = awaited })

-- the answer of a call on the office, or to a fault
abbrev pub answer_or : Result Answer StoreFault → Answer
answer_or (Ok answer) = answer
answer_or (Err f) = Refused (refusal_for f)

-- the answer to hints, given the report of their trial
pub record TellsTrial (s : OfficeState) (terms : TrialOptions) (hints : List (List ℕ)) (answer : Answer) : Type 0 where
  pub trial : Trial
  pub tried : IsTrial s.setup s.kept s.finished terms hints trial
  pub answer_is : answer ≡ trial_answer s.setup hints trial

-- the answer to a request for hints that free these sources, or that move groups
pub record TellsProposal (s : OfficeState) (terms : TrialOptions) (sources : List (List ℕ)) (answer : Answer) : Type 0 where
  pub proposal : Option Proposal
  pub proposed : IsProposedFor s terms sources proposal
  pub answer_is : answer ≡ proposal_answer proposal

-- the answer to what is told of a question, none if no run is finished
abbrev pub told_answer : Option BreaksText → Answer
told_answer None = Refused refusal.NoRun
told_answer (Some told) = Told told.text

-- the answer to a question on what a change breaks
pub record TellsQuestion (s : OfficeState) (question : Question) (answer : Answer) : Type 0 where
  pub told : Option BreaksText
  pub is : IsBreaks s.setup s.kept s.finished question told
  pub answer_is : answer ≡ told_answer told

-- the answer to words that ask it
pub record TellsBreaks (s : OfficeState) (words : List ℕ) (answer : Answer) : Type 0 where
  pub told : Option BreaksText
  pub is : IsBreaksBy s words told
  pub answer_is : answer ≡ breaks_answer s.setup words told

-- the answer to changes
pub record TellsChanges (s : OfficeState) (changes : List (List ℕ)) (answer : Answer) : Type 0 where
  pub told : Option BreaksText
  pub is : are_many changes ≡ false → IsBreaksBy s (first_change changes) told
  pub answer_is : answer ≡ changes_answer s.setup changes told

-- the text of a page, however long it is
abbrev pub whole_page : OfficeState → Found → Page → Answer
whole_page s found page.Status = page_answer s found page.Status
whole_page s found page.Testing = page_answer s found page.Testing
whole_page s found (page.Excuses run) = page_answer s found (page.Excuses run)
whole_page s found (page.Update run) = page_answer s found (page.Update run)
whole_page s found added = added_page s found added

-- it was answered
pub record Tells (s : OfficeState) (page : Page) (answer : Answer) (rose : Type 0) : Type 0 where
  -- what was met
  pub fault : Option StoreFault
  pub by_store : TextCounted rose fault
  pub found : Found
  pub is : fault ≡ None → IsFoundFor s found page
  pub answer_is : answer ≡ by_fault fault (whole_page s found page)

-- a page was answered
pub record TellsShort (s : OfficeState) (page : Page) (answer : Answer) (rose : Type 0) : Type 0 where
  pub fault : Option StoreFault
  pub by_store : TextCounted rose fault
  pub found : Found
  pub is : fault ≡ None → IsFoundFor s found page
  pub answer_is : answer ≡ by_fault fault (page_answer s found page)

-- a POST was done
pub record Runs (before after : OfficeState) (action : Action) (body : List ℕ) (answer : Answer) (rose : Type 0) : Type 0 where
  pub fault : Option StoreFault
  pub by_store : TextCounted rose fault
  pub found : Found
  pub is : fault ≡ None → IsFoundBy before found action body
  pub answer_is : answer ≡ by_fault fault (action_answer before found action body)
  pub moves : Moves before after action body fault found.ready rose

-- A request was answered: the bytes after its head, with those that came before, the faults that were met, the answer,
-- and what was done. If the client waited, 100 Continue was written first; nothing else yet.
pub record Answers (before after : OfficeState) (left left' written written' : Option (List ℕ)) (front : List ℕ) (asked : Asked) (answer : Answer) (rose : Type 0) : Type 0 where
  pub more : List ℕ
  pub took : Consumes left left' more
  -- nothing more was read, or no more than the body
  pub few : (length more ≡ 0) ⊎ (length (front ++ more) ≤ body_size asked)
  pub fault : Option StoreFault
  pub by_store : TextCounted rose fault
  pub found : Found
  pub whole : fault ≡ None → IsWhole asked (front ++ more) left'
  pub is : fault ≡ None → IsFoundForAsked before found asked (front ++ more)
  pub answer_is : answer ≡ by_fault fault (answer_of before found asked (front ++ more))
  pub does : Does before after (posted_body asked (front ++ more)) fault found.ready rose
  pub goes_on : Bool
  pub wrote : Appends written written' (continued goes_on)
  pub went : fault ≡ None → goes_on ≡ waits_of asked
  pub waited : goes_on ≡ true → waits_of asked ≡ true

-- the same if these bytes have come, with a head first: no public contract cites these two
pub record ServesHead (before after : OfficeState) (left left' written written' : Option (List ℕ)) (seen : List ℕ) (code : ℕ) (rose : Type 0) : Type 0 where
  pub more : List ℕ
  pub took : Consumes left left' more
  pub told : List ℕ
  pub reply : List ℕ
  pub exchange : Exchange before after left' (seen ++ more) told reply code rose
  pub wrote : Appends written written' (told ++ reply)

pub record ServesFront (before after : OfficeState) (left left' written written' : Option (List ℕ)) (seen : List ℕ) (rose : Type 0) : Type 0 where
  pub more : List ℕ
  pub took : Consumes left left' more
  pub told : List ℕ
  pub reply : List ℕ
  pub code : ℕ
  pub exchange : Exchange before after left' (seen ++ more) told reply code rose
  pub between : Option (List ℕ)
  pub first : Appends written between told
  pub wrote : AppendsFront between written' reply

abbrev pub StopsRequest : OfficeState → OfficeState → Option (List ℕ) → Option (List ℕ) → Option (List ℕ) → Option (List ℕ) → List ℕ → ServeFault → Type 0 → Type 0
StopsRequest before after left left' written written' seen Read rose = StopsBefore before after left left' written written' body_room (λ more. IsAwaited before.setup (seen ++ more))
StopsRequest before after left left' written written' seen Write rose = StopsBefore before after left left' written written' body_room (λ more. IsAwaited before.setup (seen ++ more)) ⊎ ServesFront before after left left' written written' seen rose
