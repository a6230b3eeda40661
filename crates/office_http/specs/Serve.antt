-- The outcome of one connection: the reply as a function of the request, the office's state and the faults met.
use Rattle.std.specs.Prelude.{◌≡◌, ⊤, ◌⊎◌, ◌≤◌, ◌<◌, ◌+◌, ℕ, Bool, true, false, not, List, [], ◌∷◌, ◌++◌, ◌==◌, length, map, take, nat_le, if◌then◌else◌, Option, Some, None, Result, Ok, Err, IfOk, IfErr, IfSome, OnOk, is_ok}
use Rattle.std.specs.Option.{option_map, option_map_or}
use Rattle.std.specs.FinMap.{get}
use Rattle.jiff_core.specs.declared.civil.date.Date.{Date}
use Rattle.std.specs.List.{list_any, range_with_len}
use Rattle.std.specs.Str.{is_utf8}
use Rattle.std.specs.Io.KnownBytes.{Appends, Consumes, IsAtEnd}
use Rattle.httparse.specs.Grammar.{RequestHead, HasNoRequest, NeverHasRequest}
use Rattle.httparse.specs.Spans.{RequestExceeds, RequestOverflows}
use Rattle.office_mail.specs.declared.feed.Feed.{Ghosts as Reader}
use Rattle.office_mail.specs.declared.feed.Sink.{Ghosts as Writer}
use Rattle.office_mail.specs.declared.message.MailFault.{MailFault}
use Rattle.office_mail.specs.declared.message.MailFault.TheVariants as mail
use Rattle.office_mail.specs.declared.message.Message.{Message}
use Rattle.office_mail.specs.Counts.{HasRisen}
use Rattle.office_mail.specs.Kept.{Kept, kept_from}
use Rattle.office_mail.specs.Lists.{Lists}
use Rattle.office_mail.specs.Read.{read}
use Rattle.office_mail.specs.Runs.{IsReady, IsReadyCount, cover, greatest, latest_day, orders_to}
use Rattle.office_store_keeper.specs.declared.keeper.Keeper.{Ghosts}
use Rattle.office_store_keeper.specs.declared.values.Letter.{Letter as KeptLetter}
use Rattle.office_core_replies.specs.declared.faults.DeliverFault.{DeliverFault}
use Rattle.office_core_replies.specs.declared.faults.DeliverFault.TheVariants.{Mail, Store}
use Rattle.office_core_replies.specs.declared.faults.Held.{Held}
use Rattle.office_core_store.specs.declared.faults.StoreFault.{StoreFault}
use Rattle.office_core_store.specs.declared.faults.StoreFault.TheVariants as fault
use Rattle.office_core_orders.specs.declared.wait_lines.Awaited.{Awaited}
use Rattle.office_core_orders.specs.WaitingLines.{waiting_text}
use Rattle.office_http_requests.specs.declared.reply.Refusal.{Refusal}
use Rattle.office_http_requests.specs.declared.reply.Refusal.TheVariants as refusal
use Rattle.office_http_requests.specs.declared.reply.Answer.{Answer}
use Rattle.office_http_requests.specs.declared.reply.Answer.TheVariants.{Refused, Delivered, Status, Told, Letter}
use Rattle.office_http_requests.specs.declared.request.Action.{Action}
use Rattle.office_http_requests.specs.declared.request.Action.TheVariants.{Breaks, Deliver, DeliverOf, Look, Settle, Try, TryOn}
use Rattle.office_http_requests.specs.declared.request.Page.{Page}
use Rattle.office_http_requests.specs.declared.request.Page.TheVariants as page
use Rattle.office_http_requests.specs.declared.request.Posted.{Posted}
use Rattle.office_http_requests.specs.declared.request.Asked.{Asked}
use Rattle.office_http_requests.specs.declared.request.Asked.TheVariants as asks
use Rattle.office_http.specs.declared.serve.Served.{Served}
use Rattle.office_http.specs.declared.serve.ServeFault.{ServeFault}
use Rattle.office_http.specs.declared.serve.ServeFault.TheVariants.{Read, Write}
use Rattle.office_core_breaks.specs.declared.BreaksText.{BreaksText}
use Rattle.office_core_outcome.specs.declared.Trial.{Trial}
use Rattle.office_core_outcome.specs.declared.TrialOptions.{TrialOptions}
use Rattle.office_core_outcome.specs.Trial.{IsTrial, trial_date}
use Rattle.office_core_outcome.specs.Proposal.{IsProposed, proposal_text}
use Rattle.office_core_outcome.specs.declared.proposal.Proposal.{Proposal}
use Rattle.office_http_requests.specs.Asked.{asked_of, body_size, is_head_method}
use Rattle.office_core_replay.specs.Losses.{TextCounted}
use Rattle.office_core_queries.specs.declared.mail.MailCount.{MailCount}
use Rattle.office_core_queries.specs.BagPart.{bag_part}
use Rattle.office_core_queries.specs.Mail.{letters_of, mail_text}
use Rattle.office_core_queries.specs.NextOrder.{order_text}
use Rattle.office_core_queries.specs.RunLines.{runs_text}
use Rattle.office_core_facts.specs.Outcome.{testing_text, testing_after}
use Rattle.office_http_requests.specs.Reply.{refused, reply_in, reply_bytes, continue_bytes}
use Rattle.office_http_requests.specs.Request.{BeginsWith, body_room, field_room, head_room}
use Rattle.office_core_facts.specs.OfficeState.{OfficeState}
use Rattle.office_core_facts.specs.Seen.{IsSeen}
use Rattle.office_core_facts.specs.State.{answer_to, reports_at, state_of}
use Rattle.office_core.specs.Preserves.{Holds, StoreRefused}
use Rattle.office_core_orders.specs.Waiting.{Awaits}
use Rattle.office_mail.specs.Written.{AppendsFront}
use Rattle.office_http.specs.Breaks.{IsBreaksBy, are_many, body_answer, breaks_answer, first_change}
use Rattle.office_http.specs.ShortTexts.{short_page}
use Rattle.office_http.specs.Trials.{has_many_hints, hints_in, request_terms, terms_on, tried_answer}
use Rattle.office_core_why.specs.Hints.{hints_text}
use Rattle.office_core_why.specs.UnstableText.{unstable_text}
use Rattle.office_core_why.specs.Why.{IsWhy}
use Rattle.office_core_why.specs.declared.WhyText.{WhyText}
use Rattle.testing_rules_model.specs.Covered.{Covered}

-- the refusal for a fault of memory or of the store
abbrev pub refusal_for : StoreFault → Refusal
refusal_for fault.NoMemory = refusal.NoMemory
refusal_for fault.Store = refusal.Store

-- the answer to a delivery
abbrev pub delivery_answer : Result Held DeliverFault → Answer
delivery_answer (Err Store) = Refused refusal.Store
delivery_answer (Err (Mail mail.NoMemory)) = Refused refusal.NoMemory
delivery_answer reply = Delivered reply

-- a text is a message of another sender
abbrev pub is_of_other : ℕ → Result Message MailFault → Bool
is_of_other sender (Ok message) = not (message.sender == sender)
is_of_other sender (Err fault) = false

-- the answer given the fault that was met, or none
abbrev pub by_fault : Option StoreFault → Answer → Answer
by_fault None due = due
by_fault (Some f) due = Refused (refusal_for f)

-- the number up to which letters continue from one without a gap
abbrev pub unbroken_from : ℕ → List KeptLetter → ℕ
unbroken_from last [] = last
unbroken_from last (letter ∷ letters) = if letter.number == last + 1 then unbroken_from (last + 1) letters else last

-- the number up to which a sender's mail is kept without a gap
abbrev pub unbroken_of : Kept → ℕ → ℕ
unbroken_of kept sender = unbroken_from 0 (letters_of kept sender)

-- the counts of a sender's kept mail, and of that of each sender, in the setup's order
abbrev pub mail_count : Kept → ℕ → MailCount
mail_count kept sender = record {
  sender = sender;
  count = length (letters_of kept sender);
  unbroken = unbroken_of kept sender;
  greatest = greatest (map (λ (letter : KeptLetter). letter.number) (letters_of kept sender));
}

abbrev pub mail_counts : Lists → Kept → List MailCount
mail_counts setup kept = map (mail_count kept) (range_with_len 0 (length setup.senders))

-- What is found of an office in addition to its state, as far as a request asks for it: how many runs are ready, and
-- what the next one waits for. Also the texts on a source, on a trial of hints and on what a change breaks, what all
-- mail without a gap says, and which hints are proposed.
pub record Found : Type 0 where
  pub ready : ℕ
  pub awaited : Awaited
  pub why : Option WhyText
  pub trial : Trial
  pub seen : Covered
  pub proposal : Option Proposal
  pub breaks : Option BreaksText

-- what is proposed; there is no proposal if no run is finished
abbrev pub proposal_answer : Option Proposal → Answer
proposal_answer proposal = option_map_or (λ (p : Proposal). Told (proposal_text p.hints.items p.answers.items)) proposal (Refused refusal.NoRun)

-- what is proposed is right; nothing is, exactly if a run could have no date
abbrev pub IsProposedFor : OfficeState → TrialOptions → List (List ℕ) → Option Proposal → Type 0
IsProposedFor s terms sources None = trial_date (latest_day (orders_to s.setup s.kept s.finished)) terms.day ≡ None
IsProposedFor s terms sources (Some proposal) = IsProposed s.setup s.kept s.finished terms sources proposal

-- the text of a page that was added to the first four
abbrev pub added_page : OfficeState → Found → Page → Answer
added_page s found page.Waiting = Told (waiting_text s.setup (record { progress = record { ready = found.ready; finished = s.finished }; awaited = found.awaited }))
added_page s found page.Runs = Told (runs_text s)
added_page s found page.Kept = Told (mail_text s.setup (mail_counts s.setup s.kept))
added_page s found (page.Letter sender number) = option_map_or Letter (get s.kept (sender, number)) (Refused refusal.NoMessage)
added_page s found (page.Bag sender from) = Letter (bag_part s.kept sender from)
added_page s found (page.Why source) = option_map_or (λ (why : WhyText). if why.is_known then Told why.text else Refused refusal.NoSource) found.why (Refused refusal.NoRun)
added_page s found (page.Order day) = Told (order_text s.setup (unbroken_of s.kept) day)
added_page s found page.Hints = Told (hints_text s.setup s.finished (cover s.setup s.kept s.finished) found.seen (testing_after s.setup s.kept s.finished))
added_page s found page.Unstable = Told (unstable_text s.setup.archs s.finished found.seen)
added_page s found page.Propose = proposal_answer found.proposal
added_page s found (page.ProposeOn day) = proposal_answer found.proposal
added_page s found (page.ProposeFor source) = proposal_answer found.proposal
added_page s found (page.Breaks source) = breaks_answer s.setup source found.breaks
added_page s found _ = Refused refusal.NoRoute

-- the text of a page, given what is found: the first four, and those that were added
abbrev pub page_answer : OfficeState → Found → Page → Answer
page_answer s found page.Status = Status (record { ready = found.ready; finished = s.finished })
page_answer s found page.Testing = Told (testing_text s.setup s.finished (testing_after s.setup s.kept s.finished))
page_answer s found (page.Excuses run) = option_map_or Told (option_map (λ reports. reports.excuses) (reports_at s run)) (Refused refusal.NoRun)
page_answer s found (page.Update run) = option_map_or Told (option_map (λ reports. reports.updates) (reports_at s run)) (Refused refusal.NoRun)
page_answer s found added = short_page added (added_page s found added)

-- The answer to a POST that was added to the first two: the one due to a delivery, what the hints would change, or what a
-- change breaks. A text that is only looked at is answered as if it were delivered.
abbrev pub added_action : OfficeState → Found → Action → List ℕ → Answer
added_action s found (DeliverOf sender) body = if is_of_other sender (read s.setup body) then Refused refusal.OtherSender else delivery_answer (answer_to s.setup s.kept body)
added_action s found Look body = delivery_answer (answer_to s.setup s.kept body)
added_action s found Try body = tried_answer s.setup body found.trial
added_action s found (TryOn day) body = tried_answer s.setup body found.trial
added_action s found Breaks body = body_answer s.setup body found.breaks
added_action s found _ body = Refused refusal.NoRoute

-- The answer to a POST with this body: the one due to the delivery, the status after the settle, or as added.
abbrev pub action_answer : OfficeState → Found → Action → List ℕ → Answer
action_answer s found Deliver body = delivery_answer (answer_to s.setup s.kept body)
action_answer s found Settle body = Status (record { ready = found.ready; finished = found.ready })
action_answer s found added body = added_action s found added body

-- the body of a request, taken from the bytes after its head; none if they are too few
abbrev pub body_of : ℕ → List ℕ → Option (List ℕ)
body_of size rest = if nat_le size (length rest) then Some (take size rest) else None

-- what a request posts, with its whole body; none if it posts nothing, or its body is cut off
abbrev pub posted_body : Asked → List ℕ → Option (Action × List ℕ)
posted_body (asks.Post p) rest = option_map (λ (body : List ℕ). (p.action, body)) (body_of p.length rest)
posted_body _ rest = None

-- THE ANSWER TO A REQUEST, from what it asks, the bytes after its head, and what is found. A POST is refused if the input
-- ends within its body.
abbrev pub answer_of : OfficeState → Found → Asked → List ℕ → Answer
answer_of s found (asks.Refused r) rest = Refused r
answer_of s found (asks.Tell page) rest = page_answer s found page
answer_of s found (asks.Post p) rest = option_map_or (λ (post : Action × List ℕ). action_answer s found post.0 post.1) (posted_body (asks.Post p) rest) (Refused refusal.BadRequest)

-- what is found is right, as far as a page shows it that was added to the first four
abbrev pub IsFoundForAdded : OfficeState → Found → Page → Type 0
IsFoundForAdded s found page.Waiting = IsReadyCount s.setup s.kept found.ready × Awaits s.setup s.kept (found.ready + 1) found.awaited
IsFoundForAdded s found (page.Why source) = IsWhy s.setup s.kept s.finished source found.why
IsFoundForAdded s found page.Hints = IsSeen s.setup s.kept found.seen
IsFoundForAdded s found page.Unstable = IsSeen s.setup s.kept found.seen
IsFoundForAdded s found page.Propose = IsProposedFor s request_terms [] found.proposal
IsFoundForAdded s found (page.ProposeOn day) = IsProposedFor s (terms_on day) [] found.proposal
IsFoundForAdded s found (page.ProposeFor source) = IsProposedFor s request_terms (source ∷ []) found.proposal
IsFoundForAdded s found (page.Breaks source) = IsBreaksBy s source found.breaks
IsFoundForAdded s found _ = ⊤

-- as far as any page shows it
abbrev pub IsFoundFor : OfficeState → Found → Page → Type 0
IsFoundFor s found page.Status = IsReadyCount s.setup s.kept found.ready
IsFoundFor s found page.Testing = ⊤
IsFoundFor s found (page.Excuses run) = ⊤
IsFoundFor s found (page.Update run) = ⊤
IsFoundFor s found added = IsFoundForAdded s found added

-- and as far as the answer to a POST does that was added to the first two
abbrev pub IsFoundByAdded : OfficeState → Found → Action → List ℕ → Type 0
IsFoundByAdded s found Try body = has_many_hints body ≡ false → is_utf8 body ≡ true → IsTrial s.setup s.kept s.finished request_terms (hints_in body) found.trial
IsFoundByAdded s found (TryOn day) body = has_many_hints body ≡ false → is_utf8 body ≡ true → IsTrial s.setup s.kept s.finished (terms_on day) (hints_in body) found.trial
IsFoundByAdded s found Breaks body = is_utf8 body ≡ true → are_many (hints_in body) ≡ false → IsBreaksBy s (first_change (hints_in body)) found.breaks
IsFoundByAdded s found _ body = ⊤

-- as far as the answer to any POST does
abbrev pub IsFoundBy : OfficeState → Found → Action → List ℕ → Type 0
IsFoundBy s found Deliver body = ⊤
IsFoundBy s found Settle body = IsReadyCount s.setup s.kept found.ready
IsFoundBy s found added body = IsFoundByAdded s found added body

-- as far as the answer to a request does
abbrev pub IsFoundForAsked : OfficeState → Found → Asked → List ℕ → Type 0
IsFoundForAsked s found (asks.Refused r) rest = ⊤
IsFoundForAsked s found (asks.Tell page) rest = IsFoundFor s found page
IsFoundForAsked s found (asks.Post p) rest = IfSome (posted_body (asks.Post p) rest) (λ (post : Action × List ℕ). IsFoundBy s found post.0 post.1)

-- a request for proposals
abbrev pub AsksProposal : Asked → Type 0
AsksProposal asked =
    (asked ≡ asks.Tell page.Propose) ⊎ ((day : Date) × (asked ≡ asks.Tell (page.ProposeOn day))) ⊎ ((source : List ℕ) × (asked ≡ asks.Tell (page.ProposeFor source)))

-- a request for what a change breaks
abbrev pub AsksBreaks : Asked → Type 0
AsksBreaks asked = ((source : List ℕ) × (asked ≡ asks.Tell (page.Breaks source))) ⊎ ((p : Posted) × (asked ≡ asks.Post p) × (p.action ≡ Breaks))

-- whether a client waits for 100 Continue
abbrev pub waits_of : Asked → Bool
waits_of (asks.Post p) = p.waits
waits_of _ = false

-- 100 Continue, if it is due
abbrev pub continued : Bool → List ℕ
continued goes_on = if goes_on then continue_bytes else []

-- The texts that a request delivers to an office with this setup: the whole body, unless a fault was met. On a sender's
-- path it is delivered only if it is no message of another sender.
abbrev pub delivered_by : Lists → Option (Action × List ℕ) → Option StoreFault → List (List ℕ)
delivered_by setup (Some (Deliver, body)) None = body ∷ []
delivered_by setup (Some (DeliverOf sender, body)) None = if is_of_other sender (read setup body) then [] else body ∷ []
delivered_by setup _ _ = []

-- what is kept after a POST: what it delivers comes once
abbrev pub kept_by : OfficeState → Action → List ℕ → Option StoreFault → Kept
kept_by s action body fault = kept_from s.setup s.kept (delivered_by s.setup (Some (action, body)) fault)

-- whether a POST settles: a settle, and one that delivers a text that is held
abbrev pub settles : OfficeState → Action → List ℕ → Option StoreFault → Bool
settles s Settle body fault = true
settles s action body fault = list_any (λ text. is_ok (answer_to s.setup s.kept text)) (delivered_by s.setup (Some (action, body)) fault)

-- what a POST does
pub record Moves (before after : OfficeState) (action : Action) (body : List ℕ) (fault : Option StoreFault) (ready : ℕ) (rose : Type 0) : Type 0 where
  pub setup : after.setup ≡ before.setup
  pub kept : after.kept ≡ kept_by before action body fault
  pub grows : before.finished ≤ after.finished
  pub still : settles before action body fault ≡ false → after.finished ≡ before.finished
  pub settled : action ≡ Settle → fault ≡ None → after.finished ≡ ready
  -- what the settle met; if it met nothing, all ready runs are finished
  pub met : Option StoreFault
  pub met_by_store : TextCounted rose met
  pub all_ready : settles before action body fault ≡ true → met ≡ None → IsReadyCount after.setup after.kept after.finished
  -- only ready runs finish
  pub only_ready : IsReady before.setup before.kept before.finished → IsReady after.setup after.kept after.finished

-- what a request does: only a POST with its whole body does anything
abbrev pub Does : OfficeState → OfficeState → Option (Action × List ℕ) → Option StoreFault → ℕ → Type 0 → Type 0
Does before after None fault ready rose = after ≡ before
Does before after (Some post) fault ready rose = Moves before after post.0 post.1 fault ready rose

-- all of a request has come, or the input has ended
abbrev pub IsWhole : Asked → List ℕ → Option (List ℕ) → Type 0
IsWhole (asks.Post p) rest left = (p.length ≤ length rest) ⊎ IsAtEnd left
IsWhole _ rest left = ⊤

-- these bytes begin with a request whose client waits for permission to continue
pub record IsAwaited (setup : Lists) (input : List ℕ) : Type 0 where
  pub head : RequestHead
  pub rest : List ℕ
  pub begins : BeginsWith input head rest
  pub waits : waits_of (asked_of setup head) ≡ true

-- The request couldn't be read, or the waiting client not be answered: nothing was delivered or settled. At most `most`
-- bytes were read. At most a prefix of 100 Continue was written, and that only if what was read shows a waiting client.
pub record StopsBefore (before after : OfficeState) (left left' written written' : Option (List ℕ)) (most : ℕ) (waits : List ℕ → Type 0) : Type 0 where
  pub same : after ≡ before
  pub input : List ℕ
  pub took : Consumes left left' input
  pub few : length input ≤ most
  pub wrote : Appends written written' [] ⊎ (waits input × AppendsFront written written' continue_bytes)

-- THE EXCHANGE: these bytes are a request, and those are 100 Continue, if awaited, and its reply.
pub record Exchange (before after : OfficeState) (left : Option (List ℕ)) (input told reply : List ℕ) (code : ℕ) (rose : Type 0) : Type 0 where
  pub head : RequestHead
  pub rest : List ℕ
  pub begins : BeginsWith input head rest
  -- no more was read than a head may have, or no more after the head than its body
  pub few : (length input ≤ head_room) ⊎ (length rest ≤ body_size (asked_of before.setup head))
  -- the failure of memory or of the store that was met
  pub fault : Option StoreFault
  pub by_store : TextCounted rose fault
  pub found : Found
  pub whole : fault ≡ None → IsWhole (asked_of before.setup head) rest left
  pub is : fault ≡ None → IsFoundForAsked before found (asked_of before.setup head) rest
  pub does : Does before after (posted_body (asked_of before.setup head) rest) fault found.ready rose
  pub goes_on : Bool
  pub went : fault ≡ None → goes_on ≡ waits_of (asked_of before.setup head)
  pub waited : goes_on ≡ true → waits_of (asked_of before.setup head) ≡ true
  pub told_is : told ≡ continued goes_on
  pub reply_is : reply ≡ reply_bytes (reply_in before.setup (by_fault fault (answer_of before found (asked_of before.setup head) rest))) (is_head_method head)
  pub code_is : code ≡ (reply_in before.setup (by_fault fault (answer_of before found (asked_of before.setup head) rest))).code

-- Bytes that are no request within the limits, with the cause of the refusal, or too many for the memory.
abbrev pub IsUnread : Option (List ℕ) → List ℕ → Refusal → Type 0
IsUnread left input refusal.HeadTooLarge = (RequestExceeds field_room input × RequestOverflows field_room input) ⊎ ((length input ≡ head_room) × HasNoRequest input)
IsUnread left input refusal.BadRequest = NeverHasRequest input ⊎ ((0 < length input) × IsAtEnd left × HasNoRequest input)
IsUnread left input refusal.NoMemory = ⊤
IsUnread left input _ = ⊥

pub record Unread (before after : OfficeState) (left : Option (List ℕ)) (input told reply : List ℕ) (code : ℕ) : Type 0 where
  pub few : length input ≤ head_room
  pub refusal : Refusal
  pub cause : IsUnread left input refusal
  pub same : after ≡ before
  pub told_is : told ≡ []
  pub reply_is : reply ≡ reply_bytes (refused refusal) false
  pub code_is : code ≡ (refused refusal).code

-- a request that is answered, or bytes that are none
abbrev pub IsServed : OfficeState → OfficeState → Option (List ℕ) → List ℕ → List ℕ → List ℕ → ℕ → Type 0 → Type 0
IsServed before after left input told reply code rose = Exchange before after left input told reply code rose ⊎ Unread before after left input told reply code

-- all of the reply was written
pub record Replied (before after : OfficeState) (left left' written written' : Option (List ℕ)) (code : ℕ) (rose : Type 0) : Type 0 where
  pub input : List ℕ
  pub took : Consumes left left' input
  pub told : List ℕ
  pub reply : List ℕ
  pub served : IsServed before after left' input told reply code rose
  pub wrote : Appends written written' (told ++ reply)

-- 100 Continue, if due, was written whole, and then a prefix of the reply
pub record RepliedFront (before after : OfficeState) (left left' written written' : Option (List ℕ)) (rose : Type 0) : Type 0 where
  pub input : List ℕ
  pub took : Consumes left left' input
  pub told : List ℕ
  pub reply : List ℕ
  pub code : ℕ
  pub served : IsServed before after left' input told reply code rose
  pub between : Option (List ℕ)
  pub first : Appends written between told
  pub wrote : AppendsFront between written' reply

-- no byte came, and none was written
pub record Silent (before after : OfficeState) (left left' written written' : Option (List ℕ)) : Type 0 where
  pub took : Consumes left left' []
  pub at_end : IsAtEnd left'
  pub same : after ≡ before
  pub wrote : Appends written written' []

abbrev pub Serves : OfficeState → OfficeState → Option (List ℕ) → Option (List ℕ) → Option (List ℕ) → Option (List ℕ) → Option ℕ → Type 0 → Type 0
Serves before after left left' written written' None rose = Silent before after left left' written written'
Serves before after left left' written written' (Some code) rose = Replied before after left left' written written' code rose

-- What a fault leaves. If the reader failed, nothing was delivered or settled. If the writer failed, a prefix of the
-- due bytes was written; if 100 Continue was due and isn't whole, nothing was delivered or settled.
abbrev pub StopsServe : OfficeState → OfficeState → Option (List ℕ) → Option (List ℕ) → Option (List ℕ) → Option (List ℕ) → ServeFault → Type 0 → Type 0
StopsServe before after left left' written written' Read rose = StopsBefore before after left left' written written' (head_room + body_room) (IsAwaited before.setup)
StopsServe before after left left' written written' Write rose = StopsBefore before after left left' written written' (head_room + body_room) (IsAwaited before.setup) ⊎ RepliedFront before after left left' written written' rose

-- a call serves one request, wherever the store is trusted and held what an office leaves
abbrev pub ServesOne : {K R W : Type 0} → Ghosts K → Reader R → Writer W → K → K → R → R → W → W → Result Served ServeFault → Type 0
ServesOne keeper feed sink old new reader reader' writer writer' result =
    Holds keeper old new → IfOk result (λ served. Serves (state_of keeper old) (state_of keeper new) (feed.left reader) (feed.left reader') (sink.written writer) (sink.written writer') served.code (StoreRefused keeper old new))

-- and what it leaves if its reader or its writer failed
abbrev pub StopsOne : {K R W : Type 0} → Ghosts K → Reader R → Writer W → K → K → R → R → W → W → Result Served ServeFault → Type 0
StopsOne keeper feed sink old new reader reader' writer writer' result =
    Holds keeper old new → IfErr result (λ fault. StopsServe (state_of keeper old) (state_of keeper new) (feed.left reader) (feed.left reader') (sink.written writer) (sink.written writer') fault (StoreRefused keeper old new))

-- `Read` comes only if a failure of the reader was counted, and `Write` only if one of the writer was. Both counts stay
-- if there is no fault.
pub record CountsFaults {T : Type 0} (reads reads' writes writes' : ℕ) (result : Result T ServeFault) : Type 0 where
  pub read : IfErr result (λ fault. fault ≡ Read → HasRisen reads reads')
  pub write : IfErr result (λ fault. fault ≡ Write → HasRisen writes writes')
  pub read_clean : OnOk result (reads' ≡ reads)
  pub write_clean : OnOk result (writes' ≡ writes)
