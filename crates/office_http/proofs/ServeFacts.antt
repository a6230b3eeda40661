-- What a connection comes to. P, Q and R say that the store refused: in a first part, in what follows, and in both.
use Rattle.std.proofs.Common.{◌≡◌, inl, inr, ⊎_elim, ℕ, ◌+◌, ◌-◌, ◌≤◌, ◌<◌, Bool, true, false, ◌||◌, cond, nat_le, if◌then◌else◌, List, [], ◌∷◌, ◌++◌, length, take, drop, Option, Some, None, Result, Ok, Err, IfOk, IfErr, IfSome, OnOk, is_ok, refl, sym, ap, subst, ◌∙◌, arith, append_assoc, append-nil, ◌⊎◌}
use Rattle.std.specs.List.{list_any}
use Rattle.std.specs.Option.{option_map}
use Rattle.std.specs.Result.{result_ok}
use Rattle.std.specs.FinMap.{get}
use Rattle.jiff_core.specs.declared.civil.date.Date.{Date}
use Rattle.std.specs.Io.KnownBytes.{Appends, Consumes, IsAtEnd}
use Rattle.std.proofs.KnownBytes.{Appends-nil, Appends-trans, Consumes-nil, Consumes-trans}
use Rattle.std.proofs.lemmas.Bool.Decides.{nat_tests}
use Rattle.std.proofs.lemmas.List.{drop-append-le, length-append, length-drop}
use Rattle.httparse.specs.Grammar.{RequestHead, print_request}
use Rattle.httparse.specs.Spans.{IsRequestAt}
use Rattle.httparse.specs.declared.spans.HeaderSpan.{HeaderSpan}
use Rattle.httparse.specs.declared.spans.RequestSpans.{RequestSpans}
use Rattle.office_mail.specs.declared.message.MailFault.TheVariants as mail
use Rattle.office_mail.specs.Kept.{Kept, kept_from}
use Rattle.office_mail.specs.Lists.{Lists}
use Rattle.office_mail.specs.Read.{read}
use Rattle.office_mail.specs.Runs.{IsReady, IsReadyCount}
use Rattle.office_mail.proofs.KeptFacts.{kept_from-nil}
use Rattle.office_core_replies.specs.declared.faults.DeliverFault.{DeliverFault}
use Rattle.office_core_replies.specs.declared.faults.DeliverFault.TheVariants.{Mail, OtherText, Store}
use Rattle.office_core_replies.specs.declared.faults.Held.{Held}
use Rattle.office_core_orders.specs.declared.wait_lines.Progress.{Progress}
use Rattle.office_core_store.specs.declared.faults.StoreFault.{StoreFault}
use Rattle.office_core_store.specs.declared.faults.StoreFault.TheVariants as fault
use Rattle.office_core_replies.specs.declared.replies.Mark.{Mark}
use Rattle.office_core_replies.specs.declared.replies.Mark.TheVariants.{Taken, LostForMemory, LostForStore}
use Rattle.office_core_orders.specs.declared.wait_lines.Awaited.TheVariants.{Order}
use Rattle.office_http_requests.specs.declared.reply.Refusal.{Refusal}
use Rattle.office_http_requests.specs.declared.reply.Refusal.TheVariants as refusal
use Rattle.office_http_requests.specs.declared.reply.Answer.{Answer}
use Rattle.office_http_requests.specs.declared.reply.Answer.TheVariants.{Refused, Delivered, Status, Told, Letter, BadHint}
use Rattle.office_http_requests.specs.declared.request.Action.{Action}
use Rattle.office_http_requests.specs.declared.request.Action.TheVariants.{Breaks, Deliver, DeliverOf, Look, Settle, Try, TryOn}
use Rattle.office_http_requests.specs.declared.request.Page.{Page}
use Rattle.office_http_requests.specs.declared.request.Page.TheVariants as page
use Rattle.office_http_requests.specs.declared.request.Posted.{Posted}
use Rattle.office_http_requests.specs.declared.request.Asked.{Asked}
use Rattle.office_http_requests.specs.declared.request.Asked.TheVariants as asks
use Rattle.office_http.specs.declared.serve.ServeFault.{ServeFault}
use Rattle.office_http.specs.declared.serve.ServeFault.TheVariants.{Read, Write}
use Rattle.office_http.specs.declared.serve.Served.{Served}
use Rattle.office_http_requests.specs.Asked.{asked_of, body_size, is_head_method}
use Rattle.office_http_requests.proofs.SizeFacts.{body_fits}
use Rattle.office_core_replay.specs.Losses.{TextCounted, DeliveryCounted}
use Rattle.office_core_queries.specs.BagPart.{bag_part}
use Rattle.office_core_queries.specs.Mail.{mail_text}
use Rattle.office_core_queries.specs.NextOrder.{order_text}
use Rattle.office_core_queries.specs.RunLines.{runs_text}
use Rattle.office_core_facts.specs.Outcome.{testing_text, testing_after}
use Rattle.office_core_replies.specs.Replies.{reply_by, mark_of, if_taken}
use Rattle.office_http_requests.specs.Reply.{continue_bytes, refused, reply_in, reply_bytes}
use Rattle.office_http_requests.specs.steps.Reply.{HasPlace}
use Rattle.office_http_requests.specs.Request.{body_room, head_room, BeginsWith}
use Rattle.office_http_requests.specs.steps.RequestSteps.{Came, IsHeadAt}
use Rattle.office_core_facts.specs.OfficeState.{OfficeState}
use Rattle.office_core_facts.specs.State.{AnswersDelivery, answer_to, reports_at}
use Rattle.office_mail.specs.Written.{AppendsFront}
use Rattle.office_core_outcome.specs.declared.proposal.Proposal.{Proposal}
use Rattle.office_core_outcome.specs.declared.Trial.TheVariants.{NoDate}
use Rattle.office_core_outcome.specs.declared.TrialOptions.{TrialOptions}
use Rattle.office_http.specs.Trials.{request_terms, terms_on}
use Rattle.office_http.specs.Serve.{mail_counts, unbroken_of, page_answer, is_of_other, proposal_answer, refusal_for, delivery_answer, by_fault, posted_body, answer_of, waits_of, continued, delivered_by, kept_by, settles, Does, Exchange, Found, IsFoundFor, IsProposedFor, IsUnread, IsServed, Moves, Replied, RepliedFront, Serves, IsAwaited, StopsBefore, StopsServe}
use Rattle.office_http.specs.steps.ServeSteps.{unless_other, if_known, report_answer, why_answer, letter_answer, post_answer, IsFoundByPost}
use Rattle.office_core_why.specs.Hints.{IsHintsText}
use Rattle.office_core_why.specs.UnstableText.{IsUnstableText}
use Rattle.office_core_why.specs.Why.{IsWhy}
use Rattle.office_core_why.specs.declared.WhyText.{WhyText}
use Rattle.office_http.specs.ShortTexts.{is_told_whole, short_answer, short_page}
use Rattle.office_http.specs.steps.ServeSteps.{answer_or, whole_page, part_answer, status_answer, text_answer, Tells, TellsAwaited, TellsBreaks, TellsProposal, TellsShort, Runs, Answers, ServesHead, ServesFront, StopsRequest}
use Rattle.office_core_replay.proofs.ReplayFacts.{Leaves, reply_by-mark, delivery_counted, kept_after}
use Rattle.office_core_replay.proofs.RiseFacts.{delivery_weaker, text_weaker}
use Rattle.office_core_replay.specs.steps.DeliverySteps.{Settles}

-- where nothing is found that the answer tells
abbrev pub nothing : Found
nothing = record { ready = 0; awaited = Order; why = None; trial = NoDate; seen = []; proposal = None; breaks = None }

abbrev ready_runs : ℕ → Found
ready_runs n = record nothing { ready = n }

-- pages
told_missed : (rose : Type 0) (s : OfficeState) (p : Page) (f : StoreFault) → TextCounted rose (Some f) → Tells s p (Refused (refusal_for f)) rose
told_missed rose s p f by = record { fault = Some f; by_store = by; found = nothing; is = λ e. absurd (cc (e)); answer_is = refl }

pub told_status : (rose : Type 0) (s : OfficeState) (r : Result Progress StoreFault) → IfOk r (λ p. IsReadyCount s.setup s.kept p.ready) → IfOk r (λ p. p.finished ≡ s.finished) → (r ≡ Err fault.Store → rose) → Tells s page.Status (status_answer r) rose
told_status rose s (Ok p) counted finished err = record { fault = None; by_store = tt; found = ready_runs p.ready; is = λ e. counted; answer_is = ap (λ (n : ℕ). Status (record { ready = p.ready; finished = n })) finished }
told_status rose s (Err fault.NoMemory) counted finished err = told_missed rose s page.Status fault.NoMemory tt
told_status rose s (Err fault.Store) counted finished err = told_missed rose s page.Status fault.Store (err refl)

pub told_excuses : (rose : Type 0) (s : OfficeState) (run : ℕ) (r : Result (Option (List ℕ)) StoreFault) → IfOk r (λ t. t ≡ option_map (λ reports. reports.excuses) (reports_at s run)) → (r ≡ Err fault.Store → rose) → Tells s (page.Excuses run) (report_answer r) rose
told_excuses rose s run (Ok t) is err = record { fault = None; by_store = tt; found = nothing; is = λ e. tt; answer_is = ap (λ (o : Option (List ℕ)). report_answer (Ok o)) is }
told_excuses rose s run (Err fault.NoMemory) is err = told_missed rose s (page.Excuses run) fault.NoMemory tt
told_excuses rose s run (Err fault.Store) is err = told_missed rose s (page.Excuses run) fault.Store (err refl)

pub told_update : (rose : Type 0) (s : OfficeState) (run : ℕ) (r : Result (Option (List ℕ)) StoreFault) → IfOk r (λ t. t ≡ option_map (λ reports. reports.updates) (reports_at s run)) → (r ≡ Err fault.Store → rose) → Tells s (page.Update run) (report_answer r) rose
told_update rose s run (Ok t) is err = record { fault = None; by_store = tt; found = nothing; is = λ e. tt; answer_is = ap (λ (o : Option (List ℕ)). report_answer (Ok o)) is }
told_update rose s run (Err fault.NoMemory) is err = told_missed rose s (page.Update run) fault.NoMemory tt
told_update rose s run (Err fault.Store) is err = told_missed rose s (page.Update run) fault.Store (err refl)

pub told_waiting : (rose : Type 0) (s : OfficeState) (r : Result (List ℕ) StoreFault) → IfOk r (λ text. TellsAwaited s text) → (r ≡ Err fault.Store → rose) → Tells s page.Waiting (text_answer r) rose
told_waiting rose s (Ok t) h err = record { fault = None; by_store = tt; found = record nothing { ready = h.ready; awaited = h.awaited }; is = λ e. (h.counts, h.awaits); answer_is = ap Told h.text_is }
told_waiting rose s (Err fault.NoMemory) h err = told_missed rose s page.Waiting fault.NoMemory tt
told_waiting rose s (Err fault.Store) h err = told_missed rose s page.Waiting fault.Store (err refl)

pub told_why : (rose : Type 0) (s : OfficeState) (source : List ℕ) (r : Result (Option WhyText) StoreFault) → IfOk r (IsWhy s.setup s.kept s.finished source) → (r ≡ Err fault.Store → rose) → Tells s (page.Why source) (why_answer r) rose
told_why rose s source (Ok t) is err = record { fault = None; by_store = tt; found = record nothing { why = t }; is = λ e. is; answer_is = refl }
told_why rose s source (Err fault.NoMemory) is err = told_missed rose s (page.Why source) fault.NoMemory tt
told_why rose s source (Err fault.Store) is err = told_missed rose s (page.Why source) fault.Store (err refl)

-- a page whose text is that of the state alone
told_page : (rose : Type 0) (s : OfficeState) (p : Page) (due : List ℕ) (r : Result (List ℕ) StoreFault) → IsFoundFor s nothing p → whole_page s nothing p ≡ Told due → IfOk r (λ t. t ≡ due) → (r ≡ Err fault.Store → rose) → Tells s p (text_answer r) rose
told_page rose s p due (Ok t) found answers is err = record { fault = None; by_store = tt; found = nothing; is = λ e. found; answer_is = ap Told is ∙ sym answers }
told_page rose s p due (Err fault.NoMemory) found answers is err = told_missed rose s p fault.NoMemory tt
told_page rose s p due (Err fault.Store) found answers is err = told_missed rose s p fault.Store (err refl)

pub told_testing : (rose : Type 0) (s : OfficeState) (r : Result (List ℕ) StoreFault) → IfOk r (λ t. t ≡ testing_text s.setup s.finished (testing_after s.setup s.kept s.finished)) → (r ≡ Err fault.Store → rose) → Tells s page.Testing (text_answer r) rose
told_testing rose s r is err = told_page rose s page.Testing (testing_text s.setup s.finished (testing_after s.setup s.kept s.finished)) r tt refl is err

pub told_runs : (rose : Type 0) (s : OfficeState) (r : Result (List ℕ) StoreFault) → IfOk r (λ t. t ≡ runs_text s) → (r ≡ Err fault.Store → rose) → Tells s page.Runs (text_answer r) rose
told_runs rose s r is err = told_page rose s page.Runs (runs_text s) r tt refl is err

pub told_kept : (rose : Type 0) (s : OfficeState) (r : Result (List ℕ) StoreFault) → IfOk r (λ t. t ≡ mail_text s.setup (mail_counts s.setup s.kept)) → (r ≡ Err fault.Store → rose) → Tells s page.Kept (text_answer r) rose
told_kept rose s r is err = told_page rose s page.Kept (mail_text s.setup (mail_counts s.setup s.kept)) r tt refl is err

pub told_letter : (rose : Type 0) (s : OfficeState) (sender number : ℕ) (r : Result (Option (List ℕ)) StoreFault) → IfOk r (λ t. t ≡ get s.kept (sender, number)) → (r ≡ Err fault.Store → rose) → Tells s (page.Letter sender number) (letter_answer r) rose
told_letter rose s sender number (Ok t) is err = record { fault = None; by_store = tt; found = nothing; is = λ e. tt; answer_is = ap (λ (o : Option (List ℕ)). letter_answer (Ok o)) is }
told_letter rose s sender number (Err fault.NoMemory) is err = told_missed rose s (page.Letter sender number) fault.NoMemory tt
told_letter rose s sender number (Err fault.Store) is err = told_missed rose s (page.Letter sender number) fault.Store (err refl)

pub told_order : (rose : Type 0) (s : OfficeState) (day : Date) (r : Result (List ℕ) StoreFault) → IfOk r (λ t. t ≡ order_text s.setup (unbroken_of s.kept) day) → (r ≡ Err fault.Store → rose) → Tells s (page.Order day) (text_answer r) rose
told_order rose s day r is err = told_page rose s (page.Order day) (order_text s.setup (unbroken_of s.kept) day) r tt refl is err

pub told_bag : (rose : Type 0) (s : OfficeState) (sender from : ℕ) (r : Result (List ℕ) StoreFault) → IfOk r (λ t. t ≡ bag_part s.kept sender from) → (r ≡ Err fault.Store → rose) → Tells s (page.Bag sender from) (part_answer r) rose
told_bag rose s sender from (Ok t) is err = record { fault = None; by_store = tt; found = nothing; is = λ e. tt; answer_is = ap Letter is }
told_bag rose s sender from (Err fault.NoMemory) is err = told_missed rose s (page.Bag sender from) fault.NoMemory tt
told_bag rose s sender from (Err fault.Store) is err = told_missed rose s (page.Bag sender from) fault.Store (err refl)

-- what all mail without a gap says
pub told_hints : (rose : Type 0) (s : OfficeState) (r : Result (List ℕ) StoreFault) → IfOk r (IsHintsText s.setup s.kept s.finished) → (r ≡ Err fault.Store → rose) → Tells s page.Hints (text_answer r) rose
told_hints rose s (Ok t) h err = record { fault = None; by_store = tt; found = record nothing { seen = h.seen }; is = λ e. h.is_seen; answer_is = ap Told h.is }
told_hints rose s (Err fault.NoMemory) h err = told_missed rose s page.Hints fault.NoMemory tt
told_hints rose s (Err fault.Store) h err = told_missed rose s page.Hints fault.Store (err refl)

pub told_unstable : (rose : Type 0) (s : OfficeState) (r : Result (List ℕ) StoreFault) → IfOk r (IsUnstableText s.setup s.kept s.finished) → (r ≡ Err fault.Store → rose) → Tells s page.Unstable (text_answer r) rose
told_unstable rose s (Ok t) h err = record { fault = None; by_store = tt; found = record nothing { seen = h.seen }; is = λ e. h.is_seen; answer_is = ap Told h.is }
told_unstable rose s (Err fault.NoMemory) h err = told_missed rose s page.Unstable fault.NoMemory tt
told_unstable rose s (Err fault.Store) h err = told_missed rose s page.Unstable fault.Store (err refl)

-- hints that are proposed, for no source or for one
told_proposed : (rose : Type 0) (s : OfficeState) (p : Page) (terms : TrialOptions) (sources : List (List ℕ)) (r : Result Answer StoreFault) → ((proposal : Option Proposal) → IsProposedFor s terms sources proposal → IsFoundFor s (record nothing { proposal = proposal }) p)
    → ((proposal : Option Proposal) → whole_page s (record nothing { proposal = proposal }) p ≡ proposal_answer proposal) → IfOk r (TellsProposal s terms sources) → (r ≡ Err fault.Store → rose) → Tells s p (answer_or r) rose
told_proposed rose s p terms sources (Ok answer) found answers h err =
    record { fault = None; by_store = tt; found = record nothing { proposal = h.proposal }; is = λ e. found h.proposal h.proposed; answer_is = h.answer_is ∙ sym (answers h.proposal) }
told_proposed rose s p terms sources (Err fault.NoMemory) found answers h err = told_missed rose s p fault.NoMemory tt
told_proposed rose s p terms sources (Err fault.Store) found answers h err = told_missed rose s p fault.Store (err refl)

pub told_propose : (rose : Type 0) (s : OfficeState) (r : Result Answer StoreFault) → IfOk r (TellsProposal s request_terms []) → (r ≡ Err fault.Store → rose) → Tells s page.Propose (answer_or r) rose
told_propose rose s r h err = told_proposed rose s page.Propose request_terms [] r (λ proposal is. is) (λ proposal. refl) h err

pub told_propose_on : (rose : Type 0) (s : OfficeState) (day : Date) (r : Result Answer StoreFault) → IfOk r (TellsProposal s (terms_on day) []) → (r ≡ Err fault.Store → rose) → Tells s (page.ProposeOn day) (answer_or r) rose
told_propose_on rose s day r h err = told_proposed rose s (page.ProposeOn day) (terms_on day) [] r (λ proposal is. is) (λ proposal. refl) h err

pub told_propose_for : (rose : Type 0) (s : OfficeState) (source : List ℕ) (r : Result Answer StoreFault) → IfOk r (TellsProposal s request_terms (source ∷ [])) → (r ≡ Err fault.Store → rose) → Tells s (page.ProposeFor source) (answer_or r) rose
told_propose_for rose s source r h err = told_proposed rose s (page.ProposeFor source) request_terms (source ∷ []) r (λ proposal is. is) (λ proposal. refl) h err

-- what the move of a source breaks
pub told_breaks : (rose : Type 0) (s : OfficeState) (source : List ℕ) (r : Result Answer StoreFault) → IfOk r (TellsBreaks s source) → (r ≡ Err fault.Store → rose) → Tells s (page.Breaks source) (answer_or r) rose
told_breaks rose s source (Ok answer) h err = record { fault = None; by_store = tt; found = record nothing { breaks = h.told }; is = λ e. h.is; answer_is = h.answer_is }
told_breaks rose s source (Err fault.NoMemory) h err = told_missed rose s (page.Breaks source) fault.NoMemory tt
told_breaks rose s source (Err fault.Store) h err = told_missed rose s (page.Breaks source) fault.Store (err refl)

-- a page's answer, by what the page tells
pub page_is : (s : OfficeState) (found : Found) (p : Page) → page_answer s found p ≡ short_page p (whole_page s found p)
page_is s found page.Status = refl
page_is s found page.Testing = refl
page_is s found (page.Excuses run) = refl
page_is s found (page.Update run) = refl
page_is s found page.Waiting = refl
page_is s found page.Runs = refl
page_is s found page.Kept = refl
page_is s found (page.Letter sender number) = refl
page_is s found (page.Bag sender from) = refl
page_is s found (page.Why source) = refl
page_is s found (page.Order day) = refl
page_is s found page.Hints = refl
page_is s found page.Unstable = refl
page_is s found page.Propose = refl
page_is s found (page.ProposeOn day) = refl
page_is s found (page.ProposeFor source) = refl
page_is s found (page.Breaks source) = refl

short_if : (p : Page) (b : Bool) (answer : Answer) → is_told_whole p ≡ b → (if b then answer else short_answer answer) ≡ short_page p answer
short_if p b answer e = ap (λ (c : Bool). if c then answer else short_answer answer) (sym e)

-- a page that is told whole
pub told_whole : (rose : Type 0) (s : OfficeState) (p : Page) (answer : Answer) → is_told_whole p ≡ true → Tells s p answer rose → TellsShort s p answer rose
told_whole rose s p answer e t = record {
  fault = t.fault;
  by_store = t.by_store;
  found = t.found;
  is = t.is;
  answer_is = t.answer_is ∙ ap (λ (a : Answer). by_fault t.fault a) (short_if p true (whole_page s t.found p) e ∙ sym (page_is s t.found p));
}

-- a refusal is short
short_by_fault : (o : Option StoreFault) (due : Answer) → short_answer (by_fault o due) ≡ by_fault o (short_answer due)
short_by_fault None due = refl
short_by_fault (Some f) due = refl

-- a page whose text is cut where it is too long
pub told_short : (rose : Type 0) (s : OfficeState) (p : Page) (answer : Answer) (r : Result Answer StoreFault) → is_told_whole p ≡ false → Tells s p answer rose → IfOk r (λ within. within ≡ short_answer answer) → IfErr r (λ f. f ≡ fault.NoMemory) → TellsShort s p (answer_or r) rose
told_short rose s p answer (Ok within) e t is missed = record {
  fault = t.fault;
  by_store = t.by_store;
  found = t.found;
  is = t.is;
  answer_is = is ∙ ap short_answer t.answer_is ∙ short_by_fault t.fault (whole_page s t.found p)
      ∙ ap (λ (a : Answer). by_fault t.fault a) (short_if p false (whole_page s t.found p) e ∙ sym (page_is s t.found p));
}
told_short rose s p answer (Err fault.NoMemory) e t is missed = record { fault = Some fault.NoMemory; by_store = tt; found = nothing; is = λ e. absurd (cc (e)); answer_is = refl }
told_short rose s p answer (Err fault.Store) e t is missed = absurd (cc (missed))

-- an answer that names no sender has a place for its name
pub place_status : (setup : Lists) (r : Result Progress StoreFault) → HasPlace setup (status_answer r)
place_status setup (Ok p) = tt
place_status setup (Err f) = tt

pub place_text : (setup : Lists) (r : Result (List ℕ) StoreFault) → HasPlace setup (text_answer r)
place_text setup (Ok t) = tt
place_text setup (Err f) = tt

pub place_report : (setup : Lists) (r : Result (Option (List ℕ)) StoreFault) → HasPlace setup (report_answer r)
place_report setup (Ok None) = tt
place_report setup (Ok (Some t)) = tt
place_report setup (Err f) = tt

pub place_letter : (setup : Lists) (r : Result (Option (List ℕ)) StoreFault) → HasPlace setup (letter_answer r)
place_letter setup (Ok None) = tt
place_letter setup (Ok (Some t)) = tt
place_letter setup (Err f) = tt

place_known : (setup : Lists) (known : Bool) (text : List ℕ) → HasPlace setup (if_known known text)
place_known setup true text = tt
place_known setup false text = tt

pub place_why : (setup : Lists) (r : Result (Option WhyText) StoreFault) → HasPlace setup (why_answer r)
place_why setup (Ok None) = tt
place_why setup (Ok (Some why)) = place_known setup why.is_known why.text
place_why setup (Err f) = tt

pub place_part : (setup : Lists) (r : Result (List ℕ) StoreFault) → HasPlace setup (part_answer r)
place_part setup (Ok t) = tt
place_part setup (Err f) = tt

pub place_or : (setup : Lists) (r : Result Answer StoreFault) → IfOk r (λ answer. HasPlace setup answer) → HasPlace setup (answer_or r)
place_or setup (Ok answer) h = h
place_or setup (Err f) h = tt

place_of_short : (setup : Lists) (answer : Answer) → HasPlace setup answer → HasPlace setup (short_answer answer)
place_of_short setup (Delivered reply) h = h
place_of_short setup (Refused refusal) h = tt
place_of_short setup (Status progress) h = tt
place_of_short setup (Told text) h = tt
place_of_short setup (Letter text) h = tt
place_of_short setup (BadHint text) h = tt

pub place_short : (setup : Lists) (answer : Answer) (r : Result Answer StoreFault) → HasPlace setup answer → IfOk r (λ within. within ≡ short_answer answer) → HasPlace setup (answer_or r)
place_short setup answer (Ok within) h is = subst (λ (a : Answer). HasPlace setup a) (sym is) (place_of_short setup answer h)
place_short setup answer (Err f) h is = tt

-- a delivery
lost_of : Mark → Option StoreFault
lost_of Taken = None
lost_of LostForMemory = Some fault.NoMemory
lost_of LostForStore = Some fault.Store

loss_counted : (rose : Type 0) (m : Mark) → DeliveryCounted rose m → TextCounted rose (lost_of m)
unfolding lost_of
loss_counted rose Taken h = tt
loss_counted rose LostForMemory h = tt
loss_counted rose LostForStore h = h

answered : (m : Mark) (r due : Result Held DeliverFault) → r ≡ reply_by m due → delivery_answer r ≡ by_fault (lost_of m) (delivery_answer due)
unfolding lost_of
answered Taken r due e = ap delivery_answer e
answered LostForMemory r due e = ap delivery_answer e
answered LostForStore r due e = ap delivery_answer e

-- one of these texts is held
abbrev pub any_held : OfficeState → List (List ℕ) → Bool
any_held s texts = list_any (λ text. is_ok (answer_to s.setup s.kept text)) texts

one_held : (b : Bool) → (b || false) ≡ b
one_held true = refl
one_held false = refl

-- what only looks, settles or asks delivers nothing
abbrev pub is_quiet : Action → Bool
is_quiet Deliver = false
is_quiet (DeliverOf sender) = false
is_quiet _ = true

pub quiet : (setup : Lists) (action : Action) (body : List ℕ) (f : Option StoreFault) → is_quiet action ≡ true → delivered_by setup (Some (action, body)) f ≡ []
quiet setup Deliver body f h = absurd (cc)
quiet setup (DeliverOf sender) body f h = absurd (cc)
quiet setup Look body None h = refl
quiet setup Look body (Some f) h = refl
quiet setup Settle body None h = refl
quiet setup Settle body (Some f) h = refl
quiet setup Try body None h = refl
quiet setup Try body (Some f) h = refl
quiet setup (TryOn day) body None h = refl
quiet setup (TryOn day) body (Some f) h = refl
quiet setup Breaks body None h = refl
quiet setup Breaks body (Some f) h = refl

pub quiet_keeps : (s : OfficeState) (action : Action) (body : List ℕ) (f : Option StoreFault) → is_quiet action ≡ true → kept_by s action body f ≡ s.kept
quiet_keeps s action body f h = ap (kept_from s.setup s.kept) (quiet s.setup action body f h) ∙ kept_from-nil s.setup s.kept

pub look_settles : (s : OfficeState) (body : List ℕ) (f : Option StoreFault) → settles s Look body f ≡ false
look_settles s body f = ap (any_held s) (quiet s.setup Look body f refl)

kept_is : (s : OfficeState) (text : List ℕ) (m : Mark) → kept_from s.setup s.kept (if_taken m text []) ≡ kept_by s Deliver text (lost_of m)
unfolding lost_of
kept_is s text Taken = refl
kept_is s text LostForMemory = refl
kept_is s text LostForStore = refl

settles_is : (s : OfficeState) (text : List ℕ) (m : Mark) (r : Result Held DeliverFault) → r ≡ reply_by m (answer_to s.setup s.kept text) → settles s Deliver text (lost_of m) ≡ is_ok r
unfolding lost_of
settles_is s text Taken r e = one_held (is_ok (answer_to s.setup s.kept text)) ∙ sym (ap is_ok e)
settles_is s text LostForMemory r e = sym (ap is_ok e)
settles_is s text LostForStore r e = sym (ap is_ok e)

pub place_delivery : (setup : Lists) (r : Result Held DeliverFault) → IfOk r (λ held. held.sender < length setup.senders) → HasPlace setup (delivery_answer r)
place_delivery setup (Ok held) h = h
place_delivery setup (Err OtherText) h = tt
place_delivery setup (Err Store) h = tt
place_delivery setup (Err (Mail mail.NoMemory)) h = tt
place_delivery setup (Err (Mail mail.TooLong)) h = tt
place_delivery setup (Err (Mail mail.BadParagraph)) h = tt
place_delivery setup (Err (Mail (mail.MissingField f))) h = tt
place_delivery setup (Err (Mail mail.UnknownSender)) h = tt
place_delivery setup (Err (Mail mail.BadNumber)) h = tt
place_delivery setup (Err (Mail mail.UnknownKind)) h = tt
place_delivery setup (Err (Mail mail.WrongRole)) h = tt
place_delivery setup (Err (Mail mail.TooManyParagraphs)) h = tt
place_delivery setup (Err (Mail mail.UnknownArchitecture)) h = tt
place_delivery setup (Err (Mail (mail.BadValue f))) h = tt

ready_moved : (a b : OfficeState) (n : ℕ) → b.setup ≡ a.setup → b.kept ≡ a.kept → IsReady a.setup a.kept n → IsReady b.setup b.kept n
ready_moved a b n s k h = subst (λ (l : Lists). IsReady l b.kept n) (sym s) (subst (λ (m : Kept). IsReady a.setup m n) (sym k) h)

count_moved : (a b : OfficeState) (n : ℕ) → b.setup ≡ a.setup → b.kept ≡ a.kept → IsReadyCount a.setup a.kept n → IsReadyCount b.setup b.kept n
count_moved a b n s k h = subst (λ (l : Lists). IsReadyCount l b.kept n) (sym s) (subst (λ (m : Kept). IsReadyCount a.setup m n) (sym k) h)

pub delivered : (P Q R : Type 0) (before mid after : OfficeState) (text : List ℕ) (r : Result Held DeliverFault) → Leaves before mid text r P → (P → R) → Settles mid after (is_ok r) Q → (Q → R) → Runs before after Deliver text (delivery_answer r) R
delivered P Q R before mid after text r l l_rises f f_rises =
    let m : Mark = mark_of r in
    let by : r ≡ reply_by m (answer_to before.setup before.kept text) = reply_by-mark r (answer_to before.setup before.kept text) l.answer in
    let settling : settles before Deliver text (lost_of m) ≡ is_ok r = settles_is before text m r by in
    record {
      fault = lost_of m;
      by_store = loss_counted R m (delivery_weaker P R m l_rises (delivery_counted P r l.by_store));
      found = nothing;
      is = λ e. tt;
      answer_is = answered m r (answer_to before.setup before.kept text) by;
      moves = record {
        setup = f.setup ∙ l.setup;
        kept = f.kept ∙ kept_after before.setup before.kept mid.kept text r l.answer l.kept l.err ∙ kept_is before text m;
        grows = omega (arith, f.grows, l.finished);
        still = λ h. f.still (sym settling ∙ h) ∙ l.finished;
        settled = λ h. absurd (cc (h));
        met = f.met;
        met_by_store = text_weaker Q R f.met f_rises f.met_by_store;
        all_ready = λ h e. f.all_ready (sym settling ∙ h) e;
        only_ready = λ h. f.ready;
      };
    }

-- what delivers nothing and isn't to settle does nothing
pub still_moves : (rose : Type 0) (before after : OfficeState) (action : Action) (body : List ℕ) (f : Option StoreFault) (ready : ℕ) → delivered_by before.setup (Some (action, body)) f ≡ [] → settles before action body f ≡ any_held before (delivered_by before.setup (Some (action, body)) f) → (action ≡ Settle → ⊥) → after ≡ before → Moves before after action body f ready rose
still_moves rose before after action body f ready none held other same = record {
  setup = ap (λ (s : OfficeState). s.setup) same;
  kept = ap (λ (s : OfficeState). s.kept) same ∙ sym (ap (kept_from before.setup before.kept) none ∙ kept_from-nil before.setup before.kept);
  grows = omega (arith, ap (λ (s : OfficeState). s.finished) same);
  still = λ h. ap (λ (s : OfficeState). s.finished) same;
  settled = λ h e. absurd (other h);
  met = None;
  met_by_store = tt;
  all_ready = λ h e. absurd (let no : true ≡ false = sym h ∙ held ∙ ap (any_held before) none in cc);
  only_ready = λ h. subst (λ (s : OfficeState). IsReady s.setup s.kept s.finished) (sym same) h;
}

-- a text that is only looked at
pub looked : (rose : Type 0) (before after : OfficeState) (text : List ℕ) (r : Result Held DeliverFault) → AnswersDelivery r (answer_to before.setup before.kept text) → after ≡ before → (r ≡ Err Store → rose) → Runs before after Look text (delivery_answer r) rose
looked rose before after text r due same err =
    let m : Mark = mark_of r in
    record {
      fault = lost_of m;
      by_store = loss_counted rose m (delivery_counted rose r err);
      found = nothing;
      is = λ e. tt;
      answer_is = answered m r (answer_to before.setup before.kept text) (reply_by-mark r (answer_to before.setup before.kept text) due);
      moves = still_moves rose before after Look text (lost_of m) 0 (quiet before.setup Look text (lost_of m) refl) refl (λ e. absurd (cc (e))) same;
    }

-- a delivery of a sender's own text, by its path, is a delivery
own_kept : (s : OfficeState) (sender : ℕ) (body : List ℕ) (f : Option StoreFault) → is_of_other sender (read s.setup body) ≡ false → kept_by s Deliver body f ≡ kept_by s (DeliverOf sender) body f
own_kept s sender body None own = sym (ap (λ (b : Bool). kept_from s.setup s.kept (cond b [] (body ∷ []))) own)
own_kept s sender body (Some f) own = refl

own_settles : (s : OfficeState) (sender : ℕ) (body : List ℕ) (f : Option StoreFault) → is_of_other sender (read s.setup body) ≡ false → settles s Deliver body f ≡ settles s (DeliverOf sender) body f
own_settles s sender body None own = sym (ap (λ (b : Bool). any_held s (cond b [] (body ∷ []))) own)
own_settles s sender body (Some f) own = refl

pub delivered_own : (rose : Type 0) (before after : OfficeState) (sender : ℕ) (body : List ℕ) (answer : Answer) → is_of_other sender (read before.setup body) ≡ false → Runs before after Deliver body answer rose → Runs before after (DeliverOf sender) body answer rose
delivered_own rose before after sender body answer own r = record {
  fault = r.fault;
  by_store = r.by_store;
  found = r.found;
  is = λ e. tt;
  answer_is = r.answer_is ∙ ap (by_fault r.fault) (sym (ap (λ (b : Bool). unless_other b (delivery_answer (answer_to before.setup before.kept body))) own));
  moves = record {
    setup = r.moves.setup;
    kept = r.moves.kept ∙ own_kept before sender body r.fault own;
    grows = r.moves.grows;
    still = λ h. r.moves.still (own_settles before sender body r.fault own ∙ h);
    settled = λ h. absurd (cc (h));
    met = r.moves.met;
    met_by_store = r.moves.met_by_store;
    all_ready = λ h e. r.moves.all_ready (own_settles before sender body r.fault own ∙ h) e;
    only_ready = r.moves.only_ready;
  };
}

-- one of another sender's does nothing
pub delivered_other : (rose : Type 0) (s : OfficeState) (sender : ℕ) (body : List ℕ) → is_of_other sender (read s.setup body) ≡ true → Runs s s (DeliverOf sender) body (Refused refusal.OtherSender) rose
delivered_other rose s sender body other = record {
  fault = None;
  by_store = tt;
  found = nothing;
  is = λ e. tt;
  answer_is = sym (ap (λ (b : Bool). unless_other b (delivery_answer (answer_to s.setup s.kept body))) other);
  moves = still_moves rose s s (DeliverOf sender) body None 0 (ap (λ (b : Bool). cond b [] (body ∷ [])) other) refl (λ e. absurd (cc (e))) refl;
}

-- nor does a text that memory doesn't suffice to read
pub delivered_short : (rose : Type 0) (s : OfficeState) (sender : ℕ) (body : List ℕ) → Runs s s (DeliverOf sender) body (Refused refusal.NoMemory) rose
delivered_short rose s sender body = record {
  fault = Some fault.NoMemory;
  by_store = tt;
  found = nothing;
  is = λ e. absurd (cc (e));
  answer_is = refl;
  moves = still_moves rose s s (DeliverOf sender) body (Some fault.NoMemory) 0 refl refl (λ e. absurd (cc (e))) refl;
}

-- a settle
settle_missed : (rose : Type 0) (before after : OfficeState) (text : List ℕ) (f : StoreFault) → TextCounted rose (Some f) → after.setup ≡ before.setup → after.kept ≡ before.kept → before.finished ≤ after.finished → IsReady before.setup before.kept after.finished → Runs before after Settle text (Refused (refusal_for f)) rose
settle_missed rose before after text f by_store s k g o = record {
  fault = Some f;
  by_store = by_store;
  found = nothing;
  is = λ e. absurd (cc (e));
  answer_is = refl;
  moves = record { setup = s; kept = k ∙ sym (kept_from-nil before.setup before.kept); grows = g; still = λ h. absurd (cc (h)); settled = λ h e. absurd (cc (e)); met = Some f; met_by_store = by_store; all_ready = λ h e. absurd (cc (e)); only_ready = λ h. ready_moved before after after.finished s k o };
}

pub settled : (rose : Type 0) (before after : OfficeState) (text : List ℕ) (r : Result Progress StoreFault) → IfOk r (λ p. IsReadyCount before.setup before.kept p.ready) → IfOk r (λ p. (p.finished ≡ p.ready) × (after.finished ≡ p.ready)) → after.setup ≡ before.setup → after.kept ≡ before.kept → before.finished ≤ after.finished → IsReady before.setup before.kept after.finished → (r ≡ Err fault.Store → rose) → Runs before after Settle text (status_answer r) rose
settled rose before after text (Ok p) counted fin s k g o err = record {
  fault = None;
  by_store = tt;
  found = ready_runs p.ready;
  is = λ e. counted;
  answer_is = ap (λ (n : ℕ). Status (record { ready = p.ready; finished = n })) fin.0;
  moves = record {
    setup = s;
    kept = k ∙ sym (kept_from-nil before.setup before.kept);
    grows = g;
    still = λ h. absurd (cc (h));
    settled = λ h e. fin.1;
    met = None;
    met_by_store = tt;
    all_ready = λ h e. count_moved before after after.finished s k (subst (IsReadyCount before.setup before.kept) (sym fin.1) counted);
    only_ready = λ h. ready_moved before after after.finished s k o;
  };
}
settled rose before after text (Err fault.NoMemory) counted fin s k g o err = settle_missed rose before after text fault.NoMemory tt s k g o
settled rose before after text (Err fault.Store) counted fin s k g o err = settle_missed rose before after text fault.Store (err refl) s k g o

-- where a fault was met before anything was done
does_nothing : (rose : Type 0) (s : OfficeState) (o : Option (Action × List ℕ)) (f : StoreFault) (ready : ℕ) → TextCounted rose (Some f) → Does s s o (Some f) ready rose
does_nothing rose s None f ready h = refl
does_nothing rose s (Some (Deliver, body)) f ready by = record { setup = refl; kept = sym (kept_from-nil s.setup s.kept); grows = omega arith; still = λ h. refl; settled = λ h e. absurd (cc (e)); met = Some f; met_by_store = by; all_ready = λ h e. absurd (cc (e)); only_ready = λ h. h }
does_nothing rose s (Some (Settle, body)) f ready by = record { setup = refl; kept = sym (kept_from-nil s.setup s.kept); grows = omega arith; still = λ h. refl; settled = λ h e. absurd (cc (e)); met = Some f; met_by_store = by; all_ready = λ h e. absurd (cc (e)); only_ready = λ h. h }
does_nothing rose s (Some (DeliverOf sender, body)) f ready by = still_moves rose s s (DeliverOf sender) body (Some f) ready refl refl (λ e. absurd (cc (e))) refl
does_nothing rose s (Some (Look, body)) f ready by = still_moves rose s s Look body (Some f) ready refl refl (λ e. absurd (cc (e))) refl
does_nothing rose s (Some (Try, body)) f ready by = still_moves rose s s Try body (Some f) ready refl refl (λ e. absurd (cc (e))) refl
does_nothing rose s (Some (TryOn day, body)) f ready by = still_moves rose s s (TryOn day) body (Some f) ready refl refl (λ e. absurd (cc (e))) refl
does_nothing rose s (Some (Breaks, body)) f ready by = still_moves rose s s Breaks body (Some f) ready refl refl (λ e. absurd (cc (e))) refl

pub short_answers : (rose : Type 0) (s : OfficeState) (l0 l1 w0 w1 : Option (List ℕ)) (front : List ℕ) (asked : Asked) (more : List ℕ) (goes_on : Bool) → Consumes l0 l1 more → (length more ≡ 0) ⊎ (length (front ++ more) ≤ body_size asked) → Appends w0 w1 (continued goes_on) → (goes_on ≡ true → waits_of asked ≡ true) → Answers s s l0 l1 w0 w1 front asked (Refused refusal.NoMemory) rose
short_answers rose s l0 l1 w0 w1 front asked more goes_on took few wrote waited = record {
  more = more;
  took = took;
  few = few;
  fault = Some fault.NoMemory;
  by_store = tt;
  found = nothing;
  whole = λ e. absurd (cc (e));
  is = λ e. absurd (cc (e));
  answer_is = refl;
  does = does_nothing rose s (posted_body asked (front ++ more)) fault.NoMemory 0 tt;
  goes_on = goes_on;
  wrote = wrote;
  went = λ e. absurd (cc (e));
  waited = waited;
}

pub refused_answers : (rose : Type 0) (s : OfficeState) (l w : Option (List ℕ)) (front : List ℕ) (r : Refusal) (due : Asked) → asks.Refused r ≡ due → Answers s s l l w w front due (Refused r) rose
refused_answers rose s l w front r due e = subst (λ (a : Asked). Answers s s l l w w front a (Refused r) rose) e (record {
  more = [];
  took = Consumes-nil l;
  few = inl refl;
  fault = None;
  by_store = tt;
  found = nothing;
  whole = λ e. tt;
  is = λ e. tt;
  answer_is = refl;
  does = refl;
  goes_on = false;
  wrote = Appends-nil w;
  went = λ e. refl;
  waited = λ h. absurd (cc (h));
})

pub told_answers : (rose : Type 0) (s s' : OfficeState) (l w : Option (List ℕ)) (front : List ℕ) (p : Page) (answer : Answer) (due : Asked) → asks.Tell p ≡ due → TellsShort s p answer rose → s' ≡ s → Answers s s' l l w w front due answer rose
told_answers rose s s' l w front p answer due e t same = subst (λ (a : Asked). Answers s s' l l w w front a answer rose) e (record {
  more = [];
  took = Consumes-nil l;
  few = inl refl;
  fault = t.fault;
  by_store = t.by_store;
  found = t.found;
  whole = λ e. tt;
  is = t.is;
  answer_is = t.answer_is;
  does = same;
  goes_on = false;
  wrote = Appends-nil w;
  went = λ e. refl;
  waited = λ h. absurd (cc (h));
})

at_most : (n m : ℕ) → n ≤ m → nat_le n m ≡ true
at_most n m h = grind (arith, nat_tests)

some_post : Action → List ℕ → Option (Action × List ℕ)
some_post action body = Some (action, body)

body_is : (p : Posted) (rest body : List ℕ) → p.length ≤ length rest → body ≡ take p.length rest → posted_body (asks.Post p) rest ≡ some_post p.action body
unfolding some_post
body_is p rest body long is =
    ap (λ b. option_map (λ (body : List ℕ). (p.action, body)) (cond b (Some (take p.length rest)) None)) (at_most p.length (length rest) long)
    ∙ ap (some_post p.action) (sym is)

-- a POST whose body came
pub whole_answers : (rose : Type 0) (before after : OfficeState) (l0 l1 w0 w1 : Option (List ℕ)) (front : List ℕ) (p : Posted) (answer : Answer) (more body : List ℕ) → Consumes l0 l1 more → (length more ≡ 0) ⊎ (length (front ++ more) ≤ p.length) → p.length ≤ length (front ++ more) → Runs before after p.action body answer rose → body ≡ take p.length (front ++ more) → Appends w0 w1 (continued p.waits) → Answers before after l0 l1 w0 w1 front (asks.Post p) answer rose
unfolding some_post
whole_answers rose before after l0 l1 w0 w1 front p answer more body took few long r body_same wrote =
    let is : posted_body (asks.Post p) (front ++ more) ≡ some_post p.action body = body_is p (front ++ more) body long body_same in
    record {
      more = more;
      took = took;
      few = few;
      fault = r.fault;
      by_store = r.by_store;
      found = r.found;
      whole = λ e. inl long;
      is = λ e. subst (IsFoundByPost before r.found) (sym is) (r.is e);
      answer_is = r.answer_is ∙ ap (λ (o : Option (Action × List ℕ)). by_fault r.fault (post_answer before r.found o)) (sym is);
      does = subst (λ (o : Option (Action × List ℕ)). Does before after o r.fault r.found.ready rose) (sym is) r.moves;
      goes_on = p.waits;
      wrote = wrote;
      went = λ e. refl;
      waited = λ h. h;
    }

past_end : (n m : ℕ) → m < n → nat_le n m ≡ false
past_end n m h = grind (arith, nat_tests)

-- a POST whose body broke off
pub broken_answers : (rose : Type 0) (s : OfficeState) (l0 l1 w0 w1 : Option (List ℕ)) (front : List ℕ) (p : Posted) (more : List ℕ) → Consumes l0 l1 more → (length more ≡ 0) ⊎ (length (front ++ more) ≤ p.length) → length (front ++ more) < p.length → IsAtEnd l1 → Appends w0 w1 (continued p.waits) → Answers s s l0 l1 w0 w1 front (asks.Post p) (Refused refusal.BadRequest) rose
broken_answers rose s l0 l1 w0 w1 front p more took few short over wrote =
    let rest : List ℕ = front ++ more in
    let none : posted_body (asks.Post p) rest ≡ None = ap (λ b. option_map (λ (body : List ℕ). (p.action, body)) (cond b (Some (take p.length rest)) None)) (past_end p.length (length rest) short) in
    record {
      more = more;
      took = took;
      few = few;
      fault = None;
      by_store = tt;
      found = nothing;
      whole = λ e. inr over;
      is = λ e. subst (IsFoundByPost s nothing) (sym none) tt;
      answer_is = ap (λ (o : Option (Action × List ℕ)). post_answer s nothing o) (sym none);
      does = subst (λ (o : Option (Action × List ℕ)). Does s s o None 0 rose) (sym none) refl;
      goes_on = p.waits;
      wrote = wrote;
      went = λ e. refl;
      waited = λ h. h;
    }

pub short_body : (seen seen' taken : List ℕ) (start size : ℕ) → seen' ≡ seen ++ taken → start ≤ length seen → length seen' < start + size → length (drop start seen ++ taken) < size
short_body seen seen' taken start size is h short = omega (arith, ap length is, length-append seen taken, length-append (drop start seen) taken, length-drop start seen, short, h)

-- the bytes after the head, and the body in front of them
pub post_body : (seen seen' taken : List ℕ) (start size : ℕ) → seen' ≡ seen ++ taken → start ≤ length seen → start + size ≤ length seen' → (size ≤ length (drop start seen ++ taken)) × (take (start + size - start) (drop start seen') ≡ take size (drop start seen ++ taken))
post_body seen seen' taken start size is h long =
    let e : drop start seen' ≡ drop start seen ++ taken = ap (drop start) is ∙ drop-append-le start seen taken h in
    let size_is : start + size - start ≡ size = omega arith in
    (omega (arith, ap length e, length-drop start seen', long), ap (λ n. take n (drop start seen')) size_is ∙ ap (take size) e)

-- what was read of the body
pub few_body : (seen taken : List ℕ) (start size : ℕ) → start ≤ length seen → (length taken ≡ 0) ⊎ (length seen + length taken ≤ start + size) → (length taken ≡ 0) ⊎ (length (drop start seen ++ taken) ≤ size)
few_body seen taken start size h few = ⊎_elim (λ none. inl none) (λ le. inr (omega (arith, le, h, length-drop start seen, length-append (drop start seen) taken))) few

-- a head, and what came after it
begins_so : (seen more : List ℕ) (headers : List HeaderSpan) (spans : RequestSpans) (h : IsHeadAt seen headers spans) → BeginsWith (seen ++ more) h.head (drop spans.len seen ++ more)
begins_so seen more headers spans h = record {
  reads = (h.parts.reads.0, ap (λ (l : List ℕ). l ++ more) h.parts.reads.1 ∙ append_assoc (print_request h.head) (drop spans.len seen) more);
  short = omega (arith, h.parts.len, h.within.section.len_fits, h.short);
  few = h.few;
}

pub exchanged : (rose : Type 0) (before after : OfficeState) (l0 l1 w0 w1 : Option (List ℕ)) (seen : List ℕ) (headers : List HeaderSpan) (spans : RequestSpans) (answer : Answer) (is_head : Bool) (h : IsHeadAt seen headers spans) (a : Answers before after l0 l1 w0 w1 (drop spans.len seen) (asked_of before.setup h.head) answer rose) → is_head ≡ is_head_method h.head → Exchange before after l1 (seen ++ a.more) (continued a.goes_on) (reply_bytes (reply_in before.setup answer) is_head) (reply_in before.setup answer).code rose
exchanged rose before after l0 l1 w0 w1 seen headers spans answer is_head h a e = record {
  head = h.head;
  rest = drop spans.len seen ++ a.more;
  begins = begins_so seen a.more headers spans h;
  few = ⊎_elim (λ none. inl (omega (arith, h.short, none, length-append seen a.more))) (λ body. inr body) a.few;
  fault = a.fault;
  by_store = a.by_store;
  found = a.found;
  whole = a.whole;
  is = a.is;
  does = a.does;
  goes_on = a.goes_on;
  went = a.went;
  waited = a.waited;
  told_is = refl;
  reply_is = ap (λ (r : Answer). reply_bytes (reply_in before.setup r) is_head) a.answer_is
      ∙ ap (λ (b : Bool). reply_bytes (reply_in before.setup (by_fault a.fault (answer_of before a.found (asked_of before.setup h.head) (drop spans.len seen ++ a.more)))) b) e;
  code_is = ap (λ (r : Answer). (reply_in before.setup r).code) a.answer_is;
}

pub served_head : (rose : Type 0) (before after : OfficeState) (l0 l1 w0 w1 w2 : Option (List ℕ)) (seen : List ℕ) (headers : List HeaderSpan) (spans : RequestSpans) (setup : Lists) (answer : Answer) (is_head : Bool) (code : ℕ) (h : IsHeadAt seen headers spans) → Answers before after l0 l1 w0 w1 (drop spans.len seen) (asked_of before.setup h.head) answer rose → is_head ≡ is_head_method h.head → setup ≡ before.setup → code ≡ (reply_in setup answer).code → Appends w1 w2 (reply_bytes (reply_in setup answer) is_head) → ServesHead before after l0 l1 w0 w2 seen code rose
served_head rose before after l0 l1 w0 w1 w2 seen headers spans setup answer is_head code h a e s c wrote = record {
  more = a.more;
  took = a.took;
  told = continued a.goes_on;
  reply = reply_bytes (reply_in before.setup answer) is_head;
  exchange = subst (λ n. Exchange before after l1 (seen ++ a.more) (continued a.goes_on) (reply_bytes (reply_in before.setup answer) is_head) n rose)
      (sym (c ∙ ap (λ (l : Lists). (reply_in l answer).code) s)) (exchanged rose before after l0 l1 w0 w1 seen headers spans answer is_head h a e);
  wrote = Appends-trans w0 w1 w2 (continued a.goes_on) (reply_bytes (reply_in before.setup answer) is_head) a.wrote
      (subst (λ (l : Lists). Appends w1 w2 (reply_bytes (reply_in l answer) is_head)) s wrote);
}

pub served_front : (rose : Type 0) (before after : OfficeState) (l0 l1 w0 w1 w2 : Option (List ℕ)) (seen : List ℕ) (headers : List HeaderSpan) (spans : RequestSpans) (setup : Lists) (answer : Answer) (is_head : Bool) (h : IsHeadAt seen headers spans) → Answers before after l0 l1 w0 w1 (drop spans.len seen) (asked_of before.setup h.head) answer rose → is_head ≡ is_head_method h.head → setup ≡ before.setup → AppendsFront w1 w2 (reply_bytes (reply_in setup answer) is_head) → ServesFront before after l0 l1 w0 w2 seen rose
served_front rose before after l0 l1 w0 w1 w2 seen headers spans setup answer is_head h a e s wrote = record {
  more = a.more;
  took = a.took;
  told = continued a.goes_on;
  reply = reply_bytes (reply_in before.setup answer) is_head;
  code = (reply_in before.setup answer).code;
  exchange = exchanged rose before after l0 l1 w0 w1 seen headers spans answer is_head h a e;
  between = w1;
  first = a.wrote;
  wrote = subst (λ (l : Lists). AppendsFront w1 w2 (reply_bytes (reply_in l answer) is_head)) s wrote;
}

-- the whole connection
pub replied_head : (rose : Type 0) (before after : OfficeState) (l0 l1 l2 w0 w1 : Option (List ℕ)) (seen input : List ℕ) (code : ℕ) → Consumes l0 l1 input → input ≡ seen → ServesHead before after l1 l2 w0 w1 seen code rose → Replied before after l0 l2 w0 w1 code rose
replied_head rose before after l0 l1 l2 w0 w1 seen input code took same s = record {
  input = seen ++ s.more;
  took = Consumes-trans l0 l1 l2 seen s.more (subst (Consumes l0 l1) same took) s.took;
  told = s.told;
  reply = s.reply;
  served = inl s.exchange;
  wrote = s.wrote;
}

replied_front : (rose : Type 0) (before after : OfficeState) (l0 l1 l2 w0 w1 : Option (List ℕ)) (seen input : List ℕ) → Consumes l0 l1 input → input ≡ seen → ServesFront before after l1 l2 w0 w1 seen rose → RepliedFront before after l0 l2 w0 w1 rose
replied_front rose before after l0 l1 l2 w0 w1 seen input took same s = record {
  input = seen ++ s.more;
  took = Consumes-trans l0 l1 l2 seen s.more (subst (Consumes l0 l1) same took) s.took;
  told = s.told;
  reply = s.reply;
  code = s.code;
  served = inl s.exchange;
  between = s.between;
  first = s.first;
  wrote = s.wrote;
}

stop_after : (before after : OfficeState) (l0 l1 l2 w0 w1 : Option (List ℕ)) (seen input : List ℕ) → Consumes l0 l1 input → input ≡ seen → length input ≤ head_room → StopsBefore before after l1 l2 w0 w1 body_room (λ more. IsAwaited before.setup (seen ++ more)) → StopsBefore before after l0 l2 w0 w1 (head_room + body_room) (IsAwaited before.setup)
stop_after before after l0 l1 l2 w0 w1 seen input took same few s = record {
  same = s.same;
  input = seen ++ s.input;
  took = Consumes-trans l0 l1 l2 seen s.input (subst (Consumes l0 l1) same took) s.took;
  few = omega (arith, few, s.few, ap length same, length-append seen s.input);
  wrote = s.wrote;
}

pub stopped_head : (rose : Type 0) (before after : OfficeState) (l0 l1 l2 w0 w1 : Option (List ℕ)) (seen input : List ℕ) (f : ServeFault) → Consumes l0 l1 input → input ≡ seen → length input ≤ head_room → StopsRequest before after l1 l2 w0 w1 seen f rose → StopsServe before after l0 l2 w0 w1 f rose
stopped_head rose before after l0 l1 l2 w0 w1 seen input Read took same few s = stop_after before after l0 l1 l2 w0 w1 seen input took same few s
stopped_head rose before after l0 l1 l2 w0 w1 seen input Write took same few s = ⊎_elim (λ stop. inl (stop_after before after l0 l1 l2 w0 w1 seen input took same few stop)) (λ front. inr (replied_front rose before after l0 l1 l2 w0 w1 seen input took same front)) s

-- a reader that failed within the head: nothing was written
pub stopped_reading : (s : OfficeState) (l0 l1 w : Option (List ℕ)) → Came l0 l1 head_room → StopsBefore s s l0 l1 w w (head_room + body_room) (IsAwaited s.setup)
stopped_reading s l0 l1 w c = record { same = refl; input = c.input; took = c.took; few = omega (arith, c.few); wrote = inl (Appends-nil w) }

-- a writer that failed at 100 Continue
pub stopped_writing : (s : OfficeState) (l w0 w1 : Option (List ℕ)) (p : Posted) → p.waits ≡ true → AppendsFront w0 w1 continue_bytes → StopsBefore s s l l w0 w1 p.length (λ input. p.waits ≡ true)
stopped_writing s l w0 w1 p waits front = record { same = refl; input = []; took = Consumes-nil l; few = omega arith; wrote = inr (waits, front) }

all_told : (b : Bool) (w0 w1 : Option (List ℕ)) → Appends w0 w1 (continued b) → Appends w0 w1 [] ⊎ ((b ≡ true) × AppendsFront w0 w1 continue_bytes)
all_told true w0 w1 h = inr (refl, record { front = continue_bytes; begins = ([], append-nil continue_bytes); took = h })
all_told false w0 w1 h = inl h

-- a reader that failed within the body
pub stopped_body : (s : OfficeState) (l0 l1 w0 w1 : Option (List ℕ)) (p : Posted) (start seen : ℕ) → start ≤ seen → Came l0 l1 (start + p.length - seen) → Appends w0 w1 (continued p.waits) → StopsBefore s s l0 l1 w0 w1 p.length (λ input. p.waits ≡ true)
stopped_body s l0 l1 w0 w1 p start seen h c wrote = record { same = refl; input = c.input; took = c.took; few = omega (arith, c.few, h); wrote = all_told p.waits w0 w1 wrote }

-- it is known what is asked
pub post_size : (o : Option Asked) (p : Posted) → ((due : Asked) → IfSome o (λ a. a ≡ due) → asks.Post p ≡ due) → IfSome o (λ a. body_size a ≤ body_room) → p.length ≤ body_room
post_size None p is fits = let none : p.length ≡ 0 = ap body_size (is (asks.Refused refusal.BadRequest) tt) in omega (arith, none)
post_size (Some a) p is fits = let same : p.length ≡ body_size a = ap body_size (is a refl) in omega (arith, same, fits)

waits_due : (p : Posted) (due : Asked) → asks.Post p ≡ due → p.waits ≡ true → waits_of due ≡ true
waits_due p due e w = subst (λ (a : Asked). waits_of a ≡ true) e w

pub stopped_post : (before after : OfficeState) (l0 l1 w0 w1 : Option (List ℕ)) (o : Option Asked) (p : Posted) → ((due : Asked) → IfSome o (λ a. a ≡ due) → asks.Post p ≡ due) → IfSome o (λ a. body_size a ≤ body_room) → StopsBefore before after l0 l1 w0 w1 p.length (λ input. p.waits ≡ true) → StopsBefore before after l0 l1 w0 w1 body_room (λ input. (due : Asked) → IfSome o (λ a. a ≡ due) → waits_of due ≡ true)
stopped_post before after l0 l1 w0 w1 o p is fits s = record {
  same = s.same;
  input = s.input;
  took = s.took;
  few = omega (arith, s.few, post_size o p is fits);
  wrote = ⊎_elim (λ none. inl none) (λ front. inr (λ due h. waits_due p due (is due h) front.0, front.1)) s.wrote;
}

pub stopped_asked : (before after : OfficeState) (l0 l1 w0 w1 : Option (List ℕ)) (o : Option Asked) (seen : List ℕ) (headers : List HeaderSpan) (spans : RequestSpans) (h : IsHeadAt seen headers spans) → IfSome o (λ a. a ≡ asked_of before.setup h.head) → StopsBefore before after l0 l1 w0 w1 body_room (λ input. (due : Asked) → IfSome o (λ a. a ≡ due) → waits_of due ≡ true) → StopsBefore before after l0 l1 w0 w1 body_room (λ more. IsAwaited before.setup (seen ++ more))
stopped_asked before after l0 l1 w0 w1 o seen headers spans h is s = record {
  same = s.same;
  input = s.input;
  took = s.took;
  few = s.few;
  wrote = ⊎_elim (λ none. inl none) (λ front. inr (record { head = h.head; rest = drop spans.len seen ++ s.input; begins = begins_so seen s.input headers spans h; waits = front.0 (asked_of before.setup h.head) is }, front.1)) s.wrote;
}

pub stopped_request : (rose : Type 0) (before after : OfficeState) (l0 l1 w0 w1 : Option (List ℕ)) (seen : List ℕ) (f : ServeFault) → StopsBefore before after l0 l1 w0 w1 body_room (λ more. IsAwaited before.setup (seen ++ more)) → StopsRequest before after l0 l1 w0 w1 seen f rose
stopped_request rose before after l0 l1 w0 w1 seen Read s = s
stopped_request rose before after l0 l1 w0 w1 seen Write s = inl s

-- what is no request
unread : (rose : Type 0) (s : OfficeState) (left : Option (List ℕ)) (input : List ℕ) (r : Refusal) → length input ≤ head_room → IsUnread left input r → IsServed s s left input [] (reply_bytes (refused r) false) (refused r).code rose
unread rose s left input r few cause = inr (record { few = few; refusal = r; cause = cause; same = refl; told_is = refl; reply_is = refl; code_is = refl })

unread_at : (rose : Type 0) (s : OfficeState) (l0 l1 w0 w1 : Option (List ℕ)) (input : List ℕ) (r : Refusal) (code : Option ℕ) → Consumes l0 l1 input → length input ≤ head_room → IsUnread l1 input r → code ≡ Some (refused r).code → Appends w0 w1 (reply_bytes (refused r) false) → Serves s s l0 l1 w0 w1 code rose
unread_at rose s l0 l1 w0 w1 input r code took few cause e wrote = subst (λ (o : Option ℕ). Serves s s l0 l1 w0 w1 o rose) (sym e) (record { input = input; took = took; told = []; reply = reply_bytes (refused r) false; served = unread rose s l1 input r few cause; wrote = wrote })

pub unread_ok : (rose : Type 0) (s : OfficeState) (l0 l1 w0 w1 : Option (List ℕ)) (input : List ℕ) (r : Refusal) (result : Result Served ServeFault) → Consumes l0 l1 input → length input ≤ head_room → IsUnread l1 input r → IfOk result (λ served. served.code ≡ Some (refused r).code) → OnOk result (Appends w0 w1 (reply_bytes (refused r) false)) → IfOk result (λ served. Serves s s l0 l1 w0 w1 served.code rose)
unread_ok rose s l0 l1 w0 w1 input r (Ok served) took few cause code wrote = unread_at rose s l0 l1 w0 w1 input r served.code took few cause code wrote
unread_ok rose s l0 l1 w0 w1 input r (Err f) took few cause code wrote = tt

pub unread_err : (rose : Type 0) (s : OfficeState) (l0 l1 w0 w1 : Option (List ℕ)) (input : List ℕ) (r : Refusal) (result : Result Served ServeFault) → Consumes l0 l1 input → length input ≤ head_room → IsUnread l1 input r → IfErr result (λ f. (f ≡ Write) × AppendsFront w0 w1 (reply_bytes (refused r) false)) → IfErr result (λ f. StopsServe s s l0 l1 w0 w1 f rose)
unread_err rose s l0 l1 w0 w1 input r (Ok served) took few cause h = tt
unread_err rose s l0 l1 w0 w1 input r (Err f) took few cause h = subst (λ (f : ServeFault). StopsServe s s l0 l1 w0 w1 f rose) (sym h.0) (inr (record { input = input; took = took; told = []; reply = reply_bytes (refused r) false; code = (refused r).code; served = unread rose s l1 input r few cause; between = w0; first = Appends-nil w0; wrote = h.1 }))

-- what is asked, where it was read
pub asked_due : {E : Type 0} (setup : Lists) (r : Result Asked E) (o : Option Asked) (seen : List ℕ) (headers : List HeaderSpan) (spans : RequestSpans) (head : RequestHead) → o ≡ result_ok r
    → IfOk r (λ a. (h : RequestHead) → IsRequestAt seen headers spans h → a ≡ asked_of setup h) → IsRequestAt seen headers spans head → IfSome o (λ a. a ≡ asked_of setup head)
asked_due setup (Ok a) o seen headers spans head is f h = subst (λ (x : Option Asked). IfSome x (λ b. b ≡ asked_of setup head)) (sym is) (f head h)
asked_due setup (Err e) o seen headers spans head is f h = subst (λ (x : Option Asked). IfSome x (λ b. b ≡ asked_of setup head)) (sym is) tt

pub asked_fits : (setup : Lists) (o : Option Asked) (head : RequestHead) → IfSome o (λ a. a ≡ asked_of setup head) → IfSome o (λ a. body_size a ≤ body_room)
asked_fits setup (Some a) head is = subst (λ (b : Asked). body_size b ≤ body_room) (sym is) (body_fits setup head)
asked_fits setup None head is = tt
