-- What a request does, as steps of an office's history.
use Rattle.std.proofs.Common.{◌≡◌, ℕ, ◌-◌, ◌≤◌, true, List, [], Option, Some, None, length, sym, ap, subst, ◌∙◌, option_map, refl, arith}
use Rattle.office_mail.specs.Lists.{Lists}
use Rattle.office_mail.specs.Kept.{Kept, kept_from}
use Rattle.office_mail.specs.Runs.{IsReadyCount}
use Rattle.office_mail.proofs.KeptFacts.{kept_from-nil}
use Rattle.office_store_keeper.specs.declared.keeper.Keeper.{Ghosts}
use Rattle.office_core_facts.specs.OfficeState.{OfficeState}
use Rattle.office_core_facts.specs.State.{IsOffice, IsSound, state_of}
use Rattle.office_core_store.specs.declared.faults.StoreFault.{StoreFault}
use Rattle.office_core_store.specs.declared.faults.StoreFault.TheVariants.{NoMemory, Store}
use Rattle.office_http_requests.specs.declared.request.Action.{Action}
use Rattle.office_http_requests.specs.declared.request.Action.TheVariants.{Settle}
use Rattle.office_http_requests.specs.declared.request.Asked.{Asked}
use Rattle.office_http_requests.specs.declared.request.Asked.TheVariants.{Post}
use Rattle.office_http_requests.specs.declared.request.Posted.{Posted}
use Rattle.office_http_requests.specs.Asked.{asked_of}
use Rattle.office_http_requests.specs.Reply.{reply_in}
use Rattle.office_http_requests.specs.declared.reply.Answer.{Answer}
use Rattle.office_http_requests.specs.declared.reply.Answer.TheVariants.{Refused}
use Rattle.office_http_requests.specs.declared.reply.Refusal.TheVariants.{BadRequest}
use Rattle.office_core.specs.History.{Leads, Looked, Settled, coming}
use Rattle.office_core.specs.Preserves.{StoreRefused}
use Rattle.office_core.proofs.HistoryFacts.{came_leads, came_settled}
use Rattle.office_http.specs.Serve.{Does, Exchange, Found, IsFoundForAsked, Moves, answer_of, body_of, by_fault, delivered_by, posted_body, settles}
use Rattle.office_http.specs.steps.ServeSteps.{IsFoundByPost, post_answer}

state_leads : {K : Type 0} (keeper : Ghosts K) (old new : K) (texts : List (List ℕ)) → keeper.setup new ≡ keeper.setup old → (keeper.content new).kept ≡ kept_from (keeper.setup old) (keeper.content old).kept texts → length (keeper.content old).reports ≤ length (keeper.content new).reports → IsSound keeper old → IsSound keeper new
    → Leads (keeper.setup old) (keeper.content old) (coming texts (length (keeper.content new).reports - length (keeper.content old).reports) Looked) (keeper.content new)
state_leads keeper old new texts same kept grows was is =
    came_leads (keeper.setup old) texts (keeper.content old) (keeper.content new) was.1 (subst (λ (s : Lists). IsOffice s (keeper.content new)) same is.1) kept grows

pub request_leads : {K : Type 0} (keeper : Ghosts K) (old new : K) (post : Option (Action × List ℕ)) (fault : Option StoreFault) (ready : ℕ) → Does (state_of keeper old) (state_of keeper new) post fault ready (StoreRefused keeper old new) → IsSound keeper old → IsSound keeper new
    → Leads (keeper.setup old) (keeper.content old) (coming (delivered_by (keeper.setup old) post fault) (length (keeper.content new).reports - length (keeper.content old).reports) Looked) (keeper.content new)
request_leads keeper old new None fault ready does was is =
    let size : length (keeper.content new).reports ≡ length (keeper.content old).reports = ap (λ (s : OfficeState). s.finished) does in
    state_leads keeper old new [] (ap (λ (s : OfficeState). s.setup) does) (ap (λ (s : OfficeState). s.kept) does ∙ sym (kept_from-nil (keeper.setup old) (keeper.content old).kept)) (omega (arith, size)) was is
request_leads keeper old new (Some (action, body)) fault ready does was is =
    state_leads keeper old new (delivered_by (keeper.setup old) (Some (action, body)) fault) does.setup does.kept does.grows was is

-- ---- a request whose settle met nothing ends in that

state_settled : {K : Type 0} (keeper : Ghosts K) (old new : K) (action : Action) (body : List ℕ) (fault : Option StoreFault) (ready : ℕ) → Moves (state_of keeper old) (state_of keeper new) action body fault ready (StoreRefused keeper old new) → IsSound keeper old → IsSound keeper new
    → IsReadyCount (keeper.setup old) (keeper.content new).kept (length (keeper.content new).reports)
    → Leads (keeper.setup old) (keeper.content old) (coming (delivered_by (keeper.setup old) (Some (action, body)) fault) (length (keeper.content new).reports - length (keeper.content old).reports) Settled) (keeper.content new)
state_settled keeper old new action body fault ready does was is count =
    came_settled (keeper.setup old) (delivered_by (keeper.setup old) (Some (action, body)) fault) (keeper.content old) (keeper.content new) was.1 (subst (λ (s : Lists). IsOffice s (keeper.content new)) does.setup is.1)
    does.kept does.grows count

pub request_settled : {K : Type 0} (keeper : Ghosts K) (old new : K) (action : Action) (body : List ℕ) (fault : Option StoreFault) (ready : ℕ) → (does : Moves (state_of keeper old) (state_of keeper new) action body fault ready (StoreRefused keeper old new)) → IsSound keeper old → IsSound keeper new
    → settles (state_of keeper old) action body fault ≡ true → does.met ≡ None
    → Leads (keeper.setup old) (keeper.content old) (coming (delivered_by (keeper.setup old) (Some (action, body)) fault) (length (keeper.content new).reports - length (keeper.content old).reports) Settled) (keeper.content new)
request_settled keeper old new action body fault ready does was is due none =
    state_settled keeper old new action body fault ready does was is
    (subst (λ (s : Lists). IsReadyCount s (keeper.content new).kept (length (keeper.content new).reports)) does.setup (does.all_ready due none))

-- ---- and so does one to settle that is answered by 200

no_fault : (setup : Lists) (fault : Option StoreFault) (due : Answer) → (reply_in setup (by_fault fault due)).code ≡ 200 → fault ≡ None
no_fault setup None due e = refl
no_fault setup (Some NoMemory) due e = absurd (omega (arith, e))
no_fault setup (Some Store) due e = absurd (omega (arith, e))

short_body : (setup : Lists) (fault : Option StoreFault) → (reply_in setup (by_fault fault (Refused BadRequest))).code ≡ 200 → ⊥
short_body setup None e = omega (arith, e)
short_body setup (Some NoMemory) e = omega (arith, e)
short_body setup (Some Store) e = omega (arith, e)

-- a request to settle delivers no text
none_delivered : (setup : Lists) (body : List ℕ) (fault : Option StoreFault) → delivered_by setup (Some (Settle, body)) fault ≡ []
none_delivered setup body None = refl
none_delivered setup body (Some f) = refl

moves_settled : {K : Type 0} (keeper : Ghosts K) (old new : K) (body : List ℕ) (fault : Option StoreFault) (ready : ℕ) → Moves (state_of keeper old) (state_of keeper new) Settle body fault ready (StoreRefused keeper old new) → IsSound keeper old → IsSound keeper new → fault ≡ None → IsReadyCount (keeper.setup old) (keeper.content old).kept ready
    → Leads (keeper.setup old) (keeper.content old) (coming [] (length (keeper.content new).reports - length (keeper.content old).reports) Settled) (keeper.content new)
moves_settled keeper old new body fault ready does was is none count =
    let came : (keeper.content new).kept ≡ kept_from (keeper.setup old) (keeper.content old).kept [] =
    does.kept ∙ ap (λ (texts : List (List ℕ)). kept_from (keeper.setup old) (keeper.content old).kept texts) (none_delivered (keeper.setup old) body fault) in
    let same : (keeper.content new).kept ≡ (keeper.content old).kept = came ∙ kept_from-nil (keeper.setup old) (keeper.content old).kept in
    came_settled (keeper.setup old) [] (keeper.content old) (keeper.content new) was.1 (subst (λ (s : Lists). IsOffice s (keeper.content new)) does.setup is.1) came does.grows
    (subst (λ (x : ℕ). IsReadyCount (keeper.setup old) (keeper.content new).kept x) (sym (does.settled refl none)) (subst (λ (x : Kept). IsReadyCount (keeper.setup old) x ready) (sym same) count))

-- the body that such a request has
abbrev settle_with : Option (List ℕ) → Option (Action × List ℕ)
settle_with o = option_map (λ (body : List ℕ). (Settle, body)) o

told_by : {K : Type 0} (keeper : Ghosts K) (old new : K) (fault : Option StoreFault) (found : Found) (o : Option (List ℕ)) → Does (state_of keeper old) (state_of keeper new) (settle_with o) fault found.ready (StoreRefused keeper old new) → IsSound keeper old → IsSound keeper new
    → (fault ≡ None → IsFoundByPost (state_of keeper old) found (settle_with o)) → (reply_in (keeper.setup old) (by_fault fault (post_answer (state_of keeper old) found (settle_with o)))).code ≡ 200
    → Leads (keeper.setup old) (keeper.content old) (coming [] (length (keeper.content new).reports - length (keeper.content old).reports) Settled) (keeper.content new)
told_by keeper old new fault found None does was is counts e = absurd (short_body (keeper.setup old) fault e)
told_by keeper old new fault found (Some body) does was is counts e =
    let none : fault ≡ None = no_fault (keeper.setup old) fault (post_answer (state_of keeper old) found (settle_with (Some body))) e in
    moves_settled keeper old new body fault found.ready does was is none (counts none)

pub told_settled : {K : Type 0} (keeper : Ghosts K) (old new : K) (left : Option (List ℕ)) (input told reply : List ℕ) (code : ℕ) (p : Posted) → (x : Exchange (state_of keeper old) (state_of keeper new) left input told reply code (StoreRefused keeper old new)) → IsSound keeper old → IsSound keeper new
    → asked_of (keeper.setup old) x.head ≡ Post p → p.action ≡ Settle → code ≡ 200
    → Leads (keeper.setup old) (keeper.content old) (coming [] (length (keeper.content new).reports - length (keeper.content old).reports) Settled) (keeper.content new)
told_settled keeper old new left input told reply code p x was is asks settle well =
    let before : OfficeState = state_of keeper old in
    let o : Option (List ℕ) = body_of p.length x.rest in
    let posted : posted_body (asked_of (keeper.setup old) x.head) x.rest ≡ settle_with o =
    ap (λ (a : Asked). posted_body a x.rest) asks ∙ ap (λ (a : Action). option_map (λ (body : List ℕ). (a, body)) o) settle in
    let answers : answer_of before x.found (asked_of (keeper.setup old) x.head) x.rest ≡ post_answer before x.found (settle_with o) =
    ap (λ (a : Asked). answer_of before x.found a x.rest) asks ∙ ap (λ (a : Action). post_answer before x.found (option_map (λ (body : List ℕ). (a, body)) o)) settle in
    told_by keeper old new x.fault x.found o
    (subst (λ (b : Option (Action × List ℕ)). Does before (state_of keeper new) b x.fault x.found.ready (StoreRefused keeper old new)) posted x.does) was is
    (λ none. subst (λ (a : Action). IsFoundByPost before x.found (option_map (λ (body : List ℕ). (a, body)) o)) settle (subst (λ (a : Asked). IsFoundForAsked before x.found a x.rest) asks (x.is none)))
    (ap (λ (due : Answer). (reply_in (keeper.setup old) (by_fault x.fault due)).code) (sym answers) ∙ sym x.code_is ∙ well)
