-- A life is steps of the headline, and what was told of a finished run stays.
use Rattle.std.proofs.Common.{◌≡◌, ℕ, zero, suc, ◌-◌, ◌<◌, ◌≤◌, ◌↔◌, Bool, true, false, List, [], ◌∷◌, ◌++◌, Option, Some, None, Ok, inl, inr, option_map, flat_map, fold, length, replicate, slice_get, append-nil, sym, ap, subst, ◌∙◌, refl, arith}
use Rattle.std.proofs.lemmas.Grind.{flat_map-append}
use Rattle.office_mail.specs.Kept.{kept_from}
use Rattle.office_mail.specs.Lists.{Lists}
use Rattle.office_store_keeper.specs.Content.{Content, item_from_one, no_content}
use Rattle.office_store_keeper.specs.declared.keeper.Keeper.{Ghosts}
use Rattle.office_store_keeper.specs.declared.values.Reports.{Reports}
use Rattle.office_core_replies.specs.Replies.{not_lost}
use Rattle.office_core_facts.specs.State.{IsOffice, IsSound, reports_at, state_of}
use Rattle.office_core_facts.proofs.ReportFacts.{reports_at-is}
use Rattle.office_core.specs.History.{Finished, IsByRules, Leads, Looked, Settled, Step, coming, is_settled, settled_by, text_in, texts_in}
use Rattle.office_core.specs.Came.{AllCame}
use Rattle.office_core.specs.Laws.{RunsStand}
use Rattle.office_core.specs.Preserves.{Preserves, StoreRefused}
use Rattle.office_core.specs.Visible.{visible}
use Rattle.office_core.proofs.CameFacts.{finished_by}
use Rattle.office_core.proofs.HistoryFacts.{by_rules_all, came_leads, leads_stand, leads_twice, looked}
use Rattle.office_core.proofs.OfficeFacts.{IsOffice-new}
use Rattle.office_core_store.specs.declared.faults.StoreFault.{StoreFault}
use Rattle.office_core_replies.specs.declared.replies.Delivery.{Delivery}
use Rattle.office_mail.specs.Reading.{Reading}
use Rattle.office_core_replay.specs.Delivered.{KeepsMail}
use Rattle.office_core_replay.specs.Replay.{Replays, StopsReplay}
use Rattle.office_core_replay.specs.declared.replays.Replayed.{Replayed}
use Rattle.office_http.specs.declared.serve.ServeFault.{ServeFault}
use Rattle.office_http.specs.declared.serve.ServeFault.TheVariants.{Read, Write}
use Rattle.office_http_requests.specs.Asked.{asked_of}
use Rattle.office_http_requests.specs.declared.request.Action.{Action}
use Rattle.office_http_requests.specs.declared.request.Action.TheVariants.{Settle}
use Rattle.office_http_requests.specs.declared.request.Posted.{Posted}
use Rattle.office_http_requests.specs.declared.request.Asked.TheVariants.{Post, Tell}
use Rattle.office_http_requests.specs.declared.request.Page.TheVariants.{Excuses, Update}
use Rattle.office_http.specs.Life.{ByReplay, ByRequest, Event, Happens, IsEvent, IsLedBy, Lives, Reopened, texts_of}
use Rattle.office_http.specs.Serve.{Does, Exchange, Found, IsServed, Serves, StopsServe, answer_of, delivered_by, posted_body}
use Rattle.office_http.specs.steps.ServeSteps.{report_answer}
use Rattle.office_http.proofs.StepFacts.{request_leads, told_settled}

-- ---- what an event leaves

happens_setup : {K : Type 0} (keeper : Ghosts K) (e : Event) (old new : K) → Happens keeper e old new → keeper.setup new ≡ keeper.setup old
happens_setup keeper (ByRequest post fault) old new h = h.0.setup
happens_setup keeper (ByReplay deliveries) old new h = h.0.setup
happens_setup keeper Reopened old new h = h.setup

happens_trusted : {K : Type 0} (keeper : Ghosts K) (e : Event) (old new : K) → Happens keeper e old new → keeper.is_trusted new → keeper.is_trusted old
happens_trusted keeper (ByRequest post fault) old new h trusted = h.0.before trusted
happens_trusted keeper (ByReplay deliveries) old new h trusted = h.0.before trusted
happens_trusted keeper Reopened old new h trusted = h.trusted

happens_sound : {K : Type 0} (keeper : Ghosts K) (e : Event) (old new : K) → Happens keeper e old new → keeper.is_trusted new → IsSound keeper old → IsSound keeper new
happens_sound keeper (ByRequest post fault) old new h trusted was = h.0.sound trusted was
happens_sound keeper (ByReplay deliveries) old new h trusted was = h.0.sound trusted was
happens_sound keeper Reopened old new h trusted was =
    (h.legible was.0, subst (λ (c : Content). IsOffice (keeper.setup new) c) (sym h.same) (subst (λ (s : Lists). IsOffice s (keeper.content old)) (sym h.setup) was.1))

-- ---- the texts of such steps

ending_texts : (n : ℕ) → texts_in (replicate n Finished ++ Looked ∷ []) ≡ []
ending_texts zero = refl
ending_texts (suc n) = ending_texts n

coming_texts : (texts : List (List ℕ)) (n : ℕ) → texts_in (coming texts n Looked) ≡ texts
coming_texts [] n = ending_texts n
coming_texts (t ∷ ts) n = ap (λ (more : List (List ℕ)). t ∷ more) (coming_texts ts n)

-- ---- an event is steps

came_is_led : (setup : Lists) (texts : List (List ℕ)) (old new : Content) (n : ℕ) → Leads setup old (coming texts n Looked) new → IsLedBy setup texts old new
came_is_led setup texts old new n leads = record { steps = coming texts n Looked; came = coming_texts texts n; leads = leads }

replay_led : {K : Type 0} (keeper : Ghosts K) (old new : K) (texts : List (List ℕ)) → keeper.setup new ≡ keeper.setup old → (keeper.content new).kept ≡ kept_from (keeper.setup old) (keeper.content old).kept texts → length (keeper.content old).reports ≤ length (keeper.content new).reports → IsSound keeper old → IsSound keeper new
    → IsLedBy (keeper.setup old) texts (keeper.content old) (keeper.content new)
replay_led keeper old new texts same kept grows was is =
    came_is_led (keeper.setup old) texts (keeper.content old) (keeper.content new) (length (keeper.content new).reports - length (keeper.content old).reports)
    (came_leads (keeper.setup old) texts (keeper.content old) (keeper.content new) was.1 (subst (λ (s : Lists). IsOffice s (keeper.content new)) same is.1) kept grows)

event_led : {K : Type 0} (keeper : Ghosts K) (e : Event) (old new : K) → Happens keeper e old new → keeper.is_trusted new → IsSound keeper old → IsLedBy (keeper.setup old) (texts_of (keeper.setup old) e) (keeper.content old) (keeper.content new)
event_led keeper (ByRequest post fault) old new h trusted was =
    let does = h.1 (trusted, was) in
    came_is_led (keeper.setup old) (delivered_by (keeper.setup old) post fault) (keeper.content old) (keeper.content new) (length (keeper.content new).reports - length (keeper.content old).reports)
    (request_leads keeper old new post fault does.0 does.1 was (h.0.sound trusted was))
event_led keeper (ByReplay deliveries) old new h trusted was =
    let keeps : KeepsMail (state_of keeper old) (state_of keeper new) deliveries = h.1 (trusted, was) in
    replay_led keeper old new (not_lost deliveries) keeps.setup keeps.kept keeps.grows was (h.0.sound trusted was)
event_led keeper Reopened old new h trusted was = record { steps = Looked ∷ []; came = refl; leads = looked (keeper.setup old) (keeper.content old) (keeper.content new) h.same }

-- ---- a life is steps

lives_setup : {K : Type 0} (keeper : Ghosts K) (es : List Event) (a b : K) → Lives keeper a es b → keeper.setup b ≡ keeper.setup a
unfolding Lives
lives_setup keeper [] a b h = ap keeper.setup h
lives_setup keeper (e ∷ es) a b h = lives_setup keeper es h.0 b h.2 ∙ happens_setup keeper e a h.0 h.1

lives_trusted : {K : Type 0} (keeper : Ghosts K) (es : List Event) (a b : K) → Lives keeper a es b → keeper.is_trusted b → keeper.is_trusted a
unfolding Lives
lives_trusted keeper [] a b h trusted = subst keeper.is_trusted h trusted
lives_trusted keeper (e ∷ es) a b h trusted = happens_trusted keeper e a h.0 h.1 (lives_trusted keeper es h.0 b h.2 trusted)

lives_sound : {K : Type 0} (keeper : Ghosts K) (es : List Event) (a b : K) → Lives keeper a es b → keeper.is_trusted b → IsSound keeper a → IsSound keeper b
unfolding Lives
lives_sound keeper [] a b h trusted was = subst (IsSound keeper) (sym h) was
lives_sound keeper (e ∷ es) a b h trusted was =
    lives_sound keeper es h.0 b h.2 trusted (happens_sound keeper e a h.0 h.1 (lives_trusted keeper es h.0 b h.2 trusted) was)

led_none : (setup : Lists) (old new : Content) → new ≡ old → IsLedBy setup [] old new
led_none setup old new e = record { steps = Looked ∷ []; came = refl; leads = looked setup old new e }

led_twice : (setup : Lists) (xs ys : List (List ℕ)) (a b c : Content) → IsLedBy setup xs a b → IsLedBy setup ys b c → IsLedBy setup (xs ++ ys) a c
led_twice setup xs ys a b c h k = record {
  steps = h.steps ++ k.steps;
  came = flat_map-append text_in h.steps k.steps ∙ ap (λ (ts : List (List ℕ)). ts ++ texts_in k.steps) h.came ∙ ap (λ (ts : List (List ℕ)). xs ++ ts) k.came;
  leads = leads_twice setup h.steps k.steps a b c h.leads k.leads;
}

pub life_led : {K : Type 0} (keeper : Ghosts K) (es : List Event) (a b : K) → Lives keeper a es b → IsSound keeper a → keeper.is_trusted b → IsLedBy (keeper.setup a) (flat_map (texts_of (keeper.setup a)) es) (keeper.content a) (keeper.content b)
unfolding Lives
life_led keeper [] a b h was trusted = led_none (keeper.setup a) (keeper.content a) (keeper.content b) (ap keeper.content h)
life_led keeper (e ∷ es) a b h was trusted =
    let mid = h.0 in
    let mid_trusted = lives_trusted keeper es mid b h.2 trusted in
    let same : keeper.setup mid ≡ keeper.setup a = happens_setup keeper e a mid h.1 in
    let rest : IsLedBy (keeper.setup mid) (flat_map (texts_of (keeper.setup mid)) es) (keeper.content mid) (keeper.content b) = life_led keeper es mid b h.2 (happens_sound keeper e a mid h.1 mid_trusted was) trusted in
    led_twice (keeper.setup a) (texts_of (keeper.setup a) e) (flat_map (texts_of (keeper.setup a)) es) (keeper.content a) (keeper.content mid) (keeper.content b)
    (event_led keeper e a mid h.1 mid_trusted was)
    (subst (λ (s : Lists). IsLedBy s (flat_map (texts_of s) es) (keeper.content mid) (keeper.content b)) same rest)

led_rules : (setup : Lists) (texts : List (List ℕ)) (old new : Content) → old ≡ no_content → IsLedBy setup texts old new → IsByRules setup texts (visible new)
led_rules setup texts old new none led =
    subst (λ (ts : List (List ℕ)). IsByRules setup ts (visible new)) led.came (by_rules_all setup led.steps (visible new) (subst (λ (c : Content). Leads setup c led.steps new) none led.leads))

pub life_rules : {K : Type 0} (keeper : Ghosts K) (es : List Event) (a b : K) → Lives keeper a es b → keeper.is_legible a → keeper.content a ≡ no_content → keeper.is_trusted b → IsByRules (keeper.setup a) (flat_map (texts_of (keeper.setup a)) es) (visible (keeper.content b))
life_rules keeper es a b h legible none trusted =
    led_rules (keeper.setup a) (flat_map (texts_of (keeper.setup a)) es) (keeper.content a) (keeper.content b) none
    (life_led keeper es a b h (legible, subst (IsOffice (keeper.setup a)) (sym none) (IsOffice-new (keeper.setup a))) trusted)

-- ---- what was told of a finished run stays

get_before : (xs ys : List Reports) (k : ℕ) → k < length xs → slice_get (xs ++ ys) k ≡ slice_get xs k
get_before [] ys k h = absurd (omega arith)
get_before (x ∷ xs) ys zero h = refl
get_before (x ∷ xs) ys (suc k) h = get_before xs ys k (omega arith)

item_before : (xs ys : List Reports) (k : ℕ) → k ≤ length xs → item_from_one k (xs ++ ys) ≡ item_from_one k xs
item_before xs ys zero h = refl
item_before xs ys (suc k) h = get_before xs ys k (omega (arith, h))

pub life_told : {K : Type 0} (keeper : Ghosts K) (es : List Event) (a b : K) (k : ℕ) → Lives keeper a es b → IsSound keeper a → keeper.is_trusted b → k ≤ length (keeper.content a).reports → reports_at (state_of keeper b) k ≡ reports_at (state_of keeper a) k
life_told keeper es a b k h was trusted low =
    let led = life_led keeper es a b h was trusted in
    let stand : RunsStand (keeper.content a) (keeper.content b) = leads_stand (keeper.setup a) led.steps (keeper.content a) (keeper.content b) led.leads in
    let is = lives_sound keeper es a b h trusted was in
    sym (reports_at-is (keeper.setup b) (keeper.content b) k is.1)
    ∙ ap (item_from_one k) stand.reports
    ∙ item_before (keeper.content a).reports stand.more k low
    ∙ reports_at-is (keeper.setup a) (keeper.content a) k was.1

pub life_excuses : {K : Type 0} (keeper : Ghosts K) (es : List Event) (a b : K) (k : ℕ) (x y : Found) (rest more : List ℕ) → Lives keeper a es b → IsSound keeper a → keeper.is_trusted b → k ≤ length (keeper.content a).reports → answer_of (state_of keeper b) y (Tell (Excuses k)) more ≡ answer_of (state_of keeper a) x (Tell (Excuses k)) rest
life_excuses keeper es a b k x y rest more h was trusted low = ap (λ (o : Option Reports). report_answer (Ok (option_map (λ reports. reports.excuses) o))) (life_told keeper es a b k h was trusted low)

pub life_updates : {K : Type 0} (keeper : Ghosts K) (es : List Event) (a b : K) (k : ℕ) (x y : Found) (rest more : List ℕ) → Lives keeper a es b → IsSound keeper a → keeper.is_trusted b → k ≤ length (keeper.content a).reports → answer_of (state_of keeper b) y (Tell (Update k)) more ≡ answer_of (state_of keeper a) x (Tell (Update k)) rest
life_updates keeper es a b k x y rest more h was trusted low = ap (λ (o : Option Reports). report_answer (Ok (option_map (λ reports. reports.updates) o))) (life_told keeper es a b k h was trusted low)

-- ---- what the calls ensure is an event

by_request : {K : Type 0} (keeper : Ghosts K) (old new : K) (post : Option (Action × List ℕ)) (fault : Option StoreFault) (ready : ℕ) → Preserves keeper old new → Does (state_of keeper old) (state_of keeper new) post fault ready (StoreRefused keeper old new) → IsEvent keeper old new
by_request keeper old new post fault ready carries does = record { event = ByRequest post fault; happens = (carries, λ holds. (ready, does)) }

by_replay : {K : Type 0} (keeper : Ghosts K) (old new : K) (deliveries : List Delivery) → Preserves keeper old new → KeepsMail (state_of keeper old) (state_of keeper new) deliveries → IsEvent keeper old new
by_replay keeper old new deliveries carries keeps = record { event = ByReplay deliveries; happens = (carries, λ holds. keeps) }

is_served : {K : Type 0} (keeper : Ghosts K) (old new : K) (left : Option (List ℕ)) (input told reply : List ℕ) (code : ℕ) → Preserves keeper old new → IsServed (state_of keeper old) (state_of keeper new) left input told reply code (StoreRefused keeper old new) → IsEvent keeper old new
is_served keeper old new left input told reply code carries (inl x) =
    by_request keeper old new (posted_body (asked_of (keeper.setup old) x.head) x.rest) x.fault x.found.ready carries x.does
is_served keeper old new left input told reply code carries (inr u) = by_request keeper old new None None 0 carries u.same

pub serves : {K : Type 0} (keeper : Ghosts K) (old new : K) (left left' written written' : Option (List ℕ)) (code : Option ℕ) → Preserves keeper old new → Serves (state_of keeper old) (state_of keeper new) left left' written written' code (StoreRefused keeper old new) → IsEvent keeper old new
serves keeper old new left left' written written' None carries silent = by_request keeper old new None None 0 carries silent.same
serves keeper old new left left' written written' (Some code) carries replied = is_served keeper old new left' replied.input replied.told replied.reply code carries replied.served

pub stops_serving : {K : Type 0} (keeper : Ghosts K) (old new : K) (left left' written written' : Option (List ℕ)) (fault : ServeFault) → Preserves keeper old new → StopsServe (state_of keeper old) (state_of keeper new) left left' written written' fault (StoreRefused keeper old new) → IsEvent keeper old new
stops_serving keeper old new left left' written written' Read carries stops = by_request keeper old new None None 0 carries stops.same
stops_serving keeper old new left left' written written' Write carries (inl stops) = by_request keeper old new None None 0 carries stops.same
stops_serving keeper old new left left' written written' Write carries (inr front) = is_served keeper old new left' front.input front.told front.reply front.code carries front.served

-- a replay that did nothing is a request that asked for nothing
pub replays : {K : Type 0} (keeper : Ghosts K) (old new : K) (start now : Reading) (written written' : Option (List ℕ)) (replayed : Replayed) → Preserves keeper old new → Replays (state_of keeper old) (state_of keeper new) start now written written' replayed (StoreRefused keeper old new) → IsEvent keeper old new
replays keeper old new start now written written' replayed carries (inl all) = by_replay keeper old new all.course.deliveries carries all.course.keeps
replays keeper old new start now written written' replayed carries (inr none) = by_request keeper old new None None 0 carries none.same

pub stops_replaying : {K : Type 0} (keeper : Ghosts K) (old new : K) (start now : Reading) (written written' : Option (List ℕ)) → Preserves keeper old new → StopsReplay (state_of keeper old) (state_of keeper new) start now written written' (StoreRefused keeper old new) → IsEvent keeper old new
stops_replaying keeper old new start now written written' carries (inl early) = by_replay keeper old new early.delivers.deliveries carries early.delivers.keeps
stops_replaying keeper old new start now written written' carries (inr (inl front)) = by_replay keeper old new front.course.deliveries carries front.course.keeps
stops_replaying keeper old new start now written written' carries (inr (inr none)) = by_request keeper old new None None 0 carries none.same

-- ---- a life that ends in a settle which is answered by 200 has finished what came

settling_texts : (n : ℕ) → texts_in (replicate n Finished ++ Settled ∷ []) ≡ []
settling_texts zero = refl
settling_texts (suc n) = settling_texts n

settling_ends : (n : ℕ) (was : Bool) → fold settled_by was (replicate n Finished ++ Settled ∷ []) ≡ true
settling_ends zero was = refl
settling_ends (suc n) was = settling_ends n false

settled_after : (xs ys : List Step) (was : Bool) → fold settled_by was (xs ++ ys) ≡ fold settled_by (fold settled_by was xs) ys
settled_after [] ys was = refl
settled_after (x ∷ xs) ys was = settled_after xs ys (settled_by was x)

led_finishes : (setup : Lists) (texts : List (List ℕ)) (old mid new : Content) (n k : ℕ) → old ≡ no_content → IsLedBy setup texts old mid → Leads setup mid (coming [] n Settled) new → AllCame setup texts k ↔ (k ≤ length new.reports)
led_finishes setup texts old mid new n k none led settles =
    let last : List Step = coming [] n Settled in
    let leads : Leads setup no_content (led.steps ++ last) new = subst (λ (c : Content). Leads setup c (led.steps ++ last) new) none (leads_twice setup led.steps last old mid new led.leads settles) in
    let settled : is_settled (led.steps ++ last) ≡ true = settled_after led.steps last false ∙ settling_ends n (fold settled_by false led.steps) in
    let came : texts_in (led.steps ++ last) ≡ texts = flat_map-append text_in led.steps last ∙ ap (λ (ts : List (List ℕ)). texts_in led.steps ++ ts) (settling_texts n) ∙ append-nil (texts_in led.steps) ∙ led.came in
    subst (λ (ts : List (List ℕ)). AllCame setup ts k ↔ (k ≤ length new.reports)) came (finished_by setup (led.steps ++ last) (visible new) k leads settled)

pub life_finished : {K : Type 0} (keeper : Ghosts K) (es : List Event) (old mid new : K) (k : ℕ) (left : Option (List ℕ)) (input told reply : List ℕ) (code : ℕ) (p : Posted) → Lives keeper old es mid → keeper.is_legible old → keeper.content old ≡ no_content → Preserves keeper mid new → keeper.is_trusted new
    → (x : Exchange (state_of keeper mid) (state_of keeper new) left input told reply code (StoreRefused keeper mid new)) → asked_of (keeper.setup mid) x.head ≡ Post p → p.action ≡ Settle → code ≡ 200
    → AllCame (keeper.setup old) (flat_map (texts_of (keeper.setup old)) es) k ↔ (k ≤ length (keeper.content new).reports)
life_finished keeper es old mid new k left input told reply code p h legible none carries trusted x asks settle well =
    let n : ℕ = length (keeper.content new).reports - length (keeper.content mid).reports in
    let was : IsSound keeper old = (legible, subst (IsOffice (keeper.setup old)) (sym none) (IsOffice-new (keeper.setup old))) in
    let mid_trusted = carries.before trusted in
    let mid_sound = lives_sound keeper es old mid h mid_trusted was in
    let settles : Leads (keeper.setup mid) (keeper.content mid) (coming [] n Settled) (keeper.content new) = told_settled keeper mid new left input told reply code p x mid_sound (carries.sound trusted mid_sound) asks settle well in
    led_finishes (keeper.setup old) (flat_map (texts_of (keeper.setup old)) es) (keeper.content old) (keeper.content mid) (keeper.content new) n k none (life_led keeper es old mid h was mid_trusted)
    (subst (λ (s : Lists). Leads s (keeper.content mid) (coming [] n Settled) (keeper.content new)) (lives_setup keeper es old mid h) settles)
