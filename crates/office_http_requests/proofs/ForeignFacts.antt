-- What a page in a browser asks for is no POST.
use Rattle.std.proofs.Common.{◌≡◌, ℕ, Bool, true, false, cond, ◌==◌, ◌+◌, List, drop, take, map, codes, Option, Some, None, refl, ap}
use Rattle.std.specs.Prelude.{◌≢◌}
use Rattle.std.specs.Option.{option_map_or}
use Rattle.std.specs.Str.{bytes_eq}
use Rattle.httparse.specs.Grammar.{RequestHead}
use Rattle.httparse.specs.Spans.{name_and_value}
use Rattle.jiff_core.specs.declared.civil.date.Date.{Date}
use Rattle.office_mail.specs.Lists.{Lists}
use Rattle.office_mail_setup.specs.Values.{package_in}
use Rattle.office_mail.specs.Days.{day_in}
use Rattle.office_http_requests.specs.Routes.{route_of}
use Rattle.office_http_requests.specs.declared.routes.Route.{Route}
use Rattle.office_http_requests.specs.declared.routes.Route.TheVariants as route
use Rattle.office_http_requests.specs.declared.reply.Refusal.{Refusal}
use Rattle.office_http_requests.specs.declared.reply.Refusal.TheVariants.{BadRequest, NoMessage, NoRoute, OnlyGet, OnlyPost, OtherOrigin}
use Rattle.office_http_requests.specs.declared.request.Framing.{Framing}
use Rattle.office_http_requests.specs.declared.request.Action.{Action}
use Rattle.office_http_requests.specs.declared.request.Action.TheVariants.{Breaks, Deliver, DeliverOf, Look, Settle, Try, TryOn}
use Rattle.office_http_requests.specs.declared.request.Page.{Page}
use Rattle.office_http_requests.specs.declared.request.Page.TheVariants.{Bag, Letter, Why, Order, ProposeFor}
use Rattle.office_http_requests.specs.declared.request.Page.TheVariants as page
use Rattle.office_http_requests.specs.declared.request.Posted.{Posted}
use Rattle.office_http_requests.specs.declared.request.Asked.{Asked}
use Rattle.office_http_requests.specs.declared.request.Asked.TheVariants.{Refused, Tell, Post}
use Rattle.office_http_requests.specs.Asked.{framing_of, post_framed, post_asked, tell_asked, asked_at, asked_by, asked_of, bag_by, letter_by, names_host, numbered_asked, path_of, plain_number, sender_place, slash_at}

-- whether a POST is asked for
abbrev is_post : Asked → Bool
is_post (Refused r) = false
is_post (Tell page) = false
is_post (Post p) = true

if_none : (b : Bool) (a : Asked) (r : Refusal) → is_post a ≡ false → is_post (cond b a (Refused r)) ≡ false
if_none true a r h = h
if_none false a r h = refl

refused_first : (b : Bool) (a : Asked) (r : Refusal) → b ≡ true → is_post (cond b (Refused r) a) ≡ false
refused_first true a r h = refl
refused_first false a r h = absurd (cc (h))

no_post : (action : Action) (method : List ℕ) (minor : ℕ) (framing : Framing) → framing.foreign ≡ true → is_post (post_asked action method minor framing) ≡ false
no_post action method minor framing h =
    if_none (bytes_eq method (codes "POST")) (cond framing.foreign (Refused OtherOrigin) (post_framed action minor framing)) OnlyPost
    (refused_first framing.foreign (post_framed action minor framing) OtherOrigin h)

no_told : (page : Page) (method : List ℕ) → is_post (tell_asked page method) ≡ false
no_told page method = if_none (bytes_eq method (codes "GET")) (Tell page) OnlyGet refl

no_letter : (sender : Option ℕ) (number : ℕ) → is_post (letter_by sender number) ≡ false
no_letter None number = refl
no_letter (Some sender) number = refl

no_bag : (sender : Option ℕ) (from : ℕ) → is_post (bag_by sender from) ≡ false
no_bag None from = refl
no_bag (Some sender) from = go (from == 0)
  where
    go : (b : Bool) → is_post (cond b (Refused NoMessage) (Tell (Bag sender from))) ≡ false
    go true = refl
    go false = refl

no_numbered : (ask : Option ℕ → ℕ → Asked) (setup : Lists) (text method : List ℕ) → ((sender : Option ℕ) (number : ℕ) → is_post (ask sender number) ≡ false) → is_post (numbered_asked ask setup text method) ≡ false
no_numbered ask setup text method each =
    if_none (bytes_eq method (codes "GET")) (ask (sender_place setup (take (slash_at text) text)) (plain_number (drop (slash_at text + 1) text))) OnlyGet
    (each (sender_place setup (take (slash_at text) text)) (plain_number (drop (slash_at text + 1) text)))

no_else : {V : Type 0} (ask : V → Asked) (o : Option V) (other : Asked) → ((v : V) → is_post (ask v) ≡ false) → is_post other ≡ false → is_post (option_map_or ask o other) ≡ false
no_else ask None other each h = h
no_else ask (Some v) other each h = each v

no_or : {V : Type 0} (ask : V → Asked) (o : Option V) → ((v : V) → is_post (ask v) ≡ false) → is_post (option_map_or ask o (Refused NoRoute)) ≡ false
no_or ask o each = no_else ask o (Refused NoRoute) each refl

no_asked : (setup : Lists) (o : Option Route) (method path : List ℕ) (minor : ℕ) (framing : Framing) → framing.foreign ≡ true → is_post (asked_at setup o method path minor framing) ≡ false
no_asked setup None method path minor framing h = refl
no_asked setup (Some route.Mail) method path minor framing h = no_post Deliver method minor framing h
no_asked setup (Some route.MailOf) method path minor framing h = no_or (λ (sender : ℕ). post_asked (DeliverOf sender) method minor framing) (sender_place setup (drop 6 path)) (λ sender. no_post (DeliverOf sender) method minor framing h)
no_asked setup (Some route.Lint) method path minor framing h = no_post Look method minor framing h
no_asked setup (Some route.Settle) method path minor framing h = no_post Settle method minor framing h
no_asked setup (Some route.Try) method path minor framing h = no_post Try method minor framing h
no_asked setup (Some route.TryOn) method path minor framing h = no_or (λ (day : Date). post_asked (TryOn day) method minor framing) (day_in (drop 5 path)) (λ day. no_post (TryOn day) method minor framing h)
no_asked setup (Some route.Status) method path minor framing h = no_told _ method
no_asked setup (Some route.Testing) method path minor framing h = no_told _ method
no_asked setup (Some route.Excuses) method path minor framing h = no_told _ method
no_asked setup (Some route.Update) method path minor framing h = no_told _ method
no_asked setup (Some route.Waiting) method path minor framing h = no_told _ method
no_asked setup (Some route.Runs) method path minor framing h = no_told _ method
no_asked setup (Some route.Kept) method path minor framing h = no_told _ method
no_asked setup (Some route.Letter) method path minor framing h = no_numbered letter_by setup (drop 6 path) method no_letter
no_asked setup (Some route.Bag) method path minor framing h = no_numbered bag_by setup (drop 5 path) method no_bag
no_asked setup (Some route.Why) method path minor framing h = no_or (λ (source : List ℕ). tell_asked (Why source) method) (package_in (drop 5 path)) (λ source. no_told (Why source) method)
no_asked setup (Some route.Order) method path minor framing h = no_or (λ (day : Date). tell_asked (Order day) method) (day_in (drop 7 path)) (λ day. no_told (Order day) method)
no_asked setup (Some route.Hints) method path minor framing h = no_told _ method
no_asked setup (Some route.Unstable) method path minor framing h = no_told _ method
no_asked setup (Some route.Propose) method path minor framing h = no_told _ method
no_asked setup (Some route.ProposeFor) method path minor framing h =
    no_else (λ (day : Date). tell_asked (page.ProposeOn day) method) (day_in (drop 9 path)) _ (λ day. no_told (page.ProposeOn day) method)
    (no_or (λ (source : List ℕ). tell_asked (ProposeFor source) method) (package_in (drop 9 path)) (λ source. no_told (ProposeFor source) method))
no_asked setup (Some route.Breaks) method path minor framing h = no_post Breaks method minor framing h
no_asked setup (Some route.BreaksOf) method path minor framing h = no_or (λ (source : List ℕ). tell_asked (page.Breaks source) method) (package_in (drop 8 path)) (λ source. no_told (page.Breaks source) method)

pub foreign_asks : (setup : Lists) (head : RequestHead) (p : Posted) → (framing_of (map name_and_value head.fields)).foreign ≡ true → asked_of setup head ≢ Post p
unfolding asked_of asked_by
foreign_asks setup head p h e =
    let framing = framing_of (map name_and_value head.fields) in
    let none : is_post (asked_of setup head) ≡ false =
    if_none (names_host head.minor framing.hosts) (asked_at setup (route_of (path_of head.target)) head.method (path_of head.target) head.minor framing) BadRequest
    (no_asked setup (route_of (path_of head.target)) head.method (path_of head.target) head.minor framing h) in
    let some : is_post (asked_of setup head) ≡ true = ap is_post e in
    absurd (cc (none, some))

-- without such a field a POST asks for what it did
pub unforeign_asks : (action : Action) (method : List ℕ) (minor : ℕ) (framing : Framing) → framing.foreign ≡ false → post_asked action method minor framing ≡ cond (bytes_eq method (codes "POST")) (post_framed action minor framing) (Refused OnlyPost)
unforeign_asks action method minor framing h =
    ap (λ (b : Bool). cond (bytes_eq method (codes "POST")) (cond b (Refused OtherOrigin) (post_framed action minor framing)) (Refused OnlyPost)) h
