-- How long a body may be.
use Rattle.std.proofs.Common.{◌≡◌, ℕ, ◌≤◌, Bool, true, false, ◌&&◌, ◌==◌, ◌+◌, nat_le, List, [], ◌∷◌, take, drop, map, codes, Option, Some, None, refl, cond, arith}
use Rattle.std.proofs.lemmas.Bool.Decides.{nat_tests}
use Rattle.std.specs.Option.{option_map_or}
use Rattle.std.specs.Str.{bytes_eq}
use Rattle.std.specs.Str.Parse.{digits_value}
use Rattle.httparse.specs.Grammar.{RequestHead}
use Rattle.httparse.specs.Spans.{name_and_value}
use Rattle.jiff_core.specs.declared.civil.date.Date.{Date}
use Rattle.office_mail.specs.Lists.{Lists}
use Rattle.office_mail_setup.specs.Values.{package_in}
use Rattle.office_mail.specs.Days.{day_in}
use Rattle.office_http_requests.specs.Routes.{route_of}
use Rattle.office_http_requests.specs.declared.routes.Route.{Route}
use Rattle.office_http_requests.specs.declared.routes.Route.TheVariants as route
use Rattle.office_http_requests.specs.declared.reply.Refusal.{Refusal}
use Rattle.office_http_requests.specs.declared.reply.Refusal.TheVariants.{BadRequest, NoMessage, NoRoute, OnlyGet, OnlyPost, OtherOrigin}
use Rattle.office_http_requests.specs.declared.request.Stated.{Stated}
use Rattle.office_http_requests.specs.declared.request.Stated.TheVariants.{Absent, Bad, TooLong, Exactly}
use Rattle.office_http_requests.specs.declared.request.Framing.{Framing}
use Rattle.office_http_requests.specs.declared.request.Action.{Action}
use Rattle.office_http_requests.specs.declared.request.Action.TheVariants.{Breaks, Deliver, DeliverOf, Look, Settle, Try, TryOn}
use Rattle.office_http_requests.specs.declared.request.Page.{Page}
use Rattle.office_http_requests.specs.declared.request.Page.TheVariants.{Status, Testing, Excuses, Update, Waiting, Runs, Kept, Bag, Why, Order, Hints, Unstable, Propose, ProposeFor}
use Rattle.office_http_requests.specs.declared.request.Page.TheVariants as page
use Rattle.office_http_requests.specs.declared.request.Asked.{Asked}
use Rattle.office_http_requests.specs.declared.request.Asked.TheVariants.{Refused, Tell}
use Rattle.office_http_requests.specs.Asked.{Line, are_digits, number_stated, stated, values_named, framing_of, posted_length, posted_by, post_framed, post_asked, tell_asked, asked_at, asked_by, asked_of, bag_by, letter_by, names_host, numbered_asked, path_of, plain_number, sender_place, slash_at, body_size}
use Rattle.office_http_requests.specs.Request.{body_room}

abbrev stated_size : Stated → ℕ
stated_size Absent = 0
stated_size Bad = 0
stated_size TooLong = 0
stated_size (Exactly n) = n

chosen : (a b : Bool) (n : ℕ) → nat_le n 65_536 ≡ b → stated_size (cond a (cond b (Exactly n) TooLong) Bad) ≤ body_room
chosen false b n e = omega arith
chosen true false n e = omega arith
chosen true true n e = grind (arith, nat_tests)

number_fits : (value : List ℕ) → stated_size (number_stated value) ≤ body_room
unfolding number_stated
number_fits value = chosen (are_digits value) (nat_le (digits_value 10 value) 65_536) (digits_value 10 value) refl

stated_fits : (values : List (List ℕ)) → stated_size (stated values) ≤ body_room
stated_fits [] = omega arith
stated_fits (v ∷ []) = number_fits v
stated_fits (v ∷ w ∷ values) = omega arith

framing_fits : (lines : List Line) → stated_size (framing_of lines).length ≤ body_room
unfolding framing_of
framing_fits lines = stated_fits (values_named (codes "content-length") lines)

length_fits : (action : Action) (s : Stated) (coded waits : Bool) → stated_size s ≤ body_room → body_size (posted_by action waits (posted_length action s coded)) ≤ body_room
length_fits Settle Absent true waits h = omega arith
length_fits Settle Absent false waits h = omega arith
length_fits Deliver Absent coded waits h = omega arith
length_fits (DeliverOf sender) Absent coded waits h = omega arith
length_fits Look Absent coded waits h = omega arith
length_fits Try Absent coded waits h = omega arith
length_fits (TryOn day) Absent coded waits h = omega arith
length_fits Breaks Absent coded waits h = omega arith
length_fits action Bad coded waits h = omega arith
length_fits action TooLong true waits h = omega arith
length_fits action TooLong false waits h = omega arith
length_fits action (Exactly n) true waits h = omega arith
length_fits action (Exactly n) false waits h = h

if_fits : (b : Bool) (a : Asked) (r : Refusal) → body_size a ≤ body_room → body_size (cond b a (Refused r)) ≤ body_room
if_fits true a r h = h
if_fits false a r h = omega arith

else_fits : (b : Bool) (a : Asked) (r : Refusal) → body_size a ≤ body_room → body_size (cond b (Refused r) a) ≤ body_room
else_fits true a r h = omega arith
else_fits false a r h = h

post_fits : (action : Action) (method : List ℕ) (minor : ℕ) (framing : Framing) → stated_size framing.length ≤ body_room → body_size (post_asked action method minor framing) ≤ body_room
post_fits action method minor framing h =
    if_fits (bytes_eq method (codes "POST")) (cond framing.foreign (Refused OtherOrigin) (post_framed action minor framing)) OnlyPost
    (else_fits framing.foreign (post_framed action minor framing) OtherOrigin (length_fits action framing.length framing.coded (minor == 1 && framing.waits) h))

tell_fits : (page : Page) (method : List ℕ) → body_size (tell_asked page method) ≤ body_room
tell_fits page method = if_fits (bytes_eq method (codes "GET")) (Tell page) OnlyGet (omega arith)

letter_fits : (sender : Option ℕ) (number : ℕ) → body_size (letter_by sender number) ≤ body_room
letter_fits None number = omega arith
letter_fits (Some sender) number = omega arith

bag_fits : (sender : Option ℕ) (from : ℕ) → body_size (bag_by sender from) ≤ body_room
bag_fits None from = omega arith
bag_fits (Some sender) from = go (from == 0)
  where
    go : (b : Bool) → body_size (cond b (Refused NoMessage) (Tell (Bag sender from))) ≤ body_room
    go true = omega arith
    go false = omega arith

numbered_fits : (ask : Option ℕ → ℕ → Asked) (setup : Lists) (text method : List ℕ) → ((sender : Option ℕ) (number : ℕ) → body_size (ask sender number) ≤ body_room) → body_size (numbered_asked ask setup text method) ≤ body_room
numbered_fits ask setup text method each =
    if_fits (bytes_eq method (codes "GET")) (ask (sender_place setup (take (slash_at text) text)) (plain_number (drop (slash_at text + 1) text))) OnlyGet
    (each (sender_place setup (take (slash_at text) text)) (plain_number (drop (slash_at text + 1) text)))

-- what is asked by a part of the path, or nothing
or_else_fits : {V : Type 0} (ask : V → Asked) (o : Option V) (other : Asked) → ((v : V) → body_size (ask v) ≤ body_room) → body_size other ≤ body_room → body_size (option_map_or ask o other) ≤ body_room
or_else_fits ask None other each h = h
or_else_fits ask (Some v) other each h = each v

or_fits : {V : Type 0} (ask : V → Asked) (o : Option V) → ((v : V) → body_size (ask v) ≤ body_room) → body_size (option_map_or ask o (Refused NoRoute)) ≤ body_room
or_fits ask o each = or_else_fits ask o (Refused NoRoute) each (omega arith)

asked_fits : (setup : Lists) (o : Option Route) (method path : List ℕ) (minor : ℕ) (framing : Framing) → stated_size framing.length ≤ body_room → body_size (asked_at setup o method path minor framing) ≤ body_room
asked_fits setup None method path minor framing h = omega arith
asked_fits setup (Some route.Mail) method path minor framing h = post_fits Deliver method minor framing h
asked_fits setup (Some route.MailOf) method path minor framing h = or_fits (λ (sender : ℕ). post_asked (DeliverOf sender) method minor framing) (sender_place setup (drop 6 path)) (λ sender. post_fits (DeliverOf sender) method minor framing h)
asked_fits setup (Some route.Lint) method path minor framing h = post_fits Look method minor framing h
asked_fits setup (Some route.Settle) method path minor framing h = post_fits Settle method minor framing h
asked_fits setup (Some route.Try) method path minor framing h = post_fits Try method minor framing h
asked_fits setup (Some route.TryOn) method path minor framing h = or_fits (λ (day : Date). post_asked (TryOn day) method minor framing) (day_in (drop 5 path)) (λ day. post_fits (TryOn day) method minor framing h)
asked_fits setup (Some route.Status) method path minor framing h = tell_fits Status method
asked_fits setup (Some route.Testing) method path minor framing h = tell_fits Testing method
asked_fits setup (Some route.Excuses) method path minor framing h = tell_fits _ method
asked_fits setup (Some route.Update) method path minor framing h = tell_fits _ method
asked_fits setup (Some route.Waiting) method path minor framing h = tell_fits Waiting method
asked_fits setup (Some route.Runs) method path minor framing h = tell_fits Runs method
asked_fits setup (Some route.Kept) method path minor framing h = tell_fits Kept method
asked_fits setup (Some route.Letter) method path minor framing h = numbered_fits letter_by setup (drop 6 path) method letter_fits
asked_fits setup (Some route.Bag) method path minor framing h = numbered_fits bag_by setup (drop 5 path) method bag_fits
asked_fits setup (Some route.Why) method path minor framing h = or_fits (λ (source : List ℕ). tell_asked (Why source) method) (package_in (drop 5 path)) (λ source. tell_fits (Why source) method)
asked_fits setup (Some route.Order) method path minor framing h = or_fits (λ (day : Date). tell_asked (Order day) method) (day_in (drop 7 path)) (λ day. tell_fits (Order day) method)
asked_fits setup (Some route.Hints) method path minor framing h = tell_fits Hints method
asked_fits setup (Some route.Unstable) method path minor framing h = tell_fits Unstable method
asked_fits setup (Some route.Propose) method path minor framing h = tell_fits Propose method
asked_fits setup (Some route.ProposeFor) method path minor framing h =
    or_else_fits (λ (day : Date). tell_asked (page.ProposeOn day) method) (day_in (drop 9 path)) _ (λ day. tell_fits (page.ProposeOn day) method)
    (or_fits (λ (source : List ℕ). tell_asked (ProposeFor source) method) (package_in (drop 9 path)) (λ source. tell_fits (ProposeFor source) method))
asked_fits setup (Some route.Breaks) method path minor framing h = post_fits Breaks method minor framing h
asked_fits setup (Some route.BreaksOf) method path minor framing h = or_fits (λ (source : List ℕ). tell_asked (page.Breaks source) method) (package_in (drop 8 path)) (λ source. tell_fits (page.Breaks source) method)

-- no body that is read is longer than 65,536 bytes
pub body_fits : (setup : Lists) (head : RequestHead) → body_size (asked_of setup head) ≤ body_room
unfolding asked_of asked_by
body_fits setup head =
    let framing = framing_of (map name_and_value head.fields) in
    if_fits (names_host head.minor framing.hosts) (asked_at setup (route_of (path_of head.target)) head.method (path_of head.target) head.minor framing) BadRequest
    (asked_fits setup (route_of (path_of head.target)) head.method (path_of head.target) head.minor framing (framing_fits (map name_and_value head.fields)))
