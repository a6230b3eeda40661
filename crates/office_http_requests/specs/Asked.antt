-- What a request asks for, given its head.
use Rattle.std.specs.Prelude.{◌≡◌, ℕ, ◌^◌, Bool, true, false, not, ◌&&◌, ◌||◌, ◌==◌, nat_le, nat_lt, if◌then◌else◌, List, [], ◌∷◌, drop, take, length, ◌+◌, map, codes, Option, Some, None, Result, Ok, Err, unwrap_or}
use Rattle.std.specs.List.{list_all, list_any, before_first, position}
use Rattle.std.specs.Option.{option_map, option_map_or}
use Rattle.std.specs.Char.{is_ascii_digit}
use Rattle.std.specs.Str.{bytes_eq, str_eq_ignore_ascii_case}
use Rattle.std.specs.Str.Parse.{digits_value}
use Rattle.httparse.specs.Grammar.{RequestHead}
use Rattle.httparse.specs.Spans.{name_and_value}
use Rattle.matchit.specs.Rows.{RowsOf}
use Rattle.matchit.specs.Router.{RouteOf}
use Rattle.office_mail.specs.Lists.{Lists}
use Rattle.office_mail.specs.Read.{sender_named}
use Rattle.jiff_core.specs.declared.civil.date.Date.{Date}
use Rattle.office_mail_setup.specs.Values.{package_in}
use Rattle.office_mail.specs.Days.{day_in}
use Rattle.office_mail_setup.specs.declared.setup.Role.{Role}
use Rattle.office_http_requests.specs.Routes.{route_in, route_of}
use Rattle.office_http_requests.specs.declared.routes.Route.{Route}
use Rattle.office_http_requests.specs.declared.routes.Route.TheVariants as route
use Rattle.office_http_requests.specs.declared.reply.Refusal.{Refusal}
use Rattle.office_http_requests.specs.declared.reply.Refusal.TheVariants.{BadRequest, NoRoute, NoMessage, OnlyGet, OnlyPost, LengthRequired, OtherOrigin}
use Rattle.office_http_requests.specs.declared.reply.Refusal.TheVariants as refusal
use Rattle.office_http_requests.specs.declared.request.Stated.{Stated}
use Rattle.office_http_requests.specs.declared.request.Stated.TheVariants.{Absent, Bad, TooLong, Exactly}
use Rattle.office_http_requests.specs.declared.request.Framing.{Framing}
use Rattle.office_http_requests.specs.declared.request.HostFields.{HostFields}
use Rattle.office_http_requests.specs.declared.request.HostFields.TheVariants.{NoHost, OneHost, SeveralHosts}
use Rattle.office_http_requests.specs.declared.request.Action.{Action}
use Rattle.office_http_requests.specs.declared.request.Action.TheVariants.{Deliver, DeliverOf, Look, Settle, Try, TryOn, Breaks}
use Rattle.office_http_requests.specs.declared.request.Page.{Page}
use Rattle.office_http_requests.specs.declared.request.Page.TheVariants as page
use Rattle.office_http_requests.specs.declared.request.Page.TheVariants.{Status, Testing, Excuses, Update, Waiting, Runs, Kept, Letter, Why, Bag, Order, Hints, Unstable, Propose, ProposeFor}
use Rattle.office_http_requests.specs.declared.request.Asked.{Asked}
use Rattle.office_http_requests.specs.declared.request.Asked.TheVariants.{Refused, Tell, Post}

-- a name and a value
abbrev pub Line : Type 0
Line = List ℕ × List ℕ

-- the values of the fields of a name, compared without regard to case (RFC 9110, section 5.1)
abbrev pub values_named : List ℕ → List Line → List (List ℕ)
values_named name [] = []
values_named name (line ∷ lines) = if str_eq_ignore_ascii_case line.0 name then line.1 ∷ values_named name lines else values_named name lines

-- decimal digits alone, at least one
unfoldable pub are_digits : List ℕ → Bool
are_digits [] = false
are_digits (c ∷ cs) = list_all is_ascii_digit (c ∷ cs)

-- the number that digits spell, if it has at most 32 bits
unfoldable pub number_under : List ℕ → Option ℕ
number_under text = if nat_lt (digits_value 10 text) (2 ^ 32) then Some (digits_value 10 text) else None

-- the length that one value states: at most 65,536 is read
unfoldable pub number_stated : List ℕ → Stated
number_stated value =
    if are_digits value then (if nat_le (digits_value 10 value) 65_536 then Exactly (digits_value 10 value) else TooLong) else Bad

-- the length that the values of Content-Length state: several are bad
abbrev pub stated : List (List ℕ) → Stated
stated [] = Absent
stated (value ∷ []) = number_stated value
stated (value ∷ another ∷ values) = Bad

abbrev pub is_there : List (List ℕ) → Bool
is_there [] = false
is_there (value ∷ values) = true

-- a client that waits before it sends the body (RFC 9110, section 10.1.1)
abbrev pub is_continue : List ℕ → Bool
is_continue value = str_eq_ignore_ascii_case value (codes "100-continue")

-- A page of another site sends this in Sec-Fetch-Site. Of the other two values one means that a user asks by hand, and
-- one that a page of the office's own asks (Fetch Metadata Request Headers, section 2.3).
abbrev pub is_foreign_site : List ℕ → Bool
is_foreign_site value = not (bytes_eq value (codes "none")) && not (bytes_eq value (codes "same-origin"))

-- A page in a browser sends the request, as a field Origin shows, whatever its value (Fetch, section 3.2), or
-- Sec-Fetch-Site. No sender of mail writes either; this office decides that it is refused.
abbrev pub is_foreign : List Line → Bool
is_foreign lines = is_there (values_named (codes "origin") lines) || list_any is_foreign_site (values_named (codes "sec-fetch-site") lines)

-- how many values of Host there are
abbrev pub hosts_stated : List (List ℕ) → HostFields
hosts_stated [] = NoHost
hosts_stated (value ∷ []) = OneHost
hosts_stated (value ∷ another ∷ values) = SeveralHosts

-- what the fields say of the body, of the page that sends it, and of the host
unfoldable pub framing_of : List Line → Framing
framing_of lines = record {
  length = stated (values_named (codes "content-length") lines);
  coded = is_there (values_named (codes "transfer-encoding") lines);
  waits = list_any is_continue (values_named (codes "expect") lines);
  foreign = is_foreign lines;
  hosts = hosts_stated (values_named (codes "host") lines);
}

-- the target up to its query
abbrev pub is_query : ℕ → Bool
is_query c = c == 63

unfoldable pub path_of : List ℕ → List ℕ
path_of target = before_first is_query target

abbrev pub has_leading_zero : List ℕ → Bool
has_leading_zero [] = false
has_leading_zero (c ∷ cs) = c == 48

-- the number that digits without a leading zero spell; 0 for any other text, which no run and no message has
unfoldable pub plain_number : List ℕ → ℕ
plain_number text = if has_leading_zero text then 0 else if are_digits text then unwrap_or (number_under text) 0 else 0

-- The length of the body: one stated as a number, without a transfer coding. A settle may leave it out.
abbrev pub absent_length : Action → Bool → Result ℕ Refusal
absent_length Settle coded = if coded then Err LengthRequired else Ok 0
absent_length _ coded = Err LengthRequired

abbrev pub posted_length : Action → Stated → Bool → Result ℕ Refusal
posted_length action Absent coded = absent_length action coded
posted_length action Bad coded = Err BadRequest
posted_length action TooLong coded = if coded then Err BadRequest else Err refusal.TooLong
posted_length action (Exactly n) coded = if coded then Err BadRequest else Ok n

-- 100 Continue is of HTTP/1.1
abbrev pub posted_by : Action → Bool → Result ℕ Refusal → Asked
posted_by action waits (Ok n) = Post (record { action = action; length = n; waits = waits })
posted_by action waits (Err refusal) = Refused refusal

-- a POST, given what the fields say of the body
abbrev pub post_framed : Action → ℕ → Framing → Asked
post_framed action minor framing = posted_by action (minor == 1 && framing.waits) (posted_length action framing.length framing.coded)

-- on a route that accepts POST, and on one that accepts GET
abbrev pub post_asked : Action → List ℕ → ℕ → Framing → Asked
post_asked action method minor framing =
    if bytes_eq method (codes "POST") then (if framing.foreign then Refused OtherOrigin else post_framed action minor framing) else Refused OnlyPost

abbrev pub tell_asked : Page → List ℕ → Asked
tell_asked page method = if bytes_eq method (codes "GET") then Tell page else Refused OnlyGet

-- a text in two parts: up to its first slash, and after it
abbrev pub is_slash : ℕ → Bool
is_slash c = c == 47

abbrev pub slash_at : List ℕ → ℕ
slash_at text = unwrap_or (position is_slash text) (length text)

-- the place of the sender of this name
abbrev pub sender_place : Lists → List ℕ → Option ℕ
sender_place setup name = option_map (λ (sender : ℕ × Role). sender.0) (sender_named setup name)

-- the kept text of a sender's number; refused if no sender has the name
abbrev pub letter_by : Option ℕ → ℕ → Asked
letter_by sender number = option_map_or (λ place. Tell (Letter place number)) sender (Refused NoMessage)

-- the kept mail of a sender from a number on, as a bag; refused if no sender has the name or no message the number
abbrev pub bag_by : Option ℕ → ℕ → Asked
bag_by sender from = option_map_or (λ place. if from == 0 then Refused NoMessage else Tell (Bag place from)) sender (Refused NoMessage)

-- what a GET asks for with a sender's name and a number, with a slash between them
abbrev pub numbered_asked : (Option ℕ → ℕ → Asked) → Lists → List ℕ → List ℕ → Asked
numbered_asked ask setup text method =
    if bytes_eq method (codes "GET") then ask (sender_place setup (take (slash_at text) text)) (plain_number (drop (slash_at text + 1) text)) else Refused OnlyGet

-- a POST to the mail of a sender; if no sender has the name, the path leads to nothing
abbrev pub mail_of_asked : Lists → List ℕ → List ℕ → ℕ → Framing → Asked
mail_of_asked setup name method minor framing =
    option_map_or (λ sender. post_asked (DeliverOf sender) method minor framing) (sender_place setup name) (Refused NoRoute)

-- what a GET asks for with the name of a source (Debian Policy 5.6.1); with any other text the path leads to nothing
abbrev pub source_asked : (List ℕ → Page) → List ℕ → List ℕ → Asked
source_asked tell name method = option_map_or (λ source. tell_asked (tell source) method) (package_in name) (Refused NoRoute)

-- what is asked for with a day (ISO 8601); with any other text the path leads to nothing
abbrev pub day_asked : (Date → Asked) → List ℕ → Asked
day_asked ask text = option_map_or ask (day_in text) (Refused NoRoute)

-- what is asked for with the day of a run, or else with the name of a source to free
abbrev pub proposals_asked : List ℕ → List ℕ → Asked
proposals_asked text method = option_map_or (λ day. tell_asked (page.ProposeOn day) method) (day_in text) (source_asked ProposeFor text method)

-- On a route added after the first six. After the second slash, a kept text and a part of the kept mail name their
-- sender, and then a number. Mail of a sender names the sender there, the text on a source the source, and an order and
-- a trial their day.
abbrev pub added_asked : Lists → Route → List ℕ → List ℕ → ℕ → Framing → Asked
added_asked setup route.MailOf method path minor framing = mail_of_asked setup (drop 6 path) method minor framing
added_asked setup route.Lint method path minor framing = post_asked Look method minor framing
added_asked setup route.Try method path minor framing = post_asked Try method minor framing
added_asked setup route.TryOn method path minor framing = day_asked (λ day. post_asked (TryOn day) method minor framing) (drop 5 path)
added_asked setup route.Waiting method path minor framing = tell_asked Waiting method
added_asked setup route.Runs method path minor framing = tell_asked Runs method
added_asked setup route.Kept method path minor framing = tell_asked Kept method
added_asked setup route.Letter method path minor framing = numbered_asked letter_by setup (drop 6 path) method
added_asked setup route.Bag method path minor framing = numbered_asked bag_by setup (drop 5 path) method
added_asked setup route.Why method path minor framing = source_asked Why (drop 5 path) method
added_asked setup route.Order method path minor framing = day_asked (λ day. tell_asked (Order day) method) (drop 7 path)
added_asked setup route.Hints method path minor framing = tell_asked Hints method
added_asked setup route.Unstable method path minor framing = tell_asked Unstable method
added_asked setup route.Propose method path minor framing = tell_asked Propose method
added_asked setup route.ProposeFor method path minor framing = proposals_asked (drop 9 path) method
added_asked setup route.Breaks method path minor framing = post_asked Breaks method minor framing
added_asked setup route.BreaksOf method path minor framing = source_asked page.Breaks (drop 8 path) method
added_asked setup _ method path minor framing = Refused NoRoute

-- On the route of the path: the first six, and those added. A report names its run after the second slash.
abbrev pub asked_at : Lists → Option Route → List ℕ → List ℕ → ℕ → Framing → Asked
asked_at setup None method path minor framing = Refused NoRoute
asked_at setup (Some route.Mail) method path minor framing = post_asked Deliver method minor framing
asked_at setup (Some route.Settle) method path minor framing = post_asked Settle method minor framing
asked_at setup (Some route.Status) method path minor framing = tell_asked Status method
asked_at setup (Some route.Testing) method path minor framing = tell_asked Testing method
asked_at setup (Some route.Excuses) method path minor framing = tell_asked (Excuses (plain_number (drop 9 path))) method
asked_at setup (Some route.Update) method path minor framing = tell_asked (Update (plain_number (drop 8 path))) method
asked_at setup (Some added) method path minor framing = added_asked setup added method path minor framing

-- a head names its host once; by HTTP/1.0 it may leave it out (RFC 9112, section 3.2)
abbrev pub names_host : ℕ → HostFields → Bool
names_host minor NoHost = minor == 0
names_host minor OneHost = true
names_host minor SeveralHosts = false

unfoldable pub asked_by : Lists → List ℕ → List ℕ → ℕ → Framing → Asked
asked_by setup method target minor framing =
    if names_host minor framing.hosts then asked_at setup (route_of (path_of target)) method (path_of target) minor framing else Refused BadRequest

-- What a head asks for of an office with this setup: its host is named, its path is routed, then come its method and what
-- its fields say of the body.
unfoldable pub asked_of : Lists → RequestHead → Asked
asked_of setup head = asked_by setup head.method head.target head.minor (framing_of (map name_and_value head.fields))

-- the head names its host as it should
abbrev pub is_hosted : RequestHead → Bool
is_hosted head = names_host head.minor (framing_of (map name_and_value head.fields)).hosts

-- the same of such a head, by another table of routes
abbrev pub asked_by_table : RowsOf (RouteOf Route) → Lists → RequestHead → Asked
asked_by_table routes setup head = asked_at setup (route_in routes (path_of head.target)) head.method (path_of head.target) head.minor (framing_of (map name_and_value head.fields))

-- whether the reply goes without its body
abbrev pub is_head_method : RequestHead → Bool
is_head_method head = bytes_eq head.method (codes "HEAD")

-- how many bytes of a body are read
abbrev pub body_size : Asked → ℕ
body_size (Post p) = p.length
body_size _ = 0

-- of a head that names its host as it should, this path asks for this page, and other methods than GET are refused
abbrev pub TellsAt : List ℕ → Page → Type 0
TellsAt path page =
    (setup : Lists) (head : RequestHead) → is_hosted head ≡ true → path_of head.target ≡ path → asked_of setup head ≡ tell_asked page head.method

-- and this path asks for this action by a POST
abbrev pub PostsAt : List ℕ → Action → Type 0
PostsAt path action =
    (setup : Lists) (head : RequestHead) → is_hosted head ≡ true → path_of head.target ≡ path
    → asked_of setup head ≡ post_asked action head.method head.minor (framing_of (map name_and_value head.fields))
