-- Where the requests go, by the crate matchit.
use Rattle.std.specs.Prelude.{◌≢◌, ℕ, List, [], ◌∷◌, ◌++◌, Option, option_map, codes}
use Rattle.std.specs.List.{AllByRecursion}
use Rattle.matchit.specs.Rows.{RowsOf, param_token}
use Rattle.matchit.specs.Router.{RouteOf}
use Rattle.matchit.specs.Seek.{first}
use Rattle.office_http_requests.specs.declared.routes.Route.{Route}
use Rattle.office_http_requests.specs.declared.routes.Route.TheVariants.{Mail, MailOf, Lint, Settle, Try, TryOn, Status, Testing, Excuses, Update, Waiting, Runs, Kept, Letter, Bag, Why, Order, Hints, Unstable, Propose, ProposeFor, Breaks, BreaksOf}

-- a route without parameters
abbrev pub plain : List ℕ → Route → List ℕ × RouteOf Route
plain text value = (text, record { pattern = text; text = text; names = []; value = value })

-- a route that ends in a parameter, with the places of the parameter's name in its text
abbrev pub with_name : List ℕ → List ℕ → ℕ × ℕ → Route → List ℕ × RouteOf Route
with_name front text name value = (front ++ param_token ∷ [], record { pattern = front ++ param_token ∷ []; text = text; names = name ∷ []; value = value })

-- a route that ends in two parameters
abbrev pub with_letter : List ℕ → List ℕ → List (ℕ × ℕ) → Route → List ℕ × RouteOf Route
with_letter front text names value =
    let pattern = front ++ param_token ∷ 47 ∷ param_token ∷ [] in
    (pattern, record { pattern = pattern; text = text; names = names; value = value })

-- six of the routes, in matchit's order: without `/waiting`, `/runs` and `/try`, and those of kept mail and of sources
unfoldable pub six_routes : RowsOf (RouteOf Route)
six_routes =
    with_name (codes "/excuses/") (codes "/excuses/{run}") (10, 13) Excuses ∷ plain (codes "/mail") Mail ∷ plain (codes "/settle") Settle ∷ plain (codes "/status") Status
    ∷ plain (codes "/testing") Testing ∷ with_name (codes "/update/") (codes "/update/{run}") (9, 12) Update ∷ []

-- ten of the routes, in matchit's order: without `/try` and those of sources
unfoldable pub ten_routes : RowsOf (RouteOf Route)
ten_routes =
    with_name (codes "/excuses/") (codes "/excuses/{run}") (10, 13) Excuses ∷ with_letter (codes "/kept/") (codes "/kept/{sender}/{number}") ((7, 13) ∷ (16, 22) ∷ []) Letter ∷ plain (codes "/kept") Kept
    ∷ plain (codes "/mail") Mail ∷ plain (codes "/runs") Runs ∷ plain (codes "/settle") Settle ∷ plain (codes "/status") Status ∷ plain (codes "/testing") Testing
    ∷ with_name (codes "/update/") (codes "/update/{run}") (9, 12) Update ∷ plain (codes "/waiting") Waiting ∷ []

-- twelve of the routes, in matchit's order: without those of the mail of one sender, of texts that are only looked at,
-- of parts of the kept mail, of the next order, of a trial on a day, of hints, of unstable, of proposals and of what breaks
unfoldable pub twelve_routes : RowsOf (RouteOf Route)
twelve_routes =
    with_name (codes "/excuses/") (codes "/excuses/{run}") (10, 13) Excuses ∷ with_letter (codes "/kept/") (codes "/kept/{sender}/{number}") ((7, 13) ∷ (16, 22) ∷ []) Letter ∷ plain (codes "/kept") Kept
    ∷ plain (codes "/mail") Mail ∷ plain (codes "/runs") Runs ∷ plain (codes "/settle") Settle ∷ plain (codes "/status") Status ∷ plain (codes "/testing") Testing ∷ plain (codes "/try") Try
    ∷ with_name (codes "/update/") (codes "/update/{run}") (9, 12) Update ∷ plain (codes "/waiting") Waiting ∷ with_name (codes "/why/") (codes "/why/{source}") (6, 12) Why ∷ []

-- the table, in matchit's order
unfoldable pub office_routes : RowsOf (RouteOf Route)
office_routes =
    with_letter (codes "/bag/") (codes "/bag/{sender}/{from}") ((6, 12) ∷ (15, 19) ∷ []) Bag ∷ with_name (codes "/breaks/") (codes "/breaks/{source}") (9, 15) BreaksOf ∷ plain (codes "/breaks") Breaks
    ∷ with_name (codes "/excuses/") (codes "/excuses/{run}") (10, 13) Excuses ∷ plain (codes "/hints") Hints
    ∷ with_letter (codes "/kept/") (codes "/kept/{sender}/{number}") ((7, 13) ∷ (16, 22) ∷ []) Letter ∷ plain (codes "/kept") Kept ∷ plain (codes "/lint") Lint
    ∷ with_name (codes "/mail/") (codes "/mail/{sender}") (7, 13) MailOf ∷ plain (codes "/mail") Mail ∷ with_name (codes "/order/") (codes "/order/{day}") (8, 11) Order
    ∷ with_name (codes "/propose/") (codes "/propose/{source}") (10, 16) ProposeFor ∷ plain (codes "/propose") Propose
    ∷ plain (codes "/runs") Runs ∷ plain (codes "/settle") Settle ∷ plain (codes "/status") Status ∷ plain (codes "/testing") Testing
    ∷ with_name (codes "/try/") (codes "/try/{day}") (6, 9) TryOn ∷ plain (codes "/try") Try ∷ plain (codes "/unstable") Unstable
    ∷ with_name (codes "/update/") (codes "/update/{run}") (9, 12) Update ∷ plain (codes "/waiting") Waiting ∷ with_name (codes "/why/") (codes "/why/{source}") (6, 12) Why ∷ []

-- a path that is none of these texts, and begins with none of those
abbrev pub IsBeside : List (List ℕ) → List (List ℕ) → List ℕ → Type 0
IsBeside texts fronts path = AllByRecursion (λ text. path ≢ text) texts × AllByRecursion (λ front. (rest : List ℕ) → path ≢ front ++ rest) fronts

-- the paths of the routes that the twelve are without: these texts, and what begins with those
abbrev pub new_paths : List (List ℕ)
new_paths = codes "/breaks" ∷ codes "/hints" ∷ codes "/lint" ∷ codes "/propose" ∷ codes "/unstable" ∷ []

abbrev pub new_fronts : List (List ℕ)
new_fronts = codes "/bag/" ∷ codes "/breaks/" ∷ codes "/mail/" ∷ codes "/order/" ∷ codes "/propose/" ∷ codes "/try/" ∷ []

-- the route of a path by a table, and by this one
abbrev pub route_in : RowsOf (RouteOf Route) → List ℕ → Option Route
route_in routes path = option_map (λ (r : RouteOf Route). r.value) (first routes path)

abbrev pub route_of : List ℕ → Option Route
route_of path = route_in office_routes path
