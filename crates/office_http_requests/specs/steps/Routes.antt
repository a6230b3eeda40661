-- Steps beside `specs/Routes.antt`.
use Rattle.std.specs.Prelude.{[], ◌∷◌, codes}
use Rattle.matchit.specs.Rows.{RowsOf}
use Rattle.matchit.specs.Router.{RouteOf}
use Rattle.office_http_requests.specs.declared.routes.Route.{Route}
use Rattle.office_http_requests.specs.declared.routes.Route.TheVariants.{Mail, MailOf, Lint, Settle, Try, TryOn, Status, Testing, Excuses, Update, Waiting, Runs, Kept, Letter, Bag, Why, Order}
use Rattle.office_http_requests.specs.Routes.{plain, with_name, with_letter}

-- seventeen of the routes, in matchit's order: without those of hints, of unstable, of proposals and of what breaks
unfoldable pub seventeen_routes : RowsOf (RouteOf Route)
seventeen_routes =
    with_letter (codes "/bag/") (codes "/bag/{sender}/{from}") ((6, 12) ∷ (15, 19) ∷ []) Bag ∷ with_name (codes "/excuses/") (codes "/excuses/{run}") (10, 13) Excuses
    ∷ with_letter (codes "/kept/") (codes "/kept/{sender}/{number}") ((7, 13) ∷ (16, 22) ∷ []) Letter ∷ plain (codes "/kept") Kept ∷ plain (codes "/lint") Lint
    ∷ with_name (codes "/mail/") (codes "/mail/{sender}") (7, 13) MailOf ∷ plain (codes "/mail") Mail ∷ with_name (codes "/order/") (codes "/order/{day}") (8, 11) Order
    ∷ plain (codes "/runs") Runs ∷ plain (codes "/settle") Settle ∷ plain (codes "/status") Status ∷ plain (codes "/testing") Testing
    ∷ with_name (codes "/try/") (codes "/try/{day}") (6, 9) TryOn ∷ plain (codes "/try") Try
    ∷ with_name (codes "/update/") (codes "/update/{run}") (9, 12) Update ∷ plain (codes "/waiting") Waiting ∷ with_name (codes "/why/") (codes "/why/{source}") (6, 12) Why ∷ []
