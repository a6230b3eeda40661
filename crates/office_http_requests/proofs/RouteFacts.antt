-- A row of bytes alone answers no path but its own, and one that begins with bytes no path that doesn't begin with them.
use Rattle.std.proofs.Common.{◌≡◌, ◌≢◌, ◌<◌, ℕ, ◌-◌, Bool, true, false, cond, nat_lt, List, [], ◌∷◌, ◌++◌, map, codes, Option, option_map, refl, sym, ap, ◌∙◌, arith, ◌==◌}
use Rattle.std.proofs.lemmas.Bool.Decides.{nat_tests}
use Rattle.std.specs.Cmp.{first_so, second_so}
use Rattle.std.specs.List.{list_all}
use Rattle.httparse.specs.Grammar.{RequestHead}
use Rattle.httparse.specs.Spans.{name_and_value}
use Rattle.matchit.proofs.OnLiterals.{matchit_on_literals}
use Rattle.matchit.specs.Level.{IsText}
use Rattle.matchit.specs.Rows.{RowsOf, param_token, catch_all_token}
use Rattle.matchit.specs.Router.{RouteOf}
use Rattle.matchit.specs.Seek.{own, step, or_else, param_step, seek}
use Rattle.office_mail.specs.Lists.{Lists}
use Rattle.office_http_requests.specs.Asked.{asked_at, asked_by, asked_by_table, asked_of, framing_of, is_hosted, path_of, post_asked, tell_asked}
use Rattle.office_http_requests.specs.Routes.{IsBeside, new_fronts, new_paths, office_routes, six_routes, ten_routes, twelve_routes, route_in, route_of, plain, with_letter, with_name}
use Rattle.office_http_requests.specs.declared.reply.Refusal.TheVariants.{BadRequest}
use Rattle.office_http_requests.specs.declared.request.Action.TheVariants.{Breaks, Look, Try}
use Rattle.office_http_requests.specs.declared.request.Asked.TheVariants.{Refused}
use Rattle.office_http_requests.specs.declared.request.Page.TheVariants.{Waiting, Runs, Kept, Hints, Unstable, Propose}
use Rattle.office_http_requests.specs.declared.routes.Route.{Route}
use Rattle.office_http_requests.specs.declared.routes.Route.TheVariants as route

module _ {K : Type 0} where
  own_before : (rs more : RowsOf K) (x : ℕ) (t : List ℕ) (key : K) → own (rs ++ (x ∷ t, key) ∷ more) ≡ own (rs ++ more)
  own_before [] more x t key = refl
  own_before (([], k) ∷ rest) more x t key = refl
  own_before ((a ∷ s, k) ∷ rest) more x t key = own_before rest more x t key

  step_append : (b : ℕ) (rs more : RowsOf K) → step b (rs ++ more) ≡ step b rs ++ step b more
  step_append b [] more = refl
  step_append b (([], k) ∷ rest) more = step_append b rest more
  step_append b ((a ∷ s, k) ∷ rest) more =
      elim (a == b) as (λ v. cond v ((s, k) ∷ step b (rest ++ more)) (step b (rest ++ more)) ≡ cond v ((s, k) ∷ step b rest) (step b rest) ++ step b more) [
        | true ↦ ap (λ (l : RowsOf K). (s, k) ∷ l) (step_append b rest more)
        | false ↦ step_append b rest more
      ]

  step_past_end : (b : ℕ) (rs more : RowsOf K) (key : K) → step b (rs ++ ([], key) ∷ more) ≡ step b (rs ++ more)
  step_past_end b rs more key = step_append b rs (([], key) ∷ more) ∙ sym (step_append b rs more)

  step_by : (b x : ℕ) (t : List ℕ) (rs more : RowsOf K) (key : K) (v : Bool) → (x == b) ≡ v → step b (rs ++ (x ∷ t, key) ∷ more) ≡ step b rs ++ cond v ((t, key) ∷ step b more) (step b more)
  step_by b x t rs more key v e = step_append b rs ((x ∷ t, key) ∷ more) ∙ ap (λ (c : Bool). step b rs ++ cond c ((t, key) ∷ step b more) (step b more)) e

  step_other : (b x : ℕ) (t : List ℕ) (rs more : RowsOf K) (key : K) → (x == b) ≡ false → step b (rs ++ (x ∷ t, key) ∷ more) ≡ step b (rs ++ more)
  step_other b x t rs more key e = step_by b x t rs more key false e ∙ sym (step_append b rs more)

  step_miss : (b x : ℕ) (t : List ℕ) (rs more : RowsOf K) (key : K) → x ≢ b → step b (rs ++ (x ∷ t, key) ∷ more) ≡ step b (rs ++ more)
  step_miss b x t rs more key n =
      let e : (x == b) ≡ false = grind (arith, nat_tests) in
      step_other b x t rs more key e

  -- what a walk does at a byte, by the rows behind it, behind a parameter and behind a catch-all
  turn : RowsOf K → RowsOf K → RowsOf K → ℕ → List ℕ → Option K
  turn behind behind_param behind_all b path =
      or_else (seek 0 behind path) (or_else (seek ((param_step behind_param (b ∷ path)).0 - 1) (param_step behind_param (b ∷ path)).1 path) (own behind_all))

  same_turn : (r s p q a c : RowsOf K) (b : ℕ) (path : List ℕ) → seek 0 r path ≡ seek 0 s path → p ≡ q → a ≡ c → turn r p a b path ≡ turn s q c b path
  unfolding turn
  same_turn r s p q a c b path e f g = simp (e, f, g)

  -- a row that goes on with a byte, where the walk stands at one: what is told of the rows behind that byte is told of these
  by_byte : (b x : ℕ) (t path : List ℕ) (rs more : RowsOf K) (key : K) → x < 256 → (x ≡ b → seek 0 (step b rs ++ (t, key) ∷ step b more) path ≡ seek 0 (step b rs ++ step b more) path)
      → seek 0 (rs ++ (x ∷ t, key) ∷ more) (b ∷ path) ≡ seek 0 (rs ++ more) (b ∷ path)
  unfolding seek turn
  by_byte b x t path rs more key text behind =
      same_turn _ _ _ _ _ _ b path (by (x == b) refl) (step_miss param_token x t rs more key (λ e. omega (arith, text, e))) (step_miss catch_all_token x t rs more key (λ e. omega (arith, text, e)))
    where
      by : (v : Bool) → (x == b) ≡ v → seek 0 (step b (rs ++ (x ∷ t, key) ∷ more)) path ≡ seek 0 (step b (rs ++ more)) path
      by true e =
          let same : x ≡ b = grind (arith, nat_tests) in
          ap (λ (l : RowsOf K). seek 0 l path) (step_by b x t rs more key true e) ∙ behind same ∙ ap (λ (l : RowsOf K). seek 0 l path) (sym (step_append b rs more))
      by false e = ap (λ (l : RowsOf K). seek 0 l path) (step_other b x t rs more key e)

  -- a row of bytes alone answers no path but its own
  pub seek_others : (t path : List ℕ) (rs more : RowsOf K) (key : K) → IsText t → path ≢ t → seek 0 (rs ++ (t, key) ∷ more) path ≡ seek 0 (rs ++ more) path
  unfolding seek turn
  seek_others [] [] rs more key h n = absurd (n refl)
  seek_others (x ∷ t) [] rs more key h n = own_before rs more x t key
  seek_others [] (b ∷ path) rs more key h n =
      same_turn _ _ _ _ _ _ b path (ap (λ (l : RowsOf K). seek 0 l path) (step_past_end b rs more key)) (step_past_end param_token rs more key) (step_past_end catch_all_token rs more key)
  seek_others (x ∷ t) (b ∷ path) rs more key h n =
      by_byte b x t path rs more key h.0 (λ same. seek_others t path (step b rs) (step b more) key h.1 (λ q. n (ap (λ (l : List ℕ). b ∷ l) q ∙ ap (λ (y : ℕ). y ∷ t) (sym same))))

  -- a row that begins with bytes answers no path that doesn't begin with them
  pub seek_beside : (front t path : List ℕ) (rs more : RowsOf K) (key : K) → IsText front → ((rest : List ℕ) → path ≢ front ++ rest) → seek 0 (rs ++ (front ++ t, key) ∷ more) path ≡ seek 0 (rs ++ more) path
  unfolding seek
  seek_beside [] t path rs more key h n = absurd (n path refl)
  seek_beside (x ∷ front) t [] rs more key h n = own_before rs more x (front ++ t) key
  seek_beside (x ∷ front) t (b ∷ path) rs more key h n =
      by_byte b x (front ++ t) path rs more key h.0 (λ same. seek_beside front t path (step b rs) (step b more) key h.1 (λ rest q. n rest (ap (λ (l : List ℕ). b ∷ l) q ∙ ap (λ (y : ℕ). y ∷ front ++ rest) (sym same))))

-- the table, row by row
abbrev excuses_row : RowsOf (RouteOf Route)
excuses_row = with_name (codes "/excuses/") (codes "/excuses/{run}") (10, 13) route.Excuses ∷ []

abbrev letter : RouteOf Route
letter = (with_letter (codes "/kept/") (codes "/kept/{sender}/{number}") ((7, 13) ∷ (16, 22) ∷ []) route.Letter).1

abbrev mail_row : RowsOf (RouteOf Route)
mail_row = plain (codes "/mail") route.Mail ∷ []

abbrev status_rows : RowsOf (RouteOf Route)
status_rows = plain (codes "/settle") route.Settle ∷ plain (codes "/status") route.Status ∷ plain (codes "/testing") route.Testing ∷ []

abbrev update_row : RowsOf (RouteOf Route)
update_row = with_name (codes "/update/") (codes "/update/{run}") (9, 12) route.Update ∷ []

abbrev waiting_row : RowsOf (RouteOf Route)
waiting_row = plain (codes "/waiting") route.Waiting ∷ []

abbrev runs_row : RowsOf (RouteOf Route)
runs_row = plain (codes "/runs") route.Runs ∷ []

abbrev kept_row : RowsOf (RouteOf Route)
kept_row = plain (codes "/kept") route.Kept ∷ []

abbrev letter_row : RowsOf (RouteOf Route)
letter_row = with_letter (codes "/kept/") (codes "/kept/{sender}/{number}") ((7, 13) ∷ (16, 22) ∷ []) route.Letter ∷ []

abbrev try_row : RowsOf (RouteOf Route)
try_row = plain (codes "/try") route.Try ∷ []

abbrev why : RouteOf Route
why = (with_name (codes "/why/") (codes "/why/{source}") (6, 12) route.Why).1

abbrev why_row : RowsOf (RouteOf Route)
why_row = with_name (codes "/why/") (codes "/why/{source}") (6, 12) route.Why ∷ []

-- those behind the twelve
abbrev bag : RouteOf Route
bag = (with_letter (codes "/bag/") (codes "/bag/{sender}/{from}") ((6, 12) ∷ (15, 19) ∷ []) route.Bag).1

abbrev breaks_of : List ℕ × RouteOf Route
breaks_of = with_name (codes "/breaks/") (codes "/breaks/{source}") (9, 15) route.BreaksOf

abbrev breaks_row : RowsOf (RouteOf Route)
breaks_row = plain (codes "/breaks") route.Breaks ∷ []

abbrev hints_row : RowsOf (RouteOf Route)
hints_row = plain (codes "/hints") route.Hints ∷ []

abbrev lint_row : RowsOf (RouteOf Route)
lint_row = plain (codes "/lint") route.Lint ∷ []

abbrev mail_of : List ℕ × RouteOf Route
mail_of = with_name (codes "/mail/") (codes "/mail/{sender}") (7, 13) route.MailOf

abbrev order : List ℕ × RouteOf Route
order = with_name (codes "/order/") (codes "/order/{day}") (8, 11) route.Order

abbrev propose_for : List ℕ × RouteOf Route
propose_for = with_name (codes "/propose/") (codes "/propose/{source}") (10, 16) route.ProposeFor

abbrev propose_row : RowsOf (RouteOf Route)
propose_row = plain (codes "/propose") route.Propose ∷ []

abbrev try_on : List ℕ × RouteOf Route
try_on = with_name (codes "/try/") (codes "/try/{day}") (6, 9) route.TryOn

abbrev unstable_row : RowsOf (RouteOf Route)
unstable_row = plain (codes "/unstable") route.Unstable ∷ []

-- the rows behind each of these
abbrev behind_unstable : RowsOf (RouteOf Route)
behind_unstable = update_row ++ (waiting_row ++ why_row)

abbrev behind_try_on : RowsOf (RouteOf Route)
behind_try_on = try_row ++ (unstable_row ++ behind_unstable)

abbrev behind_propose : RowsOf (RouteOf Route)
behind_propose = runs_row ++ (status_rows ++ try_on ∷ behind_try_on)

abbrev behind_order : RowsOf (RouteOf Route)
behind_order = propose_for ∷ (propose_row ++ behind_propose)

abbrev behind_mail_of : RowsOf (RouteOf Route)
behind_mail_of = mail_row ++ order ∷ behind_order

abbrev behind_hints : RowsOf (RouteOf Route)
behind_hints = letter_row ++ (kept_row ++ (lint_row ++ mail_of ∷ behind_mail_of))

-- those in front of them that stay
abbrev to_kept : RowsOf (RouteOf Route)
to_kept = excuses_row ++ (letter_row ++ kept_row)

abbrev to_mail : RowsOf (RouteOf Route)
to_mail = excuses_row ++ (letter_row ++ (kept_row ++ mail_row))

-- the rows in front of that of trials
abbrev rows_before : RowsOf (RouteOf Route)
rows_before = excuses_row ++ (letter_row ++ (kept_row ++ (mail_row ++ (runs_row ++ status_rows))))

-- bytes are text
is_text : (t : List ℕ) → list_all (λ c. nat_lt c 256) t ≡ true → IsText t
is_text [] h = tt
is_text (c ∷ t) h =
    let small : nat_lt c 256 ≡ true = first_so _ _ h in
    let below : c < 256 = grind (arith, nat_tests) in
    (below, is_text t (second_so _ _ h))

-- a row of bytes alone, and one that ends in parameters, where the path is beside them
without : (text path : List ℕ) (rs more : RowsOf (RouteOf Route)) (key : RouteOf Route) → list_all (λ c. nat_lt c 256) text ≡ true → path ≢ text → seek 0 (rs ++ (text, key) ∷ more) path ≡ seek 0 (rs ++ more) path
without text path rs more key small other = seek_others text path rs more key (is_text text small) other

without_below : (front t path : List ℕ) (rs more : RowsOf (RouteOf Route)) (key : RouteOf Route) → list_all (λ c. nat_lt c 256) front ≡ true → ((rest : List ℕ) → path ≢ front ++ rest) → seek 0 (rs ++ (front ++ t, key) ∷ more) path ≡ seek 0 (rs ++ more) path
without_below front t path rs more key small beside = seek_beside front t path rs more key (is_text front small) beside

twelve_answer : (path : List ℕ) → IsBeside new_paths new_fronts path → route_of path ≡ route_in twelve_routes path
unfolding office_routes twelve_routes
twelve_answer path beside =
    let texts = beside.0 in
    let fronts = beside.1 in
    ap (λ (o : Option (RouteOf Route)). option_map (λ (r : RouteOf Route). r.value) o)
    (without_below (codes "/bag/") (param_token ∷ 47 ∷ param_token ∷ []) path [] (breaks_of ∷ (breaks_row ++ (excuses_row ++ (hints_row ++ behind_hints)))) bag refl fronts.0
    ∙ without_below (codes "/breaks/") (param_token ∷ []) path [] (breaks_row ++ (excuses_row ++ (hints_row ++ behind_hints))) breaks_of.1 refl fronts.1.0
    ∙ without (codes "/breaks") path [] (excuses_row ++ (hints_row ++ behind_hints)) (plain (codes "/breaks") route.Breaks).1 refl texts.0
    ∙ without (codes "/hints") path excuses_row behind_hints (plain (codes "/hints") route.Hints).1 refl texts.1.0
    ∙ without (codes "/lint") path to_kept (mail_of ∷ behind_mail_of) (plain (codes "/lint") route.Lint).1 refl texts.1.1.0
    ∙ without_below (codes "/mail/") (param_token ∷ []) path to_kept behind_mail_of mail_of.1 refl fronts.1.1.0
    ∙ without_below (codes "/order/") (param_token ∷ []) path to_mail behind_order order.1 refl fronts.1.1.1.0
    ∙ without_below (codes "/propose/") (param_token ∷ []) path to_mail (propose_row ++ behind_propose) propose_for.1 refl fronts.1.1.1.1.0
    ∙ without (codes "/propose") path to_mail behind_propose (plain (codes "/propose") route.Propose).1 refl texts.1.1.1.0
    ∙ without_below (codes "/try/") (param_token ∷ []) path rows_before behind_try_on try_on.1 refl fronts.1.1.1.1.1.0
    ∙ without (codes "/unstable") path (rows_before ++ try_row) behind_unstable (plain (codes "/unstable") route.Unstable).1 refl texts.1.1.1.1.0)

ten_answer : (path : List ℕ) → path ≢ codes "/try" → ((rest : List ℕ) → path ≢ codes "/why/" ++ rest) → route_in twelve_routes path ≡ route_in ten_routes path
unfolding twelve_routes ten_routes
ten_answer path other beside =
    ap (λ (o : Option (RouteOf Route)). option_map (λ (r : RouteOf Route). r.value) o)
    (without_below (codes "/why/") (param_token ∷ []) path (rows_before ++ (try_row ++ (update_row ++ waiting_row))) [] why refl beside
    ∙ without (codes "/try") path rows_before (update_row ++ waiting_row) (plain (codes "/try") route.Try).1 refl other)

six_answer : (path : List ℕ) → path ≢ codes "/waiting" → path ≢ codes "/runs" → path ≢ codes "/kept" → ((rest : List ℕ) → path ≢ codes "/kept/" ++ rest) → route_in ten_routes path ≡ route_in six_routes path
unfolding ten_routes six_routes
six_answer path waiting runs kept below =
    ap (λ (o : Option (RouteOf Route)). option_map (λ (r : RouteOf Route). r.value) o)
    (without_below (codes "/kept/") (param_token ∷ 47 ∷ param_token ∷ []) path excuses_row (kept_row ++ (mail_row ++ (runs_row ++ (status_rows ++ (update_row ++ waiting_row))))) letter refl below
    ∙ without (codes "/kept") path excuses_row (mail_row ++ (runs_row ++ (status_rows ++ (update_row ++ waiting_row)))) (plain (codes "/kept") route.Kept).1 refl kept
    ∙ without (codes "/runs") path (excuses_row ++ mail_row) (status_rows ++ (update_row ++ waiting_row)) (plain (codes "/runs") route.Runs).1 refl runs
    ∙ without (codes "/waiting") path (excuses_row ++ (mail_row ++ (status_rows ++ update_row))) [] (plain (codes "/waiting") route.Waiting).1 refl waiting)

-- the laws
by_route : (setup : Lists) (head : RequestHead) (o p : Option Route) → o ≡ p → asked_at setup o head.method (path_of head.target) head.minor (framing_of (map name_and_value head.fields)) ≡ asked_at setup p head.method (path_of head.target) head.minor (framing_of (map name_and_value head.fields))
by_route setup head o p same = ap (λ (o : Option Route). asked_at setup o head.method (path_of head.target) head.minor (framing_of (map name_and_value head.fields))) same

-- a head that names its host is routed
hosted_asks : (setup : Lists) (head : RequestHead) → is_hosted head ≡ true → asked_of setup head ≡ asked_at setup (route_of (path_of head.target)) head.method (path_of head.target) head.minor (framing_of (map name_and_value head.fields))
unfolding asked_of asked_by
hosted_asks setup head hosted =
    ap (λ (b : Bool). cond b (asked_at setup (route_of (path_of head.target)) head.method (path_of head.target) head.minor (framing_of (map name_and_value head.fields))) (Refused BadRequest)) hosted

pub misaddressed : (setup : Lists) (head : RequestHead) → is_hosted head ≡ false → asked_of setup head ≡ Refused BadRequest
unfolding asked_of asked_by
misaddressed setup head lost =
    ap (λ (b : Bool). cond b (asked_at setup (route_of (path_of head.target)) head.method (path_of head.target) head.minor (framing_of (map name_and_value head.fields))) (Refused BadRequest)) lost

pub newer_stay : (setup : Lists) (head : RequestHead) → is_hosted head ≡ true → IsBeside new_paths new_fronts (path_of head.target) → asked_of setup head ≡ asked_by_table twelve_routes setup head
newer_stay setup head hosted beside =
    hosted_asks setup head hosted
    ∙ by_route setup head (route_of (path_of head.target)) (route_in twelve_routes (path_of head.target)) (twelve_answer (path_of head.target) beside)

pub later_stay : (setup : Lists) (head : RequestHead) → is_hosted head ≡ true → IsBeside new_paths new_fronts (path_of head.target) → path_of head.target ≢ codes "/try" → ((rest : List ℕ) → path_of head.target ≢ codes "/why/" ++ rest) → asked_of setup head ≡ asked_by_table ten_routes setup head
later_stay setup head hosted beside other below =
    newer_stay setup head hosted beside
    ∙ by_route setup head (route_in twelve_routes (path_of head.target)) (route_in ten_routes (path_of head.target)) (ten_answer (path_of head.target) other below)

pub others_stay : (setup : Lists) (head : RequestHead) → is_hosted head ≡ true → IsBeside new_paths new_fronts (path_of head.target) → path_of head.target ≢ codes "/waiting" → path_of head.target ≢ codes "/runs" → path_of head.target ≢ codes "/kept" → ((rest : List ℕ) → path_of head.target ≢ codes "/kept/" ++ rest)
    → path_of head.target ≢ codes "/try" → ((rest : List ℕ) → path_of head.target ≢ codes "/why/" ++ rest) → asked_of setup head ≡ asked_by_table six_routes setup head
others_stay setup head hosted beside waiting runs kept below other sources =
    later_stay setup head hosted beside other sources
    ∙ by_route setup head (route_in ten_routes (path_of head.target)) (route_in six_routes (path_of head.target)) (six_answer (path_of head.target) waiting runs kept below)

told_at : (setup : Lists) (head : RequestHead) (path : List ℕ) → is_hosted head ≡ true → path_of head.target ≡ path → asked_of setup head ≡ asked_at setup (route_of path) head.method path head.minor (framing_of (map name_and_value head.fields))
told_at setup head path hosted e =
    hosted_asks setup head hosted
    ∙ ap (λ (path : List ℕ). asked_at setup (route_of path) head.method path head.minor (framing_of (map name_and_value head.fields))) e

pub waiting_told : (setup : Lists) (head : RequestHead) → is_hosted head ≡ true → path_of head.target ≡ codes "/waiting" → asked_of setup head ≡ tell_asked Waiting head.method
unfolding office_routes matchit_on_literals
waiting_told setup head hosted e = told_at setup head (codes "/waiting") hosted e

pub runs_told : (setup : Lists) (head : RequestHead) → is_hosted head ≡ true → path_of head.target ≡ codes "/runs" → asked_of setup head ≡ tell_asked Runs head.method
unfolding office_routes matchit_on_literals
runs_told setup head hosted e = told_at setup head (codes "/runs") hosted e

pub kept_told : (setup : Lists) (head : RequestHead) → is_hosted head ≡ true → path_of head.target ≡ codes "/kept" → asked_of setup head ≡ tell_asked Kept head.method
unfolding office_routes matchit_on_literals
kept_told setup head hosted e = told_at setup head (codes "/kept") hosted e

pub try_told : (setup : Lists) (head : RequestHead) → is_hosted head ≡ true → path_of head.target ≡ codes "/try" → asked_of setup head ≡ post_asked Try head.method head.minor (framing_of (map name_and_value head.fields))
unfolding office_routes matchit_on_literals
try_told setup head hosted e = told_at setup head (codes "/try") hosted e

pub hints_told : (setup : Lists) (head : RequestHead) → is_hosted head ≡ true → path_of head.target ≡ codes "/hints" → asked_of setup head ≡ tell_asked Hints head.method
unfolding office_routes matchit_on_literals
hints_told setup head hosted e = told_at setup head (codes "/hints") hosted e

pub unstable_told : (setup : Lists) (head : RequestHead) → is_hosted head ≡ true → path_of head.target ≡ codes "/unstable" → asked_of setup head ≡ tell_asked Unstable head.method
unfolding office_routes matchit_on_literals
unstable_told setup head hosted e = told_at setup head (codes "/unstable") hosted e

pub propose_told : (setup : Lists) (head : RequestHead) → is_hosted head ≡ true → path_of head.target ≡ codes "/propose" → asked_of setup head ≡ tell_asked Propose head.method
unfolding office_routes matchit_on_literals
propose_told setup head hosted e = told_at setup head (codes "/propose") hosted e

pub lint_told : (setup : Lists) (head : RequestHead) → is_hosted head ≡ true → path_of head.target ≡ codes "/lint" → asked_of setup head ≡ post_asked Look head.method head.minor (framing_of (map name_and_value head.fields))
unfolding office_routes matchit_on_literals
lint_told setup head hosted e = told_at setup head (codes "/lint") hosted e

pub breaks_told : (setup : Lists) (head : RequestHead) → is_hosted head ≡ true → path_of head.target ≡ codes "/breaks" → asked_of setup head ≡ post_asked Breaks head.method head.minor (framing_of (map name_and_value head.fields))
unfolding office_routes matchit_on_literals
breaks_told setup head hosted e = told_at setup head (codes "/breaks") hosted e
