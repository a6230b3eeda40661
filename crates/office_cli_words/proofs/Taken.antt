-- Words in which clap finds no fault ask for something.
use Rattle.std.proofs.Common.{◌≡◌, ℕ, Bool, true, false, not, ◌&&◌, codes, cond, List, [], ◌∷◌, Option, Some, None, refl, sym, subst, ◌∙◌, arith}
use Rattle.std.specs.Prelude.{⊤, find, is_some, option_and_then, option_map, unwrap_or}
use Rattle.std.specs.List.{list_any}
use Rattle.std.specs.Option.{option_map_or}
use Rattle.clap.specs.Facts.{explicit_source}
use Rattle.clap.specs.Takes.{is_given}
use Rattle.clap.specs.declared.error.kind.ErrorKind.TheVariants as kind
use Rattle.clap.specs.Faults.{built_fault, check_fault, defaults_fault, entered_fault, fault_of, level_fault, settle_fault, walk_fault}
use Rattle.clap.specs.Words.{new_rule}
use Rattle.clap.specs.Kinds.{check_kinds, or_else}
use Rattle.clap.specs.Simple.{App, Shape, argument_words, built, built_leaf, entered, filled, help_rule, inherited, label_of, names_of, rows_at, subcommand_of, with_index}
use Rattle.clap.specs.Walk.{Row, Rule, Text, all_of, answers_to, finished, first_of, has_row, nothing_held, rows_after, settled, stop_after, walk, walk_from, with_default}
use Rattle.office_cli_words.specs.Program as program
use Rattle.office_cli_words.specs.steps.ProgramSteps as steps
use Rattle.office_cli_words.specs.Asked.{Asked, ToCheck, ToExport, ToLint, ToPropose, ToReplay, ToTellBreaks, ToTellHints, ToTellMail, ToTellOrder, ToTellRuns, ToTellWaiting, ToTellWhy, ToTry, command_in, compare_of, is_set, number_in, number_of, report_by, serve_of, stored_in}
use Rattle.office_cli_words.specs.steps.AskedSteps.{asked_by}
use Rattle.office_cli_words.proofs.Walks.{EachKeeps, never_none, no_kinds}
use Rattle.office_cli_words.proofs.Values.{Good, HasFirst, fits, default_there, given_all, given_first, keeps_flag, keeps_help, keeps_value, keeps_values, level_leaves, no_default, numbers_accepted, row_first}

-- ---- each command

abbrev Reads : Shape → Type 0
Reads s = (words : List Text) → level_fault s [] nothing_held words false [] ≡ [] → is_some (command_in s.name (rows_after s.rules [] words)) ≡ true

abbrev ready : ℕ → Rule → Rule
ready i a = with_index i (filled a)

abbrev leaf : App → Shape
leaf a = built_leaf (inherited (built program.office).top a.top)

compare_read : (v1 op v2 : Option Text) → HasFirst (codes "V1") v1 → HasFirst (codes "OP") op → HasFirst (codes "V2") v2 → is_some (compare_of v1 op v2) ≡ true
compare_read (Some v1) (Some op) (Some v2) a b c = refl
compare_read None op v2 a b c = absurd a
compare_read (Some v1) None v2 a b c = absurd b
compare_read (Some v1) (Some op) None a b c = absurd c

compare_reads : Reads (leaf program.compare)
unfolding program.of_three program.office
compare_reads words none =
    let rows = rows_after (leaf program.compare).rules [] words in
    let keeps : EachKeeps Good false (leaf program.compare).rules = (
      keeps_value false (ready 1 (program.place (codes "V1"))) refl refl refl (λ values fine. refl),
      (
        keeps_value false (ready 2 (program.place (codes "OP"))) refl refl refl (λ values fine. refl),
        (
          keeps_value false (ready 3 (program.place (codes "V2"))) refl refl refl (λ values fine. refl),
          (keeps_help false (ready 4 help_rule) refl, tt),
        ),
      ),
    ) in
    let left = level_leaves (leaf program.compare) words keeps (refl, (refl, (refl, (refl, tt)))) none in
    compare_read (first_of (codes "V1") rows) (first_of (codes "OP") rows) (first_of (codes "V2") rows)
    (given_first (codes "V1") rows left.0 (left.1.0 refl)) (given_first (codes "OP") rows left.0 (left.1.1.0 refl)) (given_first (codes "V2") rows left.0 (left.1.1.1.0 refl))

replay_read : (conf : Option Text) (rows : List Row) → HasFirst (codes "conf") conf → is_some (option_map (λ f. ToReplay f (first_of (codes "db") rows)) conf) ≡ true
replay_read (Some conf) rows a = refl
replay_read None rows a = absurd a

replay_reads : Reads (leaf program.replay)
unfolding program.of_three program.office
replay_reads words none =
    let rows = rows_after (leaf program.replay).rules [] words in
    let keeps : EachKeeps Good false (leaf program.replay).rules = (
      keeps_value false (ready 1 program.conf) refl refl refl (λ values fine. refl),
      (
        keeps_value false (ready 1 program.db) refl refl refl (λ values fine. refl),
        (keeps_help false (ready 1 help_rule) refl, tt),
      ),
    ) in
    let left = level_leaves (leaf program.replay) words keeps (refl, (refl, (refl, tt))) none in
    replay_read (first_of (codes "conf") rows) rows (given_first (codes "conf") rows left.0 (left.1.0 refl))

waiting_read : (conf : Option Text) (rows : List Row) → HasFirst (codes "conf") conf → is_some (option_map (λ f. ToTellWaiting f (first_of (codes "db") rows)) conf) ≡ true
waiting_read (Some conf) rows a = refl
waiting_read None rows a = absurd a

waiting_reads : Reads (leaf steps.waiting)
unfolding program.of_three program.office
waiting_reads words none =
    let rows = rows_after (leaf steps.waiting).rules [] words in
    let keeps : EachKeeps Good false (leaf steps.waiting).rules = (
      keeps_value false (ready 1 program.conf) refl refl refl (λ values fine. refl),
      (
        keeps_value false (ready 1 program.db) refl refl refl (λ values fine. refl),
        (keeps_help false (ready 1 help_rule) refl, tt),
      ),
    ) in
    let left = level_leaves (leaf steps.waiting) words keeps (refl, (refl, (refl, tt))) none in
    waiting_read (first_of (codes "conf") rows) rows (given_first (codes "conf") rows left.0 (left.1.0 refl))

store_read : (ask : Text → Text → Asked) (conf db : Option Text) → HasFirst (codes "conf") conf → HasFirst (codes "db") db
    → is_some (option_and_then (λ (f : Text). option_map (ask f) db) conf) ≡ true
store_read ask (Some conf) (Some db) a b = refl
store_read ask None db a b = absurd a
store_read ask (Some conf) None a b = absurd b

report_read : (conf db run word : Option Text) → HasFirst (codes "conf") conf → HasFirst (codes "db") db → HasFirst (codes "RUN") run
    → is_some (option_and_then (λ (r : Text). option_and_then (λ (f : Text). option_map (report_by r word f) db) conf) run) ≡ true
report_read conf db (Some run) word a b c = store_read (report_by run word) conf db a b
report_read conf db None word a b c = absurd c

report_reads : Reads (leaf steps.report)
unfolding program.of_three program.office
report_reads words none =
    let rows = rows_after (leaf steps.report).rules [] words in
    let keeps : EachKeeps Good false (leaf steps.report).rules = (
      keeps_value false (ready 1 (program.place (codes "RUN"))) refl refl refl (λ values fine. refl),
      (
        keeps_value false (ready 2 (new_rule (codes "REPORT"))) refl refl refl (λ values fine. refl),
        (
          keeps_value false (ready 3 program.conf) refl refl refl (λ values fine. refl),
          (
            keeps_value false (ready 3 program.stored) refl refl refl (λ values fine. refl),
            (keeps_help false (ready 3 help_rule) refl, tt),
          ),
        ),
      ),
    ) in
    let left = level_leaves (leaf steps.report) words keeps (refl, (refl, (refl, (refl, (refl, tt))))) none in
    report_read (first_of (codes "conf") rows) (first_of (codes "db") rows) (first_of (codes "RUN") rows) (first_of (codes "REPORT") rows)
    (given_first (codes "conf") rows left.0 (left.1.1.1.0 refl)) (given_first (codes "db") rows left.0 (left.1.1.1.1.0 refl)) (given_first (codes "RUN") rows left.0 (left.1.0 refl))

-- a command that takes a setup and a store, whatever its name
looking_reads : (name : Text) (ask : Text → Text → Asked) (words : List Text) → level_fault (leaf (steps.looking name)) [] nothing_held words false [] ≡ []
    → is_some (stored_in ask (rows_after (leaf (steps.looking name)).rules [] words)) ≡ true
unfolding program.of_three program.office
looking_reads name ask words none =
    let rows = rows_after (leaf (steps.looking name)).rules [] words in
    let keeps : EachKeeps Good false (leaf (steps.looking name)).rules = (
      keeps_value false (ready 1 program.conf) refl refl refl (λ values fine. refl),
      (
        keeps_value false (ready 1 program.stored) refl refl refl (λ values fine. refl),
        (keeps_help false (ready 1 help_rule) refl, tt),
      ),
    ) in
    let left = level_leaves (leaf (steps.looking name)) words keeps (refl, (refl, (refl, tt))) none in
    store_read ask (first_of (codes "conf") rows) (first_of (codes "db") rows) (given_first (codes "conf") rows left.0 (left.1.0 refl)) (given_first (codes "db") rows left.0 (left.1.1.0 refl))

runs_reads : Reads (leaf (steps.looking (codes "runs")))
unfolding program.of_three program.office
runs_reads words none = looking_reads (codes "runs") ToTellRuns words none

export_reads : Reads (leaf (steps.looking (codes "export")))
unfolding program.of_three program.office
export_reads words none = looking_reads (codes "export") ToExport words none

check_reads : Reads (leaf (steps.looking (codes "check")))
unfolding program.of_three program.office
check_reads words none = looking_reads (codes "check") ToCheck words none

mail_reads : Reads (leaf steps.mail)
unfolding program.of_three program.office
mail_reads words none =
    let rows = rows_after (leaf steps.mail).rules [] words in
    let keeps : EachKeeps Good false (leaf steps.mail).rules = (
      keeps_value false (ready 1 program.conf) refl refl refl (λ values fine. refl),
      (
        keeps_value false (ready 1 program.stored) refl refl refl (λ values fine. refl),
        (
          keeps_flag false (ready 1 (program.flag (codes "list"))) (codes "true") [] refl refl (λ values. refl),
          (keeps_help false (ready 1 help_rule) refl, tt),
        ),
      ),
    ) in
    let left = level_leaves (leaf steps.mail) words keeps (refl, (refl, (refl, (refl, tt)))) none in
    store_read (ToTellMail (is_set (codes "list") rows)) (first_of (codes "conf") rows) (first_of (codes "db") rows)
    (given_first (codes "conf") rows left.0 (left.1.0 refl)) (given_first (codes "db") rows left.0 (left.1.1.0 refl))

values_read : (ask : Text → List Text → Asked) (conf : Option Text) (values : Option (List Text)) → HasFirst (codes "conf") conf → is_some values ≡ true → is_some (option_and_then (λ (f : Text). option_map (ask f) values) conf) ≡ true
values_read ask (Some conf) (Some values) a b = refl
values_read ask None values a b = absurd a
values_read ask (Some conf) None a b = absurd (cc)

why_reads : Reads (leaf steps.why)
unfolding program.of_three program.office
why_reads words none =
    let rows = rows_after (leaf steps.why).rules [] words in
    let run_rule = ready 2 program.run in
    let keeps : EachKeeps Good false (leaf steps.why).rules = (
      keeps_values false (ready 1 (program.several (program.place (codes "SOURCE")))) refl refl refl (λ values fine. refl),
      (
        keeps_value false (ready 2 program.conf) refl refl refl (λ values fine. refl),
        (
          keeps_value false (ready 2 program.db) refl refl refl (λ values fine. refl),
          (
            keeps_value false run_rule refl refl refl (λ values fine. numbers_accepted run_rule 1 999_999_999 values (omega arith) refl fine),
            (
              keeps_flag false (ready 2 (program.flag (codes "hint"))) (codes "true") [] refl refl (λ values. refl),
              (keeps_help false (ready 2 help_rule) refl, tt),
            ),
          ),
        ),
      ),
    ) in
    let left = level_leaves (leaf steps.why) words keeps (refl, (refl, (refl, (refl, (refl, (refl, tt)))))) none in
    values_read (λ conf sources. ToTellWhy (is_set (codes "hint") rows) conf (first_of (codes "db") rows) (number_of (codes "run") rows) sources) (first_of (codes "conf") rows) (all_of (codes "SOURCE") rows)
    (given_first (codes "conf") rows left.0 (left.1.1.0 refl)) (given_all (codes "SOURCE") rows (left.1.0 refl))

try_reads : Reads (leaf steps.tries)
unfolding program.of_three program.office
try_reads words none =
    let rows = rows_after (leaf steps.tries).rules [] words in
    let keeps : EachKeeps Good false (leaf steps.tries).rules = (
      keeps_values false (ready 1 (program.several (program.place (codes "HINT")))) refl refl refl (λ values fine. refl),
      (
        keeps_value false (ready 2 program.conf) refl refl refl (λ values fine. refl),
        (
          keeps_value false (ready 2 program.db) refl refl refl (λ values fine. refl),
          (
            keeps_value false (ready 2 (program.option (codes "day"))) refl refl refl (λ values fine. refl),
            (
              keeps_flag false (ready 2 (program.flag (codes "all"))) (codes "true") [] refl refl (λ values. refl),
              (keeps_help false (ready 2 help_rule) refl, tt),
            ),
          ),
        ),
      ),
    ) in
    let left = level_leaves (leaf steps.tries) words keeps (refl, (refl, (refl, (refl, (refl, (refl, tt)))))) none in
    values_read (λ conf hints. ToTry (is_set (codes "all") rows) conf (first_of (codes "db") rows) (first_of (codes "day") rows) hints) (first_of (codes "conf") rows) (all_of (codes "HINT") rows)
    (given_first (codes "conf") rows left.0 (left.1.1.0 refl)) (given_all (codes "HINT") rows (left.1.0 refl))

lint_read : (conf : Option Text) → HasFirst (codes "conf") conf → is_some (option_map ToLint conf) ≡ true
lint_read (Some conf) a = refl
lint_read None a = absurd a

lint_reads : Reads (leaf steps.lint)
unfolding program.of_three program.office
lint_reads words none =
    let rows = rows_after (leaf steps.lint).rules [] words in
    let keeps : EachKeeps Good false (leaf steps.lint).rules = (
      keeps_value false (ready 1 program.conf) refl refl refl (λ values fine. refl),
      (keeps_help false (ready 1 help_rule) refl, tt),
    ) in
    let left = level_leaves (leaf steps.lint) words keeps (refl, (refl, tt)) none in
    lint_read (first_of (codes "conf") rows) (given_first (codes "conf") rows left.0 (left.1.0 refl))

order_read : (day conf db : Option Text) → HasFirst (codes "day") day → HasFirst (codes "conf") conf → HasFirst (codes "db") db
    → is_some (option_and_then (λ (d : Text). option_and_then (λ (f : Text). option_map (ToTellOrder d f) db) conf) day) ≡ true
order_read (Some day) conf db a b c = store_read (ToTellOrder day) conf db b c
order_read None conf db a b c = absurd a

order_reads : Reads (leaf steps.order)
unfolding program.of_three program.office
order_reads words none =
    let rows = rows_after (leaf steps.order).rules [] words in
    let keeps : EachKeeps Good false (leaf steps.order).rules = (
      keeps_value false (ready 1 (program.needed (codes "day"))) refl refl refl (λ values fine. refl),
      (
        keeps_value false (ready 1 program.conf) refl refl refl (λ values fine. refl),
        (
          keeps_value false (ready 1 program.stored) refl refl refl (λ values fine. refl),
          (keeps_help false (ready 1 help_rule) refl, tt),
        ),
      ),
    ) in
    let left = level_leaves (leaf steps.order) words keeps (refl, (refl, (refl, (refl, tt)))) none in
    order_read (first_of (codes "day") rows) (first_of (codes "conf") rows) (first_of (codes "db") rows)
    (given_first (codes "day") rows left.0 (left.1.0 refl)) (given_first (codes "conf") rows left.0 (left.1.1.0 refl)) (given_first (codes "db") rows left.0 (left.1.1.1.0 refl))

hints_reads : Reads (leaf (steps.looking (codes "hints")))
unfolding program.of_three program.office
hints_reads words none = looking_reads (codes "hints") ToTellHints words none

propose_read : (conf : Option Text) (rows : List Row) → HasFirst (codes "conf") conf
    → is_some (option_map (λ (conf : Text). ToPropose (is_set (codes "all") rows) conf (first_of (codes "db") rows) (first_of (codes "day") rows) (unwrap_or (all_of (codes "SOURCE") rows) [])) conf) ≡ true
propose_read (Some conf) rows a = refl
propose_read None rows a = absurd a

propose_reads : Reads (leaf steps.propose)
unfolding program.of_three program.office
propose_reads words none =
    let rows = rows_after (leaf steps.propose).rules [] words in
    let keeps : EachKeeps Good false (leaf steps.propose).rules = (
      keeps_values false (ready 1 (program.several (new_rule (codes "SOURCE")))) refl refl refl (λ values fine. refl),
      (
        keeps_value false (ready 2 program.conf) refl refl refl (λ values fine. refl),
        (
          keeps_value false (ready 2 program.db) refl refl refl (λ values fine. refl),
          (
            keeps_value false (ready 2 (program.option (codes "day"))) refl refl refl (λ values fine. refl),
            (
              keeps_flag false (ready 2 (program.flag (codes "all"))) (codes "true") [] refl refl (λ values. refl),
              (keeps_help false (ready 2 help_rule) refl, tt),
            ),
          ),
        ),
      ),
    ) in
    let left = level_leaves (leaf steps.propose) words keeps (refl, (refl, (refl, (refl, (refl, (refl, tt)))))) none in
    propose_read (first_of (codes "conf") rows) rows (given_first (codes "conf") rows left.0 (left.1.1.0 refl))

breaks_reads : Reads (leaf steps.breaks)
unfolding program.of_three program.office
breaks_reads words none =
    let rows = rows_after (leaf steps.breaks).rules [] words in
    let run_rule = ready 2 program.run in
    let keeps : EachKeeps Good false (leaf steps.breaks).rules = (
      keeps_values false (ready 1 (program.several (program.place (codes "CHANGE")))) refl refl refl (λ values fine. refl),
      (
        keeps_value false (ready 2 program.conf) refl refl refl (λ values fine. refl),
        (
          keeps_value false (ready 2 program.db) refl refl refl (λ values fine. refl),
          (
            keeps_value false run_rule refl refl refl (λ values fine. numbers_accepted run_rule 1 999_999_999 values (omega arith) refl fine),
            (keeps_help false (ready 2 help_rule) refl, tt),
          ),
        ),
      ),
    ) in
    let left = level_leaves (leaf steps.breaks) words keeps (refl, (refl, (refl, (refl, (refl, tt))))) none in
    values_read (λ conf changes. ToTellBreaks conf (first_of (codes "db") rows) (number_of (codes "run") rows) changes) (first_of (codes "conf") rows) (all_of (codes "CHANGE") rows)
    (given_first (codes "conf") rows left.0 (left.1.1.0 refl)) (given_all (codes "CHANGE") rows (left.1.0 refl))

-- a first value of a number is one
number_there : (id : Text) (o : Option Text) → (fits_number : (v : Text) → fits id (v ∷ []) ≡ true → is_some (number_in v) ≡ true) → HasFirst id o → is_some (option_and_then number_in o) ≡ true
number_there id None number has = absurd has
number_there id (Some v) number has = number v has

text_there : (id : Text) (o : Option Text) → HasFirst id o → is_some o ≡ true
text_there id None has = absurd has
text_there id (Some v) has = refl

serve_some : (conf : Option Text) (port : Option ℕ) (db : Option Text) (connections : Option ℕ) (hosts : List Text) → is_some conf ≡ true → is_some port ≡ true → is_some connections ≡ true
    → is_some (serve_of conf port db connections hosts) ≡ true
serve_some (Some conf) (Some port) db (Some connections) hosts a b c = refl
serve_some None port db connections hosts a b c = absurd (cc)
serve_some (Some conf) None db connections hosts a b c = absurd (cc)
serve_some (Some conf) (Some port) db None hosts a b c = absurd (cc)

reads_one : (b : Bool) → (b && true) ≡ true → b ≡ true
reads_one true h = refl
reads_one false h = h

serve_reads : Reads (leaf program.serve)
unfolding program.of_three program.office
serve_reads words none =
    let rows = rows_after (leaf program.serve).rules [] words in
    let port_rule = ready 1 program.port in
    let connections_rule = ready 1 program.connections in
    let keeps : EachKeeps Good false (leaf program.serve).rules = (
      keeps_value false (ready 1 program.conf) refl refl refl (λ values fine. refl),
      (
        keeps_value false port_rule refl refl refl (λ values fine. numbers_accepted port_rule 1 65_535 values (omega arith) refl fine),
        (
          keeps_value false (ready 1 program.db) refl refl refl (λ values fine. refl),
          (
            keeps_value false connections_rule refl refl refl (λ values fine. numbers_accepted connections_rule 0 1_000_000 values (omega arith) refl fine),
            (
              keeps_values false (ready 1 (program.several (program.option (codes "host")))) refl refl refl (λ values fine. refl),
              (keeps_help false (ready 1 help_rule) refl, tt),
            ),
          ),
        ),
      ),
    ) in
    let left = level_leaves (leaf program.serve) words keeps (refl, (refl, (refl, (refl, (refl, (refl, tt)))))) none in
    let conf = text_there (codes "conf") (first_of (codes "conf") rows) (given_first (codes "conf") rows left.0 (left.1.0 refl)) in
    let port = number_there (codes "port") (first_of (codes "port") rows) (λ v h. reads_one (is_some (number_in v)) h) (given_first (codes "port") rows left.0 (left.1.1.0 refl)) in
    let settled_first = (settled (leaf program.serve).rules (walk (leaf program.serve).rules [] nothing_held words).held).rows in
    let before = with_default (with_default (with_default settled_first (ready 1 program.conf)) port_rule) (ready 1 program.db) in
    let after = with_default before connections_rule in
    let hosted : with_default after (ready 1 (program.several (program.option (codes "host")))) ≡ after = no_default after (ready 1 (program.several (program.option (codes "host")))) refl in
    let there : has_row (codes "connections") (with_default (with_default after (ready 1 (program.several (program.option (codes "host"))))) (ready 1 help_rule)) ≡ true =
    subst (λ (r : List Row). has_row (codes "connections") r ≡ true) (sym (no_default (with_default after (ready 1 (program.several (program.option (codes "host"))))) (ready 1 help_rule) refl ∙ hosted))
    (default_there before connections_rule (codes "1000000") refl) in
    let connections = number_there (codes "connections") (first_of (codes "connections") rows) (λ v h. reads_one (is_some (number_in v)) h) (row_first (codes "connections") rows left.0 there) in
    serve_some (first_of (codes "conf") rows) (option_and_then number_in (first_of (codes "port") rows)) (first_of (codes "db") rows) (option_and_then number_in (first_of (codes "connections") rows))
    (unwrap_or (all_of (codes "host") rows) []) conf port connections

-- ---- the command that the words name

abbrev EachReads : List Shape → Type 0
EachReads [] = ⊤
EachReads (s ∷ rest) = Reads s × EachReads rest

found_reads : (p : Shape → Bool) (subs : List Shape) (words : List Text) → EachReads subs
    → option_map_or (λ s. level_fault s [] nothing_held words false []) (find p subs) [] ≡ [] → is_some (option_map (λ s. rows_at s words) (find p subs)) ≡ true
    → is_some (asked_by (option_map (λ s. rows_at s words) (find p subs))) ≡ true
found_reads p [] words each none there = absurd (cc)
found_reads p (s ∷ rest) words each none there = go (p s) (found_reads p rest words each.1) none there
  where
    go : (b : Bool)
        → (option_map_or (λ x. level_fault x [] nothing_held words false []) (find p rest) [] ≡ [] → is_some (option_map (λ x. rows_at x words) (find p rest)) ≡ true
        → is_some (asked_by (option_map (λ x. rows_at x words) (find p rest))) ≡ true)
        → option_map_or (λ x. level_fault x [] nothing_held words false []) (cond b (Some s) (find p rest)) [] ≡ []
        → is_some (option_map (λ x. rows_at x words) (cond b (Some s) (find p rest))) ≡ true
        → is_some (asked_by (option_map (λ x. rows_at x words) (cond b (Some s) (find p rest)))) ≡ true
    go true later fine has = each.0 words fine
    go false later fine has = later fine has

stop_reads : (a : App) → EachReads a.subs → (stop : Option (Text × List Text)) → entered_fault a stop ≡ [] → is_some (entered a stop) ≡ true
    → is_some (asked_by (entered a stop)) ≡ true
stop_reads a each None none there = absurd (cc)
stop_reads a each (Some p) none there = found_reads (λ s. answers_to p.0 (label_of s)) a.subs p.1 each none there

wants_command : (wants_help has wants_argument : Bool) → check_kinds (not has && wants_help) (not has && true) wants_argument ≡ [] → has ≡ true
wants_command true true c none = refl
wants_command false true c none = refl
wants_command true false c none = absurd (never_none kind.DisplayHelpOnMissingArgumentOrSubcommand [] none)
wants_command false false c none = absurd (never_none kind.MissingSubcommand [] none)

command_reads : (a : App) (words : List Text) → a.top.subcommand_required ≡ true → EachReads a.subs → built_fault a nothing_held words ≡ []
    → is_some (asked_by (entered a (stop_after a.top.rules (names_of a) words))) ≡ true
command_reads a words required each none =
    let stop = (walk a.top.rules (names_of a) nothing_held words).stopped in
    let last = (walk a.top.rules (names_of a) nothing_held words).held in
    let has = is_some (entered a stop) in
    let checked = check_fault a.top (finished a.top.rules last) has in
    let defaulted = defaults_fault (settled a.top.rules last).rows a.top.rules in
    let final = settle_fault a.top.rules a.top.args_override_self last in
    let first = no_kinds (walk_fault a.top (names_of a) (walk_from nothing_held) words) (or_else (entered_fault a stop) (or_else final (or_else defaulted checked))) none in
    let second = no_kinds (entered_fault a stop) (or_else final (or_else defaulted checked)) first.1 in
    let third = no_kinds final (or_else defaulted checked) second.1 in
    let fourth = no_kinds defaulted checked third.1 in
    let wanted : check_kinds (not has && (a.top.arg_required_else_help && not (list_any (λ r. explicit_source r.source) (finished a.top.rules last)))) (not has && true)
    (not (a.top.subcommand_negates_reqs && has) && list_any (λ r. r.required && not (is_given r.id (finished a.top.rules last))) a.top.rules) ≡ [] =
    subst (λ (b : Bool). check_kinds (not has && (a.top.arg_required_else_help && not (list_any (λ r. explicit_source r.source) (finished a.top.rules last)))) (not has && b)
    (not (a.top.subcommand_negates_reqs && has) && list_any (λ r. r.required && not (is_given r.id (finished a.top.rules last))) a.top.rules) ≡ []) required fourth.1 in
    stop_reads a each stop second.0 (wants_command _ has _ wanted)

-- words in which clap finds no fault ask for something
pub taken_words_ask : (words : List Text) → fault_of program.office words ≡ [] → is_some (asked_by (subcommand_of program.office words)) ≡ true
unfolding program.of_three program.office
taken_words_ask words none =
    command_reads (built program.office) (argument_words program.office words) refl (compare_reads, (replay_reads, (serve_reads, (waiting_reads, (report_reads, (runs_reads, (mail_reads, (export_reads, (check_reads, (why_reads, (try_reads, (lint_reads, (order_reads, (hints_reads, (propose_reads, (breaks_reads, tt)))))))))))))))) none
