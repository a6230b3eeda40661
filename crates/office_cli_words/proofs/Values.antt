-- What clap takes has every value that is asked for.
use Rattle.std.proofs.Common.{◌≡◌, ◌^◌, ◌<◌, ◌≤◌, ℕ, Bool, true, false, not, ◌&&◌, ◌||◌, cond, codes, nat_le, nat_lt, List, [], ◌∷◌, ◌++◌, length, Option, Some, None, refl, sym, ap, subst, arith, lt-ltb, leb-true}
use Rattle.std.proofs.lemmas.Bool.{and_parts, and_from}
use Rattle.std.proofs.lemmas.Slice.Eq.{bytes_eq-Decides}
use Rattle.std.specs.Prelude.{⊤, find, fold, is_some, option_and_then, option_map, slice_get}
use Rattle.std.specs.List.{list_all, list_any}
use Rattle.std.specs.Option.{option_map_or}
use Rattle.std.specs.Str.{bytes_eq}
use Rattle.std.specs.Str.Parse.{digits_value, without_leading_plus}
use Rattle.clap.specs.Facts.{explicit_source, parser_of_value, unwrap_or_range}
use Rattle.clap.specs.Kinds.{check_kinds, or_else, range_kinds, value_kinds}
use Rattle.clap.specs.Faults.{action_fault, level_fault, values_fault}
use Rattle.clap.specs.Takes.{is_given}
use Rattle.clap.specs.Simple.{Shape}
use Rattle.clap.specs.Walk.{Row, Rule, Text, action_of, all_of, at_row, default_rows, first_of, has_row, more_values, most_values, nothing_held, reading_by, rows_after, used_as, values_or_missing, walk, walk_from, with_default, with_values, without}
use Rattle.clap.specs.declared.builder.action.ArgAction.{ArgAction}
use Rattle.clap.specs.declared.builder.action.ArgAction.TheVariants.{Append, Help, Set, SetTrue}
use Rattle.clap.specs.declared.builder.value_parser.ValueParser.TheVariants.{Unsigned}
use Rattle.clap.specs.declared.builder.range.ValueRange.{ValueRange}
use Rattle.clap.specs.declared.error.kind.ErrorKind.{ErrorKind}
use Rattle.clap.specs.declared.error.kind.ErrorKind.TheVariants as kind
use Rattle.clap.specs.ValueTests.{accepts, is_numeral, is_unsigned_in}
use Rattle.clap.specs.Values.{refused_kind}
use Rattle.clap.specs.declared.builder.value_parser.Reading.{Reading}
use Rattle.clap.specs.declared.parser.matches.ValueSource.{ValueSource}
use Rattle.clap.specs.declared.parser.matches.ValueSource.TheVariants.{CommandLine, DefaultValue}
use Rattle.office_cli_words.specs.Asked.{number_in}
use Rattle.office_cli_words.proofs.Walks.{EachKeeps, Keeps, held_settled, never_none, no_kinds, walked_well}

-- ---- good rows: each has a value, and those of a number are numbers

abbrev is_numeric : Text → Bool
is_numeric id = bytes_eq id (codes "port") || bytes_eq id (codes "connections") || bytes_eq id (codes "run")

abbrev reads : Text → Bool
reads text = is_some (number_in text)

abbrev pub fits : Text → List Text → Bool
fits id values = not (is_numeric id) || list_all reads values

abbrev has_values : List Text → Bool
has_values [] = false
has_values (v ∷ vs) = true

abbrev is_good : Row → Bool
is_good r = has_values r.values && fits r.id r.values

abbrev pub Good : List Row → Type 0
Good rows = list_all is_good rows ≡ true

all_append : {X : Type 0} (p : X → Bool) (xs ys : List X) → list_all p xs ≡ true → list_all p ys ≡ true → list_all p (xs ++ ys) ≡ true
all_append p [] ys x y = y
all_append p (x ∷ xs) ys h y =
    let parts = and_parts (p x) (list_all p xs) h in
    and_from (p x) (list_all p (xs ++ ys)) parts.0 (all_append p xs ys parts.1 y)

more_fit : (id : Text) (xs ys : List Text) → fits id xs ≡ true → fits id ys ≡ true → fits id (xs ++ ys) ≡ true
more_fit id xs ys x y = go (is_numeric id) x y
  where
    go : (b : Bool) → (not b || list_all reads xs) ≡ true → (not b || list_all reads ys) ≡ true → (not b || list_all reads (xs ++ ys)) ≡ true
    go true a c = all_append reads xs ys a c
    go false a c = refl

more_there : (xs ys : List Text) → has_values xs ≡ true → has_values (xs ++ ys) ≡ true
more_there [] ys h = absurd (cc)
more_there (x ∷ xs) ys h = refl

rows_changed : (id : Text) (change : Row → List Row) (missing rows : List Row)
    → ((r : Row) → bytes_eq r.id id ≡ true → is_good r ≡ true → Good (change r)) → Good missing → Good rows → Good (at_row id change missing rows)
rows_changed id change missing [] changed there h = there
rows_changed id change missing (r ∷ rs) changed there h =
    let parts = and_parts (is_good r) (list_all is_good rs) h in
    go (bytes_eq r.id id) refl parts.0 parts.1 (rows_changed id change missing rs changed there parts.1)
  where
    go : (b : Bool) → bytes_eq r.id id ≡ b → is_good r ≡ true → Good rs → Good (at_row id change missing rs)
        → Good (cond b (change r ++ rs) (r ∷ at_row id change missing rs))
    go true same ok rest later = all_append is_good (change r) rs (changed r same ok) rest
    go false same ok rest later = and_from (is_good r) (list_all is_good (at_row id change missing rs)) ok later

row_more : (id : Text) (source : ValueSource) (values : List Text) → fits id values ≡ true → (r : Row) → bytes_eq r.id id ≡ true → is_good r ≡ true
    → Good (more_values source values r)
row_more id source values fit r same ok =
    let parts = and_parts (has_values r.values) (fits r.id r.values) ok in
    let own : fits r.id values ≡ true = subst (λ (i : Text). fits i values ≡ true) (sym ((bytes_eq-Decides r.id id).0 same)) fit in
    and_from _ true (and_from (has_values (r.values ++ values)) (fits r.id (r.values ++ values)) (more_there r.values values parts.0) (more_fit r.id r.values values parts.1 own)) refl

values_good : (id : Text) (how : Reading) (source : ValueSource) (v : Text) (vs : List Text) (rows : List Row) → fits id (v ∷ vs) ≡ true → Good rows
    → Good (with_values id how source (v ∷ vs) rows)
values_good id how source v vs rows fit h =
    rows_changed id (more_values source (v ∷ vs)) _ rows (row_more id source (v ∷ vs) fit) (and_from (fits id (v ∷ vs)) true fit refl) h

none_good : (id : Text) (rows : List Row) → Good rows → Good (without id rows)
none_good id rows h = rows_changed id (λ _. []) [] rows (λ r same ok. refl) refl h

-- ---- uses and defaults

or_left : (x y : Bool) → x ≡ true → (x || y) ≡ true
or_left true y h = refl
or_left false y h = absurd (cc)

or_right : (x y : Bool) → y ≡ true → (x || y) ≡ true
or_right true y h = refl
or_right false y h = h

any_left : {X : Type 0} (p : X → Bool) (xs ys : List X) → list_any p xs ≡ true → list_any p (xs ++ ys) ≡ true
any_left p [] ys h = absurd (cc)
any_left p (x ∷ xs) ys h = go (p x) h (any_left p xs ys)
  where
    go : (b : Bool) → (b || list_any p xs) ≡ true → (list_any p xs ≡ true → list_any p (xs ++ ys) ≡ true) → (b || list_any p (xs ++ ys)) ≡ true
    go true e later = refl
    go false e later = later e

-- an option or a value by its place, which takes one value
pub keeps_value : (again : Bool) (a : Rule) → action_of a ≡ Set → a.missing ≡ [] → unwrap_or_range a.range ≡ record { start_inclusive = 1; end_inclusive = 1 }
    → ((values : List Text) → values_fault a values ≡ [] → fits a.id values ≡ true) → Keeps Good again a
keeps_value again a set missing one accepted [] rows h none =
    let parts = no_kinds (range_kinds 1 1 0) (action_fault (action_of a) again a (values_or_missing a []) rows)
    (subst (λ (r : ValueRange). or_else (range_kinds r.start_inclusive r.end_inclusive 0) (action_fault (action_of a) again a (values_or_missing a []) rows) ≡ []) one none) in
    absurd (never_none kind.InvalidValue [] parts.0)
keeps_value again a set missing one accepted (v ∷ vs) rows h none =
    let parts = no_kinds _ _ none in
    let uses : action_fault Set again a (v ∷ vs) rows ≡ [] = subst (λ (x : ArgAction). action_fault x again a (v ∷ vs) rows ≡ []) set parts.1 in
    let more = no_kinds _ _ uses in
    subst (λ (x : ArgAction). Good (used_as x a.id (reading_by a) (v ∷ vs) rows)) (sym set)
    (values_good a.id (reading_by a) CommandLine v vs (without a.id rows) (accepted (v ∷ vs) more.1) (none_good a.id rows h))

-- the same for a value that may be followed by others of its name
pub keeps_values : (again : Bool) (a : Rule) → action_of a ≡ Append → a.missing ≡ [] → unwrap_or_range a.range ≡ record { start_inclusive = 1; end_inclusive = 1 }
    → ((values : List Text) → values_fault a values ≡ [] → fits a.id values ≡ true) → Keeps Good again a
keeps_values again a adds missing one accepted [] rows h none =
    let parts = no_kinds (range_kinds 1 1 0) (action_fault (action_of a) again a (values_or_missing a []) rows)
    (subst (λ (r : ValueRange). or_else (range_kinds r.start_inclusive r.end_inclusive 0) (action_fault (action_of a) again a (values_or_missing a []) rows) ≡ []) one none) in
    absurd (never_none kind.InvalidValue [] parts.0)
keeps_values again a adds missing one accepted (v ∷ vs) rows h none =
    let parts = no_kinds _ _ none in
    let fine : values_fault a (v ∷ vs) ≡ [] = subst (λ (x : ArgAction). action_fault x again a (v ∷ vs) rows ≡ []) adds parts.1 in
    subst (λ (x : ArgAction). Good (used_as x a.id (reading_by a) (v ∷ vs) rows)) (sym adds)
    (values_good a.id (reading_by a) CommandLine v vs rows (accepted (v ∷ vs) fine) h)

-- a flag, whose use stands for a text
pub keeps_flag : (again : Bool) (a : Rule) (v : Text) (vs : List Text) → action_of a ≡ SetTrue → a.missing ≡ v ∷ vs → ((values : List Text) → fits a.id values ≡ true) → Keeps Good again a
keeps_flag again a v vs set missing fine values rows h none =
    subst (λ (x : ArgAction). Good (used_as x a.id (reading_by a) (values_or_missing a values) rows)) (sym set) (go values)
  where
    go : (given : List Text) → Good (used_as SetTrue a.id (reading_by a) (values_or_missing a given) rows)
    go [] = subst (λ (some : List Text). Good (used_as SetTrue a.id (reading_by a) some rows)) (sym missing)
        (values_good a.id (reading_by a) CommandLine v vs (without a.id rows) (fine (v ∷ vs)) (none_good a.id rows h))
    go (w ∷ ws) = values_good a.id (reading_by a) CommandLine w ws (without a.id rows) (fine (w ∷ ws)) (none_good a.id rows h)

-- a call for help is a fault
pub keeps_help : (again : Bool) (a : Rule) → action_of a ≡ Help → Keeps Good again a
keeps_help again a help values rows h none =
    let parts = no_kinds (range_kinds (unwrap_or_range a.range).start_inclusive (most_values a) (length values)) (action_fault (action_of a) again a (values_or_missing a values) rows) none in
    let asks : action_fault Help again a (values_or_missing a values) rows ≡ [] = subst (λ (x : ArgAction). action_fault x again a (values_or_missing a values) rows ≡ []) help parts.1 in
    absurd (never_none kind.DisplayHelp [] asks)

defaults_good : (id : Text) (how : Reading) (values : List Text) (rows : List Row) → fits id values ≡ true → Good rows → Good (default_rows id how values rows)
defaults_good id how [] rows fit h = h
defaults_good id how (v ∷ vs) rows fit h = values_good id how DefaultValue v vs rows fit h

default_good : (rows : List Row) (a : Rule) → fits a.id a.defaults ≡ true → Good rows → Good (with_default rows a)
default_good rows a fit h = go (has_row a.id rows)
  where
    go : (b : Bool) → Good (cond b rows (default_rows a.id (reading_by a) a.defaults rows))
    go true = h
    go false = defaults_good a.id (reading_by a) a.defaults rows fit h

abbrev pub EachFits : List Rule → Type 0
EachFits [] = ⊤
EachFits (a ∷ rest) = (fits a.id a.defaults ≡ true) × EachFits rest

all_defaults_good : (c : List Rule) (rows : List Row) → EachFits c → Good rows → Good (fold with_default rows c)
all_defaults_good [] rows fit h = h
all_defaults_good (a ∷ rest) rows fit h = all_defaults_good rest (with_default rows a) fit.1 (default_good rows a fit.0 h)

-- ---- what a level of a parse without faults leaves

abbrev pub EachGiven : List Row → List Rule → Type 0
EachGiven rows [] = ⊤
EachGiven rows (a ∷ rest) = (a.required ≡ true → is_given a.id rows ≡ true) × EachGiven rows rest

last_check : (a b c : Bool) → check_kinds a b c ≡ [] → c ≡ false
last_check true b c none = absurd (cc)
last_check false true c none = absurd (cc)
last_check false false true none = absurd (cc)
last_check false false false none = refl

or_parts : (a b : Bool) → (a || b) ≡ false → (a ≡ false) × (b ≡ false)
or_parts true b none = absurd (cc)
or_parts false b none = (refl, none)

unless : (negated : Bool) (c : Bool) → (not (negated && false) && c) ≡ false → c ≡ false
unless true c none = none
unless false c none = none

given_when : (required given : Bool) → (required && not given) ≡ false → required ≡ true → given ≡ true
given_when true true none needed = refl
given_when true false none needed = absurd (cc)
given_when false given none needed = absurd (cc)

each_given : (rows : List Row) (c : List Rule) → list_any (λ a. a.required && not (is_given a.id rows)) c ≡ false → EachGiven rows c
each_given rows [] none = tt
each_given rows (a ∷ rest) none =
    let parts = or_parts _ _ none in
    (given_when a.required (is_given a.id rows) parts.0, each_given rows rest parts.1)

pub level_leaves : (s : Shape) (words : List Text) → EachKeeps Good s.args_override_self s.rules → EachFits s.rules
    → level_fault s [] nothing_held words false [] ≡ [] → Good (rows_after s.rules [] words) × EachGiven (rows_after s.rules [] words) s.rules
level_leaves s words keeps fit none =
    let last = (walk s.rules [] nothing_held words).held in
    let first = no_kinds _ _ none in
    let second = no_kinds _ _ first.1 in
    let third = no_kinds _ _ second.1 in
    let walked = walked_well Good s keeps [] (walk_from nothing_held) words refl first.0 in
    let settled = held_settled Good s.args_override_self s.rules keeps last walked second.0 in
    (all_defaults_good s.rules _ fit settled, each_given _ s.rules (unless s.subcommand_negates_reqs _ (last_check _ _ _ third.1)))

-- ---- a row that is there has a value

first_fits : (id v : Text) (vs : List Text) → fits id (v ∷ vs) ≡ true → fits id (v ∷ []) ≡ true
first_fits id v vs fit = go (is_numeric id) fit
  where
    go : (b : Bool) → (not b || list_all reads (v ∷ vs)) ≡ true → (not b || list_all reads (v ∷ [])) ≡ true
    go true h = and_from (reads v) true (and_parts (reads v) (list_all reads vs) h).0 refl
    go false h = refl

-- the value is one of a number where the name is a number's
abbrev pub HasFirst : Text → Option Text → Type 0
HasFirst id None = ⊥
HasFirst id (Some v) = fits id (v ∷ []) ≡ true

held_first : (id : Text) (values : List Text) → has_values values ≡ true → fits id values ≡ true → HasFirst id (slice_get values 0)
held_first id [] some fit = absurd (cc)
held_first id (v ∷ vs) some fit = first_fits id v vs fit

pub row_first : (id : Text) (rows : List Row) → Good rows → has_row id rows ≡ true → HasFirst id (first_of id rows)
row_first id [] h there = absurd (cc)
row_first id (r ∷ rs) h there =
    let parts = and_parts (is_good r) (list_all is_good rs) h in
    go (bytes_eq r.id id) refl there (row_first id rs parts.1) (and_parts (has_values r.values) (fits r.id r.values) parts.0)
  where
    go : (b : Bool) → bytes_eq r.id id ≡ b → (b || has_row id rs) ≡ true → (has_row id rs ≡ true → HasFirst id (first_of id rs))
        → (has_values r.values ≡ true) × (fits r.id r.values ≡ true)
        → HasFirst id (option_and_then (λ x. slice_get x.values 0) (cond b (Some r) (find (λ x. bytes_eq x.id id) rs)))
    go true same there later own = held_first id r.values own.0 (subst (λ (i : Text). fits i r.values ≡ true) ((bytes_eq-Decides r.id id).0 same) own.1)
    go false same there later own = later there

given_row : (id : Text) (rows : List Row) → is_given id rows ≡ true → has_row id rows ≡ true
given_row id [] given = absurd (cc)
given_row id (r ∷ rs) given = go (bytes_eq r.id id) given (given_row id rs)
  where
    go : (b : Bool) → option_map_or (λ x. explicit_source x.source) (cond b (Some r) (find (λ x. bytes_eq x.id id) rs)) false ≡ true
        → (is_given id rs ≡ true → has_row id rs ≡ true) → (b || has_row id rs) ≡ true
    go true g later = refl
    go false g later = later g

pub given_first : (id : Text) (rows : List Row) → Good rows → is_given id rows ≡ true → HasFirst id (first_of id rows)
given_first id rows h given = row_first id rows h (given_row id rows given)

-- all values of a name that is given
pub given_all : (id : Text) (rows : List Row) → is_given id rows ≡ true → is_some (all_of id rows) ≡ true
given_all id rows given = go (find (λ r. bytes_eq r.id id) rows) given
  where
    go : (o : Option Row) → option_map_or (λ r. explicit_source r.source) o false ≡ true → is_some (option_map (λ r. r.values) o) ≡ true
    go None none = absurd (cc)
    go (Some r) some = refl

-- a default stands at the end
row_there : (id : Text) (change : Row → List Row) (new : Row) (rows : List Row) → new.id ≡ id
    → ((r : Row) → bytes_eq r.id id ≡ true → has_row id (change r) ≡ true) → has_row id (at_row id change (new ∷ []) rows) ≡ true
row_there id change new [] same kept = or_left (bytes_eq new.id id) false ((bytes_eq-Decides new.id id).1 same)
row_there id change new (r ∷ rs) same kept = go (bytes_eq r.id id) refl (row_there id change new rs same kept)
  where
    go : (b : Bool) → bytes_eq r.id id ≡ b → has_row id (at_row id change (new ∷ []) rs) ≡ true
        → has_row id (cond b (change r ++ rs) (r ∷ at_row id change (new ∷ []) rs)) ≡ true
    go true is later = any_left (λ x. bytes_eq x.id id) (change r) rs (kept r is)
    go false is later = or_right (bytes_eq r.id id) (has_row id (at_row id change (new ∷ []) rs)) later

pub default_there : (rows : List Row) (a : Rule) (v : Text) → a.defaults ≡ v ∷ [] → has_row a.id (with_default rows a) ≡ true
default_there rows a v is = go (has_row a.id rows) refl
  where
    go : (b : Bool) → has_row a.id rows ≡ b → has_row a.id (cond b rows (default_rows a.id (reading_by a) a.defaults rows)) ≡ true
    go true there = there
    go false there = subst (λ (values : List Text). has_row a.id (default_rows a.id (reading_by a) values rows) ≡ true) (sym is)
        (row_there a.id (more_values DefaultValue (v ∷ [])) _ rows refl (λ r same. or_left (bytes_eq r.id a.id) false same))

pub no_default : (rows : List Row) (a : Rule) → a.defaults ≡ [] → with_default rows a ≡ rows
no_default rows a none = go (has_row a.id rows)
  where
    go : (b : Bool) → cond b rows (default_rows a.id (reading_by a) a.defaults rows) ≡ rows
    go true = refl
    go false = ap (λ values. default_rows a.id (reading_by a) values rows) none

-- what is left of a text of a number that lies within 32 bits
pub number_accepted : (low high : ℕ) (text : Text) → high < 2 ^ 32 → is_unsigned_in low high text ≡ true → reads text ≡ true
number_accepted low high text fits_high h =
    let ds = without_leading_plus text in
    let n = digits_value 10 ds in
    let parts = and_parts (is_numeral ds) (nat_lt n (2 ^ 64) && (nat_le low n && nat_le n high)) h in
    let bounds = and_parts (nat_le low n) (nat_le n high) (and_parts (nat_lt n (2 ^ 64)) (nat_le low n && nat_le n high) parts.1).1 in
    let below : n ≤ high = leb-true n high bounds.1 in
    let small : nat_lt n (2 ^ 32) ≡ true = lt-ltb n (2 ^ 32) (omega arith) in
    ap (λ (b : Bool). is_some (cond b (Some n) None)) (and_from (is_numeral ds) (nat_lt n (2 ^ 32)) parts.0 small)

pub numbers_accepted : (a : Rule) (low high : ℕ) (values : List Text) → high < 2 ^ 32 → parser_of_value a.parser ≡ Unsigned low high → values_fault a values ≡ []
    → list_all reads values ≡ true
numbers_accepted a low high [] small is none = refl
numbers_accepted a low high (v ∷ vs) small is none =
    let parts = no_kinds (value_kinds a.ignore_case (parser_of_value a.parser) v) (values_fault a vs) none in
    and_from (reads v) (list_all reads vs) (number_accepted low high v small (passed (accepts a.ignore_case (parser_of_value a.parser) v) (refused_kind (parser_of_value a.parser)) parts.0 (ap (λ p. accepts a.ignore_case p v) is)))
    (numbers_accepted a low high vs small is parts.1)
  where
    passed : (b : Bool) (k : ErrorKind) → cond b [] (k ∷ []) ≡ [] → b ≡ is_unsigned_in low high v → is_unsigned_in low high v ≡ true
    passed true k e same = sym same
    passed false k e same = absurd (never_none k [] e)
