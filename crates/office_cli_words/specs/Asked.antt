-- What the words of the command line ask for.
use Rattle.std.specs.Prelude.{◌≡◌, ⊤, Result, Ok, Err, ℕ, Bool, false, ◌&&◌, ◌==◌, ◌^◌, codes, length, List, [], ◌∷◌, map, Option, Some, None, option_map, option_and_then, nat_lt, if◌then◌else◌, unwrap_or}
use Rattle.std.specs.List.{list_all}
use Rattle.std.specs.Option.{option_map_or}
use Rattle.std.specs.Str.{bytes_eq}
use Rattle.std.specs.Str.Parse.{digits_value, without_leading_plus}
use Rattle.std.specs.Char.{digit_value}
use Rattle.clap.specs.Words.{Row, Text, all_of, fault_of, first_of, subcommand_of}
use Rattle.clap.specs.Kinds.{Kinds}
use Rattle.office_cli_words.specs.Program.{office}
use Rattle.office_cli_words.specs.declared.Words.{Words}
use Rattle.office_cli_words.specs.declared.WordsFault.{WordsFault}
use Rattle.office_cli_words.specs.declared.WordsFault.TheVariants.{NoMemory, Usage}
use Rattle.office_cli_words.specs.declared.Words.TheVariants.{Compare, Replay, Serve, Waiting, Report, UnknownReport, Runs, Mail, Export, Check, Why, Try, Lint, Order, Hints, Propose, Breaks}
use Rattle.office_cli_words.specs.declared.reports.Report.{Report as ReportName}
use Rattle.office_cli_words.specs.declared.reports.Report.TheVariants.{Testing, Unstable, Excuses, Update}

-- what is asked: to compare two versions by an operator; to replay a bag for the setup in a file, over a store in a file or in memory;
-- to serve so many connections for it on a port, as these hosts; to tell what a run waits for; to tell a report, or one that isn't known; to tell the
-- finished runs; to tell the kept mail, by counts or message by message; to export it; to check the store; to tell what a run said of
-- sources, or of hints by their numbers; to try hints on a day, over the covered mail or over all; to tell which messages of a bag
-- are refused; to tell the next order on a day, or the hints in force; to tell hints that move groups, or free sources, on the same
-- terms as a trial; to tell what changes of testing break; or the version
pub data Asked : Type 0 where
  ToCompare : Text → Text → Text → Asked
  ToReplay : Text → Option Text → Asked
  ToServe : Text → ℕ → Option Text → ℕ → List Text → Asked
  ToTellWaiting : Text → Option Text → Asked
  ToReport : Text → Text → ReportName → Asked
  ToRefuseReport : Text → Option Text → Asked
  ToTellRuns : Text → Text → Asked
  ToTellMail : Bool → Text → Text → Asked
  ToExport : Text → Text → Asked
  ToCheck : Text → Text → Asked
  ToTellWhy : Bool → Text → Option Text → Option ℕ → List Text → Asked
  ToTry : Bool → Text → Option Text → Option Text → List Text → Asked
  ToLint : Text → Asked
  ToTellOrder : Text → Text → Text → Asked
  ToTellHints : Text → Text → Asked
  ToPropose : Bool → Text → Option Text → Option Text → List Text → Asked
  ToTellBreaks : Text → Option Text → Option ℕ → List Text → Asked
  ToTellVersion : Asked

-- what the words of a command added to the first three ask for
abbrev pub added_asked : Words → Asked
added_asked (Waiting conf db) = ToTellWaiting conf.now (option_map (λ text. text.now) db)
added_asked (Report conf db report) = ToReport conf.now db.now report
added_asked (UnknownReport run report) = ToRefuseReport run.now (option_map (λ text. text.now) report)
added_asked (Runs conf db) = ToTellRuns conf.now db.now
added_asked (Mail conf db list) = ToTellMail list conf.now db.now
added_asked (Export conf db) = ToExport conf.now db.now
added_asked (Check conf db) = ToCheck conf.now db.now
added_asked (Why conf db run hint sources) = ToTellWhy hint conf.now (option_map (λ text. text.now) db) run (map (λ text. text.now) sources.items)
added_asked (Try conf db day all hints) = ToTry all conf.now (option_map (λ text. text.now) db) (option_map (λ text. text.now) day) (map (λ text. text.now) hints.items)
added_asked (Lint conf) = ToLint conf.now
added_asked (Order day conf db) = ToTellOrder day.now conf.now db.now
added_asked (Hints conf db) = ToTellHints conf.now db.now
added_asked (Propose conf db day all sources) = ToPropose all conf.now (option_map (λ text. text.now) db) (option_map (λ text. text.now) day) (map (λ text. text.now) sources.items)
added_asked (Breaks conf db run changes) = ToTellBreaks conf.now (option_map (λ text. text.now) db) run (map (λ text. text.now) changes.items)
added_asked _ = ToTellVersion

-- what the words of a command ask
abbrev pub asked : Words → Asked
asked (Compare v1 op v2) = ToCompare v1.now op.now v2.now
asked (Replay conf db) = ToReplay conf.now (option_map (λ text. text.now) db)
asked (Serve conf port db connections hosts) = ToServe conf.now port (option_map (λ text. text.now) db) connections (map (λ text. text.now) hosts.items)
asked added = added_asked added

-- decimal digits, of a number of 32 bits
abbrev pub is_number : Text → Bool
is_number digits = nat_lt 0 (length digits) && list_all (λ d. nat_lt (digit_value d) 10) digits && nat_lt (digits_value 10 digits) (2 ^ 32)

-- the number in such a text, perhaps after a `+`
abbrev pub number_in : Text → Option ℕ
number_in text = if is_number (without_leading_plus text) then Some (digits_value 10 (without_leading_plus text)) else None

-- the number given under a name
abbrev pub number_of : Text → List Row → Option ℕ
number_of id rows = option_and_then number_in (first_of id rows)

-- the number of a run, from 1 on
abbrev pub run_in : Text → Option ℕ
run_in text = option_and_then (λ n. if n == 0 then None else Some n) (number_in text)

-- the report of a run that a word names
abbrev pub run_report : Text → ℕ → Option ReportName
run_report word run =
    if bytes_eq word (codes "excuses") then Some (Excuses run)
    else if bytes_eq word (codes "update") then Some (Update run)
    else None

-- the report that one word names
abbrev pub report_alone : Text → Option ReportName
report_alone word =
    if bytes_eq word (codes "testing") then Some Testing
    else if bytes_eq word (codes "unstable") then Some Unstable
    else None

-- the report that two words name: `testing` or `unstable` alone, or a run and one of its two reports
abbrev pub report_of : Text → Option Text → Option ReportName
report_of word None = report_alone word
report_of run (Some word) = option_and_then (run_report word) (run_in run)

-- what is asked for the setup in a file
abbrev pub for_setup : (Text → Asked) → List Row → Option Asked
for_setup ask rows = option_map ask (first_of (codes "conf") rows)

-- what is asked of the store in a file, for the setup in another
abbrev pub stored_in : (Text → Text → Asked) → List Row → Option Asked
stored_in ask rows = option_and_then (λ (conf : Text). option_map (ask conf) (first_of (codes "db") rows)) (first_of (codes "conf") rows)

-- what is asked of the values under a name, for the setup in a file
abbrev pub of_values : (Text → List Text → Asked) → Text → List Row → Option Asked
of_values ask id rows = option_and_then (λ (conf : Text). option_map (ask conf) (all_of id rows)) (first_of (codes "conf") rows)

-- whether a flag is set
abbrev pub is_set : Text → List Row → Bool
is_set id rows = option_map_or (λ value. bytes_eq value (codes "true")) (first_of id rows) false

-- what was given to each of the first three commands
abbrev pub compare_of : Option Text → Option Text → Option Text → Option Asked
compare_of (Some v1) (Some op) (Some v2) = Some (ToCompare v1 op v2)
compare_of _ _ _ = None

abbrev pub serve_of : Option Text → Option ℕ → Option Text → Option ℕ → List Text → Option Asked
serve_of (Some conf) (Some port) db (Some connections) hosts = Some (ToServe conf port db connections hosts)
serve_of _ _ _ _ _ = None

abbrev pub compare_in : List Row → Option Asked
compare_in rows = compare_of (first_of (codes "V1") rows) (first_of (codes "OP") rows) (first_of (codes "V2") rows)

abbrev pub replay_in : List Row → Option Asked
replay_in rows = for_setup (λ conf. ToReplay conf (first_of (codes "db") rows)) rows

abbrev pub serve_in : List Row → Option Asked
serve_in rows =
    serve_of (first_of (codes "conf") rows) (number_of (codes "port") rows) (first_of (codes "db") rows) (number_of (codes "connections") rows) (unwrap_or (all_of (codes "host") rows) [])

-- the report that two words name, or the refusal of the words
abbrev pub report_by : Text → Option Text → Text → Text → Asked
report_by run word conf db = option_map_or (ToReport conf db) (report_of run word) (ToRefuseReport run word)

-- what each command asks for, by what it is given
abbrev pub command_in : Text → List Row → Option Asked
command_in name rows =
    if bytes_eq name (codes "compare") then compare_in rows
    else if bytes_eq name (codes "replay") then replay_in rows
    else if bytes_eq name (codes "serve") then serve_in rows
    else if bytes_eq name (codes "waiting") then for_setup (λ conf. ToTellWaiting conf (first_of (codes "db") rows)) rows
    else if bytes_eq name (codes "report") then option_and_then (λ (run : Text). stored_in (report_by run (first_of (codes "REPORT") rows)) rows) (first_of (codes "RUN") rows)
    else if bytes_eq name (codes "runs") then stored_in ToTellRuns rows
    else if bytes_eq name (codes "mail") then stored_in (ToTellMail (is_set (codes "list") rows)) rows
    else if bytes_eq name (codes "export") then stored_in ToExport rows
    else if bytes_eq name (codes "check") then stored_in ToCheck rows
    else if bytes_eq name (codes "why") then of_values (λ conf. ToTellWhy (is_set (codes "hint") rows) conf (first_of (codes "db") rows) (number_of (codes "run") rows)) (codes "SOURCE") rows
    else if bytes_eq name (codes "try") then of_values (λ conf. ToTry (is_set (codes "all") rows) conf (first_of (codes "db") rows) (first_of (codes "day") rows)) (codes "HINT") rows
    else if bytes_eq name (codes "lint") then for_setup ToLint rows
    else if bytes_eq name (codes "order") then option_and_then (λ (day : Text). stored_in (ToTellOrder day) rows) (first_of (codes "day") rows)
    else if bytes_eq name (codes "hints") then stored_in ToTellHints rows
    else if bytes_eq name (codes "propose") then for_setup (λ conf. ToPropose (is_set (codes "all") rows) conf (first_of (codes "db") rows) (first_of (codes "day") rows) (unwrap_or (all_of (codes "SOURCE") rows) [])) rows
    else if bytes_eq name (codes "breaks") then of_values (λ conf. ToTellBreaks conf (first_of (codes "db") rows) (number_of (codes "run") rows)) (codes "CHANGE") rows
    else None

-- what clap makes of words counts if it finds no fault in them
abbrev pub if_faultless : Kinds → Option Asked → Option Asked
if_faultless [] found = found
if_faultless (kind ∷ more) found = None

-- what words ask for as clap's definition reads them in the program's command
unfoldable pub command_words_in : List Text → Option Asked
command_words_in words = if_faultless (fault_of office words) (option_and_then (λ found. command_in found.0 found.1) (subcommand_of office words))

-- the one word `--version`, after the program's name
abbrev pub asks_version : List Text → Bool
asks_version (program ∷ word ∷ []) = bytes_eq word (codes "--version")
asks_version _ = false

-- what words ask for, the program's name being the first
unfoldable pub words_in : List Text → Option Asked
words_in words = if asks_version words then Some ToTellVersion else command_words_in words

-- the result for the words: what they ask for, or that they ask for nothing. Memory may run out at any place
abbrev pub Gives : Result Words WordsFault → Option Asked → Type 0
Gives (Ok words) said = said ≡ Some (asked words)
Gives (Err (Usage error)) said = said ≡ None
Gives (Err NoMemory) said = ⊤

-- the exit status for words that ask for nothing
abbrev pub status_of_fault : WordsFault → ℕ
status_of_fault (Usage error) = 2
status_of_fault NoMemory = 4
