-- The program's command line: a command of clap with a subcommand for each task.
use Rattle.std.specs.Prelude.{codes, fold, List, Some, true, [], ◌∷◌}
use Rattle.clap.specs.Words.{App, Rule, Text, new_app, new_rule, with_rule, with_subcommand}
use Rattle.clap.specs.declared.builder.action.ArgAction.TheVariants.{Append, SetTrue}
use Rattle.clap.specs.declared.builder.value_parser.ValueParser.TheVariants.{Unsigned}

-- a required value, by its place
abbrev pub place : Text → Rule
place id = record (new_rule id) { required = true }

-- a value that may be given several times
abbrev pub several : Rule → Rule
several rule = record rule { action = Some Append }

-- `--NAME VALUE`, which may be given once
abbrev pub option : Text → Rule
option id = record (new_rule id) { long = Some id; value_names = 1 }

-- the same, but required
abbrev pub needed : Text → Rule
needed id = record (option id) { required = true }

-- `--NAME` without a value
abbrev pub flag : Text → Rule
flag id = record (new_rule id) { long = Some id; action = Some SetTrue }

-- `--conf F`, and `--db F`, which some commands need
abbrev pub conf : Rule
conf = needed (codes "conf")

abbrev pub db : Rule
db = option (codes "db")

abbrev pub stored : Rule
stored = needed (codes "db")

-- `--port N`, from 1 to 65,535
abbrev pub port : Rule
port = record (needed (codes "port")) { parser = Some (Unsigned 1 65_535) }

-- `--connections C`, from 0 to 1,000,000; as many if it isn't given
abbrev pub connections : Rule
connections = record (option (codes "connections")) { parser = Some (Unsigned 0 1_000_000); defaults = codes "1000000" ∷ [] }

-- `--run K`, where K is a run's number
abbrev pub run : Rule
run = record (option (codes "run")) { parser = Some (Unsigned 1 999_999_999) }

-- a command with its values and options
abbrev pub command : Text → List Rule → App
command name rules = fold with_rule (new_app name) rules

-- `compare V1 OP V2`
abbrev pub compare : App
compare = command (codes "compare") (place (codes "V1") ∷ place (codes "OP") ∷ place (codes "V2") ∷ [])

-- `replay --conf F [--db F]`
abbrev pub replay : App
replay = command (codes "replay") (conf ∷ db ∷ [])

-- `serve --conf F --port N [--db F] [--connections C] [--host NAME]..`
abbrev pub serve : App
serve = command (codes "serve") (conf ∷ port ∷ db ∷ connections ∷ several (option (codes "host")) ∷ [])

-- `office COMMAND ..`: a command has to be named, and no words at all are a call for help
abbrev pub bare : App
bare = record (new_app (codes "office")) {
  top = record (new_app (codes "office")).top { subcommand_required = true; arg_required_else_help = true; disable_help_subcommand = true };
}

-- a command with these subcommands
abbrev pub with_commands : App → List App → App
with_commands whole parts = fold (λ (app part : App). with_subcommand app part.top) whole parts

-- the command that only compares, replays and serves
unfoldable pub of_three : App
of_three = with_commands bare (compare ∷ replay ∷ serve ∷ [])

-- The program's command. `why --hint` takes numbers of hints instead of sources.
unfoldable pub office : App
office = with_commands of_three (
    command (codes "waiting") (conf ∷ db ∷ [])
    ∷ command (codes "report") (place (codes "RUN") ∷ new_rule (codes "REPORT") ∷ conf ∷ stored ∷ [])
    ∷ command (codes "runs") (conf ∷ stored ∷ [])
    ∷ command (codes "mail") (conf ∷ stored ∷ flag (codes "list") ∷ [])
    ∷ command (codes "export") (conf ∷ stored ∷ [])
    ∷ command (codes "check") (conf ∷ stored ∷ [])
    ∷ command (codes "why") (several (place (codes "SOURCE")) ∷ conf ∷ db ∷ run ∷ flag (codes "hint") ∷ [])
    ∷ command (codes "try") (several (place (codes "HINT")) ∷ conf ∷ db ∷ option (codes "day") ∷ flag (codes "all") ∷ [])
    ∷ command (codes "lint") (conf ∷ [])
    ∷ command (codes "order") (needed (codes "day") ∷ conf ∷ stored ∷ [])
    ∷ command (codes "hints") (conf ∷ stored ∷ [])
    ∷ command (codes "propose") (several (new_rule (codes "SOURCE")) ∷ conf ∷ db ∷ option (codes "day") ∷ flag (codes "all") ∷ [])
    ∷ command (codes "breaks") (several (place (codes "CHANGE")) ∷ conf ∷ db ∷ run ∷ []) ∷ []
    )
