-- The program's command, as it is made in parts.
use Rattle.std.specs.Prelude.{codes, [], ◌∷◌}
use Rattle.clap.specs.Words.{App, Text, new_rule, with_subcommand}
use Rattle.office_cli_words.specs.Program.{command, conf, db, flag, needed, of_three, option, place, run, several, stored}

-- each command that was added to the first three
abbrev pub waiting : App
waiting = command (codes "waiting") (conf ∷ db ∷ [])

abbrev pub report : App
report = command (codes "report") (place (codes "RUN") ∷ new_rule (codes "REPORT") ∷ conf ∷ stored ∷ [])

-- a command that needs a setup and a store, and takes no more: `runs`, `export`, `check` and `hints`
abbrev pub looking : Text → App
looking name = command name (conf ∷ stored ∷ [])

abbrev pub mail : App
mail = command (codes "mail") (conf ∷ stored ∷ flag (codes "list") ∷ [])

abbrev pub why : App
why = command (codes "why") (several (place (codes "SOURCE")) ∷ conf ∷ db ∷ run ∷ flag (codes "hint") ∷ [])

abbrev pub tries : App
tries = command (codes "try") (several (place (codes "HINT")) ∷ conf ∷ db ∷ option (codes "day") ∷ flag (codes "all") ∷ [])

abbrev pub lint : App
lint = command (codes "lint") (conf ∷ [])

abbrev pub order : App
order = command (codes "order") (needed (codes "day") ∷ conf ∷ stored ∷ [])

abbrev pub propose : App
propose = command (codes "propose") (several (new_rule (codes "SOURCE")) ∷ conf ∷ db ∷ option (codes "day") ∷ flag (codes "all") ∷ [])

abbrev pub breaks : App
breaks = command (codes "breaks") (several (place (codes "CHANGE")) ∷ conf ∷ db ∷ run ∷ [])

-- the command with the first five, nine, eleven and fifteen
unfoldable pub of_five : App
of_five = with_subcommand (with_subcommand of_three waiting.top) report.top

unfoldable pub of_nine : App
of_nine = with_subcommand (with_subcommand (with_subcommand (with_subcommand of_five (looking (codes "runs")).top) mail.top) (looking (codes "export")).top) (looking (codes "check")).top

unfoldable pub of_eleven : App
of_eleven = with_subcommand (with_subcommand of_nine why.top) tries.top

unfoldable pub of_fifteen : App
of_fifteen = with_subcommand (with_subcommand (with_subcommand (with_subcommand of_eleven lint.top) order.top) (looking (codes "hints")).top) propose.top
