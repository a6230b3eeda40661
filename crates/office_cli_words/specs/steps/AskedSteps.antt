-- What was given to each command that was added to the first three.
use Rattle.std.specs.Prelude.{codes, List, [], Option, option_and_then, unwrap_or}
use Rattle.clap.specs.Words.{Row, Text, all_of, first_of}
use Rattle.office_cli_words.specs.Asked.{Asked, ToLint, ToPropose, ToTellBreaks, ToTellMail, ToTellOrder, ToTellWaiting, ToTellWhy, ToTry, command_in, for_setup, is_set, number_of, of_values, report_by, stored_in}

abbrev pub waiting_in : List Row → Option Asked
waiting_in rows = for_setup (λ conf. ToTellWaiting conf (first_of (codes "db") rows)) rows

abbrev pub report_in : List Row → Option Asked
report_in rows = option_and_then (λ (run : Text). stored_in (report_by run (first_of (codes "REPORT") rows)) rows) (first_of (codes "RUN") rows)

abbrev pub mail_in : List Row → Option Asked
mail_in rows = stored_in (ToTellMail (is_set (codes "list") rows)) rows

abbrev pub why_in : List Row → Option Asked
why_in rows = of_values (λ conf. ToTellWhy (is_set (codes "hint") rows) conf (first_of (codes "db") rows) (number_of (codes "run") rows)) (codes "SOURCE") rows

abbrev pub try_in : List Row → Option Asked
try_in rows = of_values (λ conf. ToTry (is_set (codes "all") rows) conf (first_of (codes "db") rows) (first_of (codes "day") rows)) (codes "HINT") rows

abbrev pub lint_in : List Row → Option Asked
lint_in rows = for_setup ToLint rows

abbrev pub order_in : List Row → Option Asked
order_in rows = option_and_then (λ (day : Text). stored_in (ToTellOrder day) rows) (first_of (codes "day") rows)

abbrev pub propose_in : List Row → Option Asked
propose_in rows = for_setup (λ conf. ToPropose (is_set (codes "all") rows) conf (first_of (codes "db") rows) (first_of (codes "day") rows) (unwrap_or (all_of (codes "SOURCE") rows) [])) rows

abbrev pub breaks_in : List Row → Option Asked
breaks_in rows = of_values (λ conf. ToTellBreaks conf (first_of (codes "db") rows) (number_of (codes "run") rows)) (codes "CHANGE") rows

-- by the command that the words name and what they give it
abbrev pub asked_by : Option (Text × List Row) → Option Asked
asked_by entered = option_and_then (λ found. command_in found.0 found.1) entered
