-- Worked rows: what words ask for, by computing.
use Rattle.std.proofs.Common.{◌≡◌, true, false, refl, codes, [], ◌∷◌, Some, None}
use Rattle.clap.proofs.OnLiterals.{clap_on_literals}
use Rattle.office_cli_words.specs.Program.{of_three, office}
use Rattle.office_cli_words.specs.Asked.{ToCheck, ToCompare, ToExport, ToLint, ToPropose, ToRefuseReport, ToReplay, ToTellBreaks, ToReport, ToServe, ToTellHints, ToTellMail, ToTellOrder, ToTellRuns, ToTellVersion, ToTellWaiting, ToTellWhy, ToTry, command_words_in, words_in}
use Rattle.office_cli_words.specs.declared.reports.Report.TheVariants.{Excuses, Testing, Unstable, Update}

-- a service with its defaults
serve_by_default : words_in (codes "office" ∷ codes "serve" ∷ codes "--conf" ∷ codes "f" ∷ codes "--port" ∷ codes "80" ∷ []) ≡ Some (ToServe (codes "f") 80 None 1_000_000 [])
unfolding clap_on_literals of_three office command_words_in words_in
serve_by_default = refl

-- every option, in another order and form
serve_with_all : words_in (codes "office" ∷ codes "serve" ∷ codes "--connections=0" ∷ codes "--host=b" ∷ codes "--db" ∷ codes "g" ∷ codes "--port=65535" ∷ codes "--host" ∷ codes "a" ∷ codes "--conf=f" ∷ [])
    ≡ Some (ToServe (codes "f") 65_535 (Some (codes "g")) 0 (codes "b" ∷ codes "a" ∷ []))
unfolding clap_on_literals of_three office command_words_in words_in
serve_with_all = refl

no_port_zero : words_in (codes "office" ∷ codes "serve" ∷ codes "--conf" ∷ codes "f" ∷ codes "--port" ∷ codes "0" ∷ []) ≡ None
unfolding clap_on_literals of_three office command_words_in words_in
no_port_zero = refl

no_port_above : words_in (codes "office" ∷ codes "serve" ∷ codes "--conf" ∷ codes "f" ∷ codes "--port" ∷ codes "65536" ∷ []) ≡ None
unfolding clap_on_literals of_three office command_words_in words_in
no_port_above = refl

no_connections_above : words_in (codes "office" ∷ codes "serve" ∷ codes "--conf" ∷ codes "f" ∷ codes "--port" ∷ codes "80" ∷ codes "--connections" ∷ codes "1000001" ∷ []) ≡ None
unfolding clap_on_literals of_three office command_words_in words_in
no_connections_above = refl

-- the setup is needed, and an option stands once
no_setup : words_in (codes "office" ∷ codes "replay" ∷ codes "--db" ∷ codes "g" ∷ []) ≡ None
unfolding clap_on_literals of_three office command_words_in words_in
no_setup = refl

no_second_setup : words_in (codes "office" ∷ codes "replay" ∷ codes "--conf" ∷ codes "f" ∷ codes "--conf" ∷ codes "f" ∷ []) ≡ None
unfolding clap_on_literals of_three office command_words_in words_in
no_second_setup = refl

replay_over_a_file : words_in (codes "office" ∷ codes "replay" ∷ codes "--conf" ∷ codes "f" ∷ codes "--db" ∷ codes "g" ∷ []) ≡ Some (ToReplay (codes "f") (Some (codes "g")))
unfolding clap_on_literals of_three office command_words_in words_in
replay_over_a_file = refl

compare_versions : words_in (codes "office" ∷ codes "compare" ∷ codes "1.0~rc1" ∷ codes "lt" ∷ codes "1.0" ∷ []) ≡ Some (ToCompare (codes "1.0~rc1") (codes "lt") (codes "1.0"))
unfolding clap_on_literals of_three office command_words_in words_in
compare_versions = refl

-- a version that begins with a hyphen stands behind `--`
no_flag_for_version : words_in (codes "office" ∷ codes "compare" ∷ codes "-1" ∷ codes "lt" ∷ codes "1" ∷ []) ≡ None
unfolding clap_on_literals of_three office command_words_in words_in
no_flag_for_version = refl

version_behind_hyphens : words_in (codes "office" ∷ codes "compare" ∷ codes "--" ∷ codes "-1" ∷ codes "lt" ∷ codes "1" ∷ []) ≡ Some (ToCompare (codes "-1") (codes "lt") (codes "1"))
unfolding clap_on_literals of_three office command_words_in words_in
version_behind_hyphens = refl

-- requests for help, no words at all, and no command
help_is_usage : words_in (codes "office" ∷ codes "serve" ∷ codes "--help" ∷ []) ≡ None
unfolding clap_on_literals of_three office command_words_in words_in
help_is_usage = refl

no_words : words_in (codes "office" ∷ []) ≡ None
unfolding clap_on_literals of_three office command_words_in words_in
no_words = refl

no_such_command : words_in (codes "office" ∷ codes "settle" ∷ []) ≡ None
unfolding clap_on_literals of_three office command_words_in words_in
no_such_command = refl

-- what a run waits for, in memory and over a file
waiting_in_memory : words_in (codes "office" ∷ codes "waiting" ∷ codes "--conf" ∷ codes "f" ∷ []) ≡ Some (ToTellWaiting (codes "f") None)
unfolding clap_on_literals of_three office command_words_in words_in
waiting_in_memory = refl

waiting_over_a_file : words_in (codes "office" ∷ codes "waiting" ∷ codes "--db" ∷ codes "g" ∷ codes "--conf" ∷ codes "f" ∷ []) ≡ Some (ToTellWaiting (codes "f") (Some (codes "g")))
unfolding clap_on_literals of_three office command_words_in words_in
waiting_over_a_file = refl

-- each report, and words that name none
report_of_testing : words_in (codes "office" ∷ codes "report" ∷ codes "testing" ∷ codes "--conf" ∷ codes "f" ∷ codes "--db" ∷ codes "g" ∷ []) ≡ Some (ToReport (codes "f") (codes "g") Testing)
unfolding clap_on_literals of_three office command_words_in words_in
report_of_testing = refl

report_of_excuses : words_in (codes "office" ∷ codes "report" ∷ codes "3" ∷ codes "excuses" ∷ codes "--conf" ∷ codes "f" ∷ codes "--db" ∷ codes "g" ∷ []) ≡ Some (ToReport (codes "f") (codes "g") (Excuses 3))
unfolding clap_on_literals of_three office command_words_in words_in
report_of_excuses = refl

report_of_update : words_in (codes "office" ∷ codes "report" ∷ codes "--conf" ∷ codes "f" ∷ codes "--db" ∷ codes "g" ∷ codes "3" ∷ codes "update" ∷ []) ≡ Some (ToReport (codes "f") (codes "g") (Update 3))
unfolding clap_on_literals of_three office command_words_in words_in
report_of_update = refl

no_report_named : words_in (codes "office" ∷ codes "report" ∷ codes "1" ∷ codes "--conf" ∷ codes "f" ∷ codes "--db" ∷ codes "g" ∷ []) ≡ Some (ToRefuseReport (codes "1") None)
unfolding clap_on_literals of_three office command_words_in words_in
no_report_named = refl

no_report_of_testing : words_in (codes "office" ∷ codes "report" ∷ codes "testing" ∷ codes "update" ∷ codes "--conf" ∷ codes "f" ∷ codes "--db" ∷ codes "g" ∷ []) ≡ Some (ToRefuseReport (codes "testing") (Some (codes "update")))
unfolding clap_on_literals of_three office command_words_in words_in
no_report_of_testing = refl

no_report_of_run_zero : words_in (codes "office" ∷ codes "report" ∷ codes "0" ∷ codes "excuses" ∷ codes "--conf" ∷ codes "f" ∷ codes "--db" ∷ codes "g" ∷ []) ≡ Some (ToRefuseReport (codes "0") (Some (codes "excuses")))
unfolding clap_on_literals of_three office command_words_in words_in
no_report_of_run_zero = refl

no_report_in_memory : words_in (codes "office" ∷ codes "report" ∷ codes "1" ∷ codes "excuses" ∷ codes "--conf" ∷ codes "f" ∷ []) ≡ None
unfolding clap_on_literals of_three office command_words_in words_in
no_report_in_memory = refl

-- what is asked of the store in a file, which is needed
runs_of_a_file : words_in (codes "office" ∷ codes "runs" ∷ codes "--conf" ∷ codes "f" ∷ codes "--db" ∷ codes "g" ∷ []) ≡ Some (ToTellRuns (codes "f") (codes "g"))
unfolding clap_on_literals of_three office command_words_in words_in
runs_of_a_file = refl

no_runs_in_memory : words_in (codes "office" ∷ codes "runs" ∷ codes "--conf" ∷ codes "f" ∷ []) ≡ None
unfolding clap_on_literals of_three office command_words_in words_in
no_runs_in_memory = refl

export_of_a_file : words_in (codes "office" ∷ codes "export" ∷ codes "--db" ∷ codes "g" ∷ codes "--conf=f" ∷ []) ≡ Some (ToExport (codes "f") (codes "g"))
unfolding clap_on_literals of_three office command_words_in words_in
export_of_a_file = refl

no_export_without_a_setup : words_in (codes "office" ∷ codes "export" ∷ codes "--db" ∷ codes "g" ∷ []) ≡ None
unfolding clap_on_literals of_three office command_words_in words_in
no_export_without_a_setup = refl

check_of_a_file : words_in (codes "office" ∷ codes "check" ∷ codes "--conf" ∷ codes "f" ∷ codes "--db=g" ∷ []) ≡ Some (ToCheck (codes "f") (codes "g"))
unfolding clap_on_literals of_three office command_words_in words_in
check_of_a_file = refl

no_check_in_memory : words_in (codes "office" ∷ codes "check" ∷ codes "--conf" ∷ codes "f" ∷ []) ≡ None
unfolding clap_on_literals of_three office command_words_in words_in
no_check_in_memory = refl

-- mail by counts, or message by message; a flag has no value, and stands once
mail_by_counts : words_in (codes "office" ∷ codes "mail" ∷ codes "--conf" ∷ codes "f" ∷ codes "--db" ∷ codes "g" ∷ []) ≡ Some (ToTellMail false (codes "f") (codes "g"))
unfolding clap_on_literals of_three office command_words_in words_in
mail_by_counts = refl

mail_by_messages : words_in (codes "office" ∷ codes "mail" ∷ codes "--list" ∷ codes "--conf" ∷ codes "f" ∷ codes "--db" ∷ codes "g" ∷ []) ≡ Some (ToTellMail true (codes "f") (codes "g"))
unfolding clap_on_literals of_three office command_words_in words_in
mail_by_messages = refl

no_value_of_a_flag : words_in (codes "office" ∷ codes "mail" ∷ codes "--list=false" ∷ codes "--conf" ∷ codes "f" ∷ codes "--db" ∷ codes "g" ∷ []) ≡ None
unfolding clap_on_literals of_three office command_words_in words_in
no_value_of_a_flag = refl

no_second_flag : words_in (codes "office" ∷ codes "mail" ∷ codes "--list" ∷ codes "--list" ∷ codes "--conf" ∷ codes "f" ∷ codes "--db" ∷ codes "g" ∷ []) ≡ None
unfolding clap_on_literals of_three office command_words_in words_in
no_second_flag = refl

-- why sources stand where they stand: one or more, and a run by its number
why_by_default : words_in (codes "office" ∷ codes "why" ∷ codes "s" ∷ codes "--conf" ∷ codes "f" ∷ []) ≡ Some (ToTellWhy false (codes "f") None None (codes "s" ∷ []))
unfolding clap_on_literals of_three office command_words_in words_in
why_by_default = refl

-- what changes break: the same, with hints as changes
breaks_of_two : words_in (codes "office" ∷ codes "breaks" ∷ codes "s" ∷ codes "--run=2" ∷ codes "remove t/1" ∷ codes "--db" ∷ codes "g" ∷ codes "--conf=f" ∷ [])
    ≡ Some (ToTellBreaks (codes "f") (Some (codes "g")) (Some 2) (codes "s" ∷ codes "remove t/1" ∷ []))
unfolding clap_on_literals of_three office command_words_in words_in
breaks_of_two = refl

no_breaks_of_nothing : words_in (codes "office" ∷ codes "breaks" ∷ codes "--conf" ∷ codes "f" ∷ []) ≡ None
unfolding clap_on_literals of_three office command_words_in words_in
no_breaks_of_nothing = refl

why_of_two : words_in (codes "office" ∷ codes "why" ∷ codes "s" ∷ codes "--run=2" ∷ codes "t" ∷ codes "--db" ∷ codes "g" ∷ codes "--conf=f" ∷ [])
    ≡ Some (ToTellWhy false (codes "f") (Some (codes "g")) (Some 2) (codes "s" ∷ codes "t" ∷ []))
unfolding clap_on_literals of_three office command_words_in words_in
why_of_two = refl

why_of_hint : words_in (codes "office" ∷ codes "why" ∷ codes "--hint" ∷ codes "7" ∷ codes "--run=2" ∷ codes "--conf=f" ∷ [])
    ≡ Some (ToTellWhy true (codes "f") None (Some 2) (codes "7" ∷ []))
unfolding clap_on_literals of_three office command_words_in words_in
why_of_hint = refl

no_why_of_nothing : words_in (codes "office" ∷ codes "why" ∷ codes "--conf" ∷ codes "f" ∷ []) ≡ None
unfolding clap_on_literals of_three office command_words_in words_in
no_why_of_nothing = refl

no_why_of_run_zero : words_in (codes "office" ∷ codes "why" ∷ codes "s" ∷ codes "--run" ∷ codes "0" ∷ codes "--conf" ∷ codes "f" ∷ []) ≡ None
unfolding clap_on_literals of_three office command_words_in words_in
no_why_of_run_zero = refl

-- hints that are tried: one or more, on a day, over all mail
try_by_default : words_in (codes "office" ∷ codes "try" ∷ codes "block a" ∷ codes "--conf" ∷ codes "f" ∷ []) ≡ Some (ToTry false (codes "f") None None (codes "block a" ∷ []))
unfolding clap_on_literals of_three office command_words_in words_in
try_by_default = refl

try_with_all : words_in (codes "office" ∷ codes "try" ∷ codes "block a" ∷ codes "block b" ∷ codes "--all" ∷ codes "--day=2025-03-20" ∷ codes "--conf=f" ∷ codes "--db=g" ∷ [])
    ≡ Some (ToTry true (codes "f") (Some (codes "g")) (Some (codes "2025-03-20")) (codes "block a" ∷ codes "block b" ∷ []))
unfolding clap_on_literals of_three office command_words_in words_in
try_with_all = refl

no_try_of_nothing : words_in (codes "office" ∷ codes "try" ∷ codes "--conf" ∷ codes "f" ∷ []) ≡ None
unfolding clap_on_literals of_three office command_words_in words_in
no_try_of_nothing = refl

-- a bag of which the refusals are told, which no store belongs to
lint_of_a_bag : words_in (codes "office" ∷ codes "lint" ∷ codes "--conf" ∷ codes "f" ∷ []) ≡ Some (ToLint (codes "f"))
unfolding clap_on_literals of_three office command_words_in words_in
lint_of_a_bag = refl

no_lint_over_a_file : words_in (codes "office" ∷ codes "lint" ∷ codes "--conf" ∷ codes "f" ∷ codes "--db" ∷ codes "g" ∷ []) ≡ None
unfolding clap_on_literals of_three office command_words_in words_in
no_lint_over_a_file = refl

-- the next order on a day, which has to be named, and the hints of a file
order_on_a_day : words_in (codes "office" ∷ codes "order" ∷ codes "--day" ∷ codes "2025-03-20" ∷ codes "--conf" ∷ codes "f" ∷ codes "--db" ∷ codes "g" ∷ [])
    ≡ Some (ToTellOrder (codes "2025-03-20") (codes "f") (codes "g"))
unfolding clap_on_literals of_three office command_words_in words_in
order_on_a_day = refl

no_order_without_a_day : words_in (codes "office" ∷ codes "order" ∷ codes "--conf" ∷ codes "f" ∷ codes "--db" ∷ codes "g" ∷ []) ≡ None
unfolding clap_on_literals of_three office command_words_in words_in
no_order_without_a_day = refl

hints_of_a_file : words_in (codes "office" ∷ codes "hints" ∷ codes "--conf" ∷ codes "f" ∷ codes "--db" ∷ codes "g" ∷ []) ≡ Some (ToTellHints (codes "f") (codes "g"))
unfolding clap_on_literals of_three office command_words_in words_in
hints_of_a_file = refl

report_of_unstable : words_in (codes "office" ∷ codes "report" ∷ codes "unstable" ∷ codes "--conf" ∷ codes "f" ∷ codes "--db" ∷ codes "g" ∷ []) ≡ Some (ToReport (codes "f") (codes "g") Unstable)
unfolding clap_on_literals of_three office command_words_in words_in
report_of_unstable = refl

-- proposals: for no source or for some, on a day, over all mail
propose_by_default : words_in (codes "office" ∷ codes "propose" ∷ codes "--conf" ∷ codes "f" ∷ []) ≡ Some (ToPropose false (codes "f") None None [])
unfolding clap_on_literals of_three office command_words_in words_in
propose_by_default = refl

propose_with_all : words_in (codes "office" ∷ codes "propose" ∷ codes "s" ∷ codes "--day=2025-03-20" ∷ codes "t" ∷ codes "--all" ∷ codes "--conf=f" ∷ codes "--db" ∷ codes "g" ∷ [])
    ≡ Some (ToPropose true (codes "f") (Some (codes "g")) (Some (codes "2025-03-20")) (codes "s" ∷ codes "t" ∷ []))
unfolding clap_on_literals of_three office command_words_in words_in
propose_with_all = refl

-- the version is asked for by one word alone
version_alone : words_in (codes "office" ∷ codes "--version" ∷ []) ≡ Some ToTellVersion
unfolding clap_on_literals of_three office command_words_in words_in
version_alone = refl

no_version_of_a_command : words_in (codes "office" ∷ codes "serve" ∷ codes "--version" ∷ []) ≡ None
unfolding clap_on_literals of_three office command_words_in words_in
no_version_of_a_command = refl
