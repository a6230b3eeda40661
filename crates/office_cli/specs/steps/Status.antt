-- The exit statuses of the program.
use Rattle.std.specs.Prelude.{ℕ}
use Rattle.office_cli.specs.declared.status.ExitStatus.{ExitStatus}
use Rattle.office_cli.specs.declared.status.ExitStatus.TheVariants.{Negative, Usage, Refused, Failed}

-- the number that the process ends with, except 0 for success
abbrev pub code_of : ExitStatus → ℕ
code_of Negative = 1
code_of Usage = 2
code_of Refused = 3
code_of Failed = 4
