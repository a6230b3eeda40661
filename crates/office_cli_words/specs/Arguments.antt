-- Why the arguments can't be read, and its exit status.
use Rattle.std.specs.Prelude.{ℕ}
use Rattle.office_cli_words.specs.declared.arguments.ArgsFault.{ArgsFault}
use Rattle.office_cli_words.specs.declared.arguments.ArgsFault.TheVariants.{NoMemory, NotUtf8}

-- the exit status: 4 if memory ran out, 2 for an argument that is no text
abbrev pub status_of_args : ArgsFault → ℕ
status_of_args NoMemory = 4
status_of_args NotUtf8 = 2
