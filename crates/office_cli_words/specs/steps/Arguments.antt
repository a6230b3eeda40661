-- Steps beside `specs/Arguments.antt`.
use Rattle.std.specs.declared.io.ErrorKind.{ErrorKind}
use Rattle.std.specs.declared.io.ErrorKind.TheVariants.{OutOfMemory}
use Rattle.office_cli_words.specs.declared.arguments.ArgsFault.{ArgsFault}
use Rattle.office_cli_words.specs.declared.arguments.ArgsFault.TheVariants.{NoMemory, NotUtf8}

-- the fault for a fault of the system: unless memory ran out, an argument isn't UTF-8
abbrev pub told_as : ErrorKind → ArgsFault
told_as OutOfMemory = NoMemory
told_as _ = NotUtf8
