use Rattle.std.proofs.Common.{rules, sym, subst}
use Rattle.std.proofs.lemmas.Str.{IsUtf8-string_bytes}
use Rattle.std.specs.Str.{IsUtf8}
use Rattle.office_store_tables.proofs.runs.said_in.Goals as goal

pub returns-clause-fits : goal.returns-clause-fits
returns-clause-fits c = (search rules, search rules, subst IsUtf8 (sym c.from_string.ensures) (IsUtf8-string_bytes c.in_ok-setup.setup))
