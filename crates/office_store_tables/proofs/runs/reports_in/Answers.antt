use Rattle.std.proofs.Common.{sym, subst}
use Rattle.std.proofs.lemmas.Str.{IsUtf8-string_bytes}
use Rattle.std.specs.Str.{IsUtf8}
use Rattle.office_store_tables.proofs.runs.reports_in.Goals as goal

pub returns-clause-texts : goal.returns-clause-texts
returns-clause-texts c = (subst IsUtf8 (sym c.from_string.ensures) (IsUtf8-string_bytes c.in_ok-excuses.excuses), subst IsUtf8 (sym c.from_string-2.ensures) (IsUtf8-string_bytes c.in_ok-updates.updates))
