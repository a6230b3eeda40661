use Rattle.std.proofs.Common.{append_assoc}
use Rattle.testing_rules_reports.proofs.report.push_offender.Goals as goal

pub returns : goal.returns
returns c = simp append_assoc (rw (c.name-arch.ensures, c.as_str-package.ensures) at c.writeln.ensures.bytes)
