use Rattle.std.proofs.Common.{◌≡◌, take}
use Rattle.testing_rules_reports.specs.steps.LentLines.{lent_lines}
use Rattle.testing_rules_suites.specs.steps.JudgedRows.{answers}
use Rattle.office_core_breaks.specs.steps.Worked.{working_names}
use Rattle.office_core_breaks.proofs.broken.working_names.Given as goal

-- those so far
abbrev pub invariant-loop-judged : goal.invariant-loop-judged
invariant-loop-judged l = lent_lines l.names.items ≡ working_names l.place (answers (take l.judged-index l.before))
